-- A script's response under two editions of the Location rule.
-- Assumes nothing.
use Rattle.std.specs.Prelude.{ℕ, ◌≡◌, Bool, true, cond, not, ◌||◌, List, eqb, Option, None, Some, Result}
use Rattle.std.specs.Result.{result_ok}
use Rattle.octets.specs.Text.{bytes}
use Rattle.octets.specs.Outcome.{Outcome, then, need}
use Rattle.octets.specs.Compare.{same_bytes}
use Rattle.response.specs.Head.{Head, head_of}
use Rattle.response.specs.declared.table.Answer.{Answer}
use Rattle.response.specs.Response.{named, first_value, is_there, judged_head}
use Rattle.editions.specs.declared.edition.Edition.{Edition}
use Rattle.editions.specs.declared.edition.Edition.TheVariants.{Rfc, Draft}
use Rattle.editions.specs.declared.edition.UnknownEdition.{UnknownEdition}

-- the edition that a number of C programs names
abbrev pub named_edition : ℕ → Option Edition
named_edition n = cond (eqb n 0) (Some Rfc) (cond (eqb n 1) (Some Draft) None)

abbrev pub Names : ℕ → Result Edition UnknownEdition → Type 0
Names n r = result_ok r ≡ named_edition n

-- "GET or HEAD", "compared byte by byte"
abbrev pub may_redirect : List ℕ → Bool
may_redirect method = same_bytes method (bytes "GET") || same_bytes method (bytes "HEAD")

-- "a Location": the head has a field of that name, letter case aside, whatever its value
abbrev pub located : Head → Bool
located h = is_there (first_value (named (bytes "location") h.fields))

-- "a script may send Location only if the method is GET or HEAD. RFC 3875 has no such rule": what an edition allows with a method, where
-- there is a Location or not
abbrev pub allowed : Edition → List ℕ → Bool → Bool
allowed Rfc method location = true
allowed Draft method location = not location || may_redirect method

-- "Under the draft edition a Location with any other method .. is 25; all else, and the whole RFC edition, stays as in 01": the output's
-- head is read first, so its 24 comes before
unfoldable pub response_by : Edition → List ℕ → List ℕ → Outcome Answer
response_by e method s = then (head_of s) (λ h. need (allowed e method (located h)) 25 (judged_head s h))
