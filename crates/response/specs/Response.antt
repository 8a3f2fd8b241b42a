-- A script's response: what its whole output asks of the server.
-- Assumes nothing.
use Rattle.std.specs.Prelude.{ℕ, Bool, true, false, cond, ◌&&◌, List, [], ◌∷◌, leb, length, Option, None, Some}
use Rattle.octets.specs.Text.{bytes}
use Rattle.octets.specs.Outcome.{Outcome, then, need}
use Rattle.octets.specs.Compare.{same_letters}
use Rattle.response.specs.Head.{Value, Named, Head, head_of}
use Rattle.response.specs.Status.{stated_in}
use Rattle.response.specs.Location.{filled, location_right}
use Rattle.response.specs.Table.{script_of, table_of}
use Rattle.response.specs.declared.table.Answer.{Answer}

-- the fields with a name: names are "compared letter case aside"
unfoldable pub named : List ℕ → List Named → List Named
named n [] = []
named n (f ∷ fs) = cond (same_letters f.name n) (f ∷ named n fs) (named n fs)

-- "at most once"
abbrev pub at_most_once : List Named → Bool
at_most_once fs = leb (length fs) 1

-- "Content-Type, Location and Status at most once each"
abbrev pub each_once : List Named → Bool
each_once fs = at_most_once (named (bytes "content-type") fs) && at_most_once (named (bytes "location") fs) && at_most_once (named (bytes "status") fs)

-- the value of the first field, where there is one
abbrev pub first_value : List Named → Option Value
first_value [] = None
first_value (f ∷ fs) = Some f.value

abbrev pub is_there : Option Value → Bool
is_there None = false
is_there (Some v) = true

-- "Then, or 25": what is asked of the values of Content-Type, Location and Status, and the table. s is the output, whose head has n fields
-- and ends at a place
abbrev pub judged : List ℕ → ℕ → ℕ → Option Value → Option Value → Option Value → Outcome Answer
judged s ends n content location status =
    need (filled content) 25
    (need (filled location && location_right location) 25
    (then (stated_in status) (λ t. table_of (script_of s ends n (is_there content) location t))))

-- .. of a head
abbrev pub judged_head : List ℕ → Head → Outcome Answer
judged_head s h =
    let fs = h.fields in
    need (each_once fs) 25
    (judged s h.ends (length fs) (first_value (named (bytes "content-type") fs)) (first_value (named (bytes "location") fs))
    (first_value (named (bytes "status") fs)))

-- "The input is the script's whole output." 24 over the whole head, and only "Then, or 25". An output that begins with an empty line has no
-- field, and the table has no row for it: 25
unfoldable pub response_of : List ℕ → Outcome Answer
response_of s = then (head_of s) (λ h. judged_head s h)
