-- Where the head of a request ends.
-- Assumes nothing.
use Rattle.std.specs.Prelude.{◌≡◌, ℕ, ◌+◌, ◌≤◌, Bool, cond, ◌&&◌, eqb, leb, Option, None, Some, Result}
use Rattle.std.specs.Prelude.{List, [], ◌∷◌, length, take, drop, get_or}
use Rattle.octets.specs.Outcome.{Outcome, given}
use Rattle.octets.specs.Refusal.{outcome}
use Rattle.octets.specs.declared.refusal.Refusal.{Refusal}

-- what the code's answer says
abbrev pub head_outcome : Result ℕ Refusal → Outcome ℕ
head_outcome = outcome (λ n. n)

-- s begins with CR LF CR LF, which is 13 10 13 10
abbrev pub ends_head : List ℕ → Bool
ends_head s = eqb (get_or s 0 0) 13 && eqb (get_or s 1 0) 10 && eqb (get_or s 2 0) 13 && eqb (get_or s 3 0) 10

-- where "the first CR LF CR LF" of s ends, i bytes standing before s
unfoldable pub end_from : ℕ → List ℕ → Option ℕ
end_from i [] = None
end_from i (b ∷ s) = cond (ends_head (b ∷ s)) (Some (i + 4)) (end_from (i + 1) s)

-- a search of s may go on from one place to another: from both on, the first CR LF CR LF ends at the same place
pub record Passed (s : List ℕ) (from to : ℕ) : Type 0 where
  pub onward : from ≤ to
  pub inside : to ≤ length s
  pub same : end_from from (drop from s) ≡ end_from to (drop to s)

-- how many bytes the head at the start of s has: "The head ends with the first CR LF CR LF. If none ends within the first 8,192 bytes:
-- 11 when 8,192 or more bytes are present, else 1."
unfoldable pub head_of : List ℕ → Outcome ℕ
head_of s = given (end_from 0 (take 8192 s)) (cond (leb 8192 (length s)) 11 1)
