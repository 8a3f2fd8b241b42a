-- The value of Status.
-- Assumes nothing.
use Rattle.std.specs.Prelude.{ℕ, Bool, cond, ◌||◌, List, eqb, length, take, get_or, Option, None, Some, Result}
use Rattle.octets.specs.Outcome.{Outcome, gives, then, given}
use Rattle.octets.specs.Kinds.{within}
use Rattle.octets.specs.Decimal.{number_of}
use Rattle.octets.specs.Refusal.{outcome}
use Rattle.octets.specs.declared.refusal.Refusal.{Refusal}
use Rattle.response.specs.Head.{Value}

-- "three .., alone or followed by a space and any reason": a space, which is 32, stands behind the third byte
unfoldable pub three_alone : List ℕ → Bool
three_alone v = eqb (length v) 3 || eqb (get_or v 3 0) 32

-- "200 to 599"
abbrev pub in_range : Option ℕ → Option ℕ
in_range None = None
in_range (Some n) = cond (within 200 599 n) (Some n) None

-- "Status is three digits, alone or followed by a space and any reason, 200 to 599"
unfoldable pub status_of : List ℕ → Option ℕ
status_of v = cond (three_alone v) (in_range (number_of (take 3 v))) None

-- .. where there is a Status; else 25
abbrev pub stated_in : Option Value → Outcome (Option ℕ)
stated_in None = gives None
stated_in (Some v) = then (given (status_of v.bytes) 25) (λ n. gives (Some n))

-- what the code's answer says
abbrev pub stated_outcome : Result (Option ℕ) Refusal → Outcome (Option ℕ)
stated_outcome = outcome (λ o. o)
