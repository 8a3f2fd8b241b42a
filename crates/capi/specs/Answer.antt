-- What every call returns, and what it leaves in the lent list.
-- Assumes nothing.
use Rattle.std.specs.Prelude.{ℕ, ◌≡◌, List, length}
use Rattle.octets.specs.Outcome.{Outcome, refused, gives, then}
use Rattle.scgi.specs.Write.{in_room, output_after}

-- the numbers that a call gives into a lent list: a list too short for them is 21, last of all
abbrev pub fitting : Outcome (List ℕ) → List ℕ → Outcome (List ℕ)
fitting o list = then o (λ ns. in_room ns (length list))

-- "Every refusal returns its number and nothing else"; where there is none, 0
abbrev pub returned : Outcome (List ℕ) → ℕ
returned (refused n) = n
returned (gives ns) = 0

-- a call that gives these numbers returns r, and makes of the list before the list after: the numbers at its front and the rest as it was,
-- or no change at a refusal
pub record Answered (o : Outcome (List ℕ)) (before after : List ℕ) (r : ℕ) : Type 0 where
  pub number : r ≡ returned (fitting o before)
  pub list : after ≡ output_after (fitting o before) before

-- what is due where the list is too short for the numbers, whatever they are: a refusal that comes before, or else 21
abbrev pub untold : {A : Type 0} → Outcome A → Outcome (List ℕ)
untold o = then o (λ a. refused 21)
