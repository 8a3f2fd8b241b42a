-- What a call gives: one of 01's refusal numbers, or its answer; and the links of a chain of refusals.
-- Assumes nothing.
use Rattle.std.specs.Prelude.{ℕ, Bool, true, false, cond, Option, None, Some}

pub data Outcome (A : Type 0) : Type 0 where
  refused : ℕ → Outcome A
  gives : A → Outcome A

-- the number of a refusal; 0, which no refusal has, where there is none
abbrev pub refusal_of : {A : Type 0} → Outcome A → ℕ
refusal_of (refused n) = n
refusal_of (gives a) = 0

-- whether there is an answer
abbrev pub is_good : {A : Type 0} → Outcome A → Bool
is_good (gives a) = true
is_good (refused n) = false

-- the next step, where the one before gave an answer: "A refusal by a lower step is handed up as it is"
abbrev pub then : {A B : Type 0} → Outcome A → (A → Outcome B) → Outcome B
then (refused n) f = refused n
then (gives a) f = f a

-- what comes next, where the test holds; else the number
abbrev pub need : {A : Type 0} → Bool → ℕ → Outcome A → Outcome A
need t n next = cond t next (refused n)

-- what is there, or the number
abbrev pub given : {A : Type 0} → Option A → ℕ → Outcome A
given None n = refused n
given (Some a) n = gives a
