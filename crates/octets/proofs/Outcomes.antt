-- What a chain that gives an answer says of its links.
-- Assumes nothing.
use Prim.Native.Nat.{ℕ}
use Prim.{absurd}
use native.Mathlib.Omega.{arith}
use mathlib.Core.Path.{◌≡◌, refl}
use mathlib.Core.Bool.{Bool, true, false, false≢true}
use Rattle.std.proofs.Common.{Option, None, Some}
use Rattle.std.specs.Prelude.{ok_or}
use Rattle.octets.specs.Refusal.{outcome, number_of}
use Rattle.octets.specs.declared.refusal.Refusal.{Refusal}
use Rattle.octets.specs.Outcome.{Outcome, refused, gives, is_good, then, need, given}

module _ {A : Type 0} where
  pub need-gives : (t : Bool) (n : ℕ) (o : Outcome A) (a : A) → need t n o ≡ gives a → (t ≡ true) × (o ≡ gives a)
  need-gives true n o a e = (refl, e)
  need-gives false n o a e = (cc, cc)

  pub given-gives : (o : Option A) (n : ℕ) (a : A) → given o n ≡ gives a → o ≡ Some a
  given-gives None n a e = cc
  given-gives (Some b) n a e = cc

-- an answer is given once
pub gives-once : {A : Type 0} (a b : A) → gives a ≡ gives b → a ≡ b
gives-once a b e = cc

-- the answer, where there is one
pub record Given {A : Type 0} (o : Outcome A) : Type 0 where
  pub it : A
  pub is : o ≡ gives it

pub good-gives : {A : Type 0} (o : Outcome A) → is_good o ≡ true → Given o
good-gives (gives a) e = record { it = a; is = refl }
good-gives (refused n) e = absurd (false≢true e)

pub record Gave {A B : Type 0} (o : Outcome A) (f : A → Outcome B) (b : B) : Type 0 where
  pub it : A
  pub first : o ≡ gives it
  pub next : f it ≡ gives b

pub then-gives : {A B : Type 0} (o : Outcome A) (f : A → Outcome B) (b : B) → then o f ≡ gives b → Gave o f b
then-gives (refused n) f b e = record { it = absurd (let z : ◌≡◌ {A = ℕ} 0 1 = cc in omega arith); first = cc; next = cc }
then-gives (gives a) f b e = record { it = a; first = refl; next = e }

-- a chain in a chain is one chain
pub then-then : {A B C : Type 0} (o : Outcome A) (f : A → Outcome B) (g : B → Outcome C) → then (then o f) g ≡ then o (λ a. then (f a) g)
then-then (refused n) f g = refl
then-then (gives a) f g = refl

-- links that agree on every answer make equal chains
pub then_same : {A B : Type 0} (o : Outcome A) (f g : A → Outcome B) → ((a : A) → f a ≡ g a) → then o f ≡ then o g
then_same (refused n) f g h = refl
then_same (gives a) f g h = h a

-- what may be missing, or the refusal
pub or_refused : {A : Type 0} (o : Option A) (e : Refusal) → outcome (λ a. a) (ok_or o e) ≡ given o (number_of e)
or_refused None e = refl
or_refused (Some a) e = refl
