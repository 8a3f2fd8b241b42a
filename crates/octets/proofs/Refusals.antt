-- Which numbers a chain of refusals can give.
-- Assumes nothing.
use Prim.Native.Nat.{ℕ}
use Prim.{absurd}
use mathlib.Core.Path.{◌≡◌, refl, ap, ◌∙◌}
use mathlib.Core.Bool.{Bool, true, false, ◌||◌, false≢true}
use mathlib.Core.List.{List, [], ◌∷◌}
use lib.Dec.{eqb}
use borrow.Author.Tests.{eqb-true}
use Rattle.std.proofs.Common.{Option, None, Some}
use Rattle.octets.specs.Outcome.{Outcome, refused, gives, then, need, given}
use Rattle.octets.specs.Kinds.{one_of}
use Rattle.octets.specs.Scan.{all_of}
use Rattle.octets.proofs.Bools.{and_left, and_right}

-- a refusal's number is one of ns
pub data Refuses (ns : List ℕ) {A : Type 0} : Outcome A → Type 0 where
  with_number : {n : ℕ} → one_of ns n ≡ true → Refuses ns (refused n)
  not_refused : {a : A} → Refuses ns (gives a)

pub number-of : {ns : List ℕ} {A : Type 0} {o : Outcome A} (n : ℕ) → Refuses ns o → o ≡ refused n → one_of ns n ≡ true
number-of n (with_number h) e = cc
number-of n not_refused e = cc

-- a refusal with one number has that number
pub only-number : {A : Type 0} {o : Outcome A} (n m : ℕ) → Refuses (m ∷ []) o → o ≡ refused n → n ≡ m
only-number n m r e = by (eqb n m) refl (number-of n r e)
  where
    by : (t : Bool) → eqb n m ≡ t → t || false ≡ true → n ≡ m
    by true q h = eqb-true n m q
    by false q h = absurd (false≢true h)

-- what holds of each of ms holds of a number that is one of them
pub one_of_all : (p : ℕ → Bool) (ms : List ℕ) → all_of p ms ≡ true → (n : ℕ) → one_of ms n ≡ true → p n ≡ true
unfolding all_of
one_of_all p [] a n h = absurd (false≢true h)
one_of_all p (m ∷ ms) a n h = by (eqb n m) refl (one_of_all p ms (and_right (p m) (all_of p ms) a) n) h
  where
    by : (t : Bool) → eqb n m ≡ t → (one_of ms n ≡ true → p n ≡ true) → t || one_of ms n ≡ true → p n ≡ true
    by true q ih h = ap p (eqb-true n m q) ∙ and_left (p m) (all_of p ms) a
    by false q ih h = ih h

-- a step whose numbers are known to be among ms refuses with numbers of ns, where each of ms is one of them
pub refuses-within :
    {ns : List ℕ} (ms : List ℕ) → all_of (one_of ns) ms ≡ true → {A : Type 0} (o : Outcome A) → ((n : ℕ) → o ≡ refused n → one_of ms n ≡ true)
    → Refuses ns o
refuses-within {ns} ms a (refused n) h = with_number (one_of_all (one_of ns) ms a n (h n refl))
refuses-within ms a (gives x) h = not_refused

module _ {ns : List ℕ} where
  -- a step that is known to refuse with one number alone
  pub refuses-only : {A : Type 0} (o : Outcome A) (m : ℕ) → one_of ns m ≡ true → ((n : ℕ) → o ≡ refused n → n ≡ m) → Refuses ns o
  refuses-only (refused n) m t h = with_number (ap (one_of ns) (h n refl) ∙ t)
  refuses-only (gives a) m t h = not_refused

  pub refuses-then : {A B : Type 0} {o : Outcome A} {f : A → Outcome B} → Refuses ns o → ((a : A) → Refuses ns (f a)) → Refuses ns (then o f)
  refuses-then (with_number h) k = with_number h
  refuses-then (not_refused {a}) k = k a

  pub refuses-need : {A : Type 0} {o : Outcome A} (t : Bool) (n : ℕ) → one_of ns n ≡ true → Refuses ns o → Refuses ns (need t n o)
  refuses-need true n h k = k
  refuses-need false n h k = with_number h

  pub refuses-given : {A : Type 0} (o : Option A) (n : ℕ) → one_of ns n ≡ true → Refuses ns (given o n)
  refuses-given None n h = with_number h
  refuses-given (Some a) n h = not_refused
