-- Laws of equal bytes: what the test says, and one byte at a time from the end.
-- Assumes nothing.
use mathlib.Core.Path.{◌≡◌, refl, sym, ap, ◌∙◌}
use mathlib.Core.Bool.{Bool, true, false, false≢true}
use mathlib.Core.List.{List, [], ◌∷◌, map}
use Prim.Native.Nat.{ℕ, zero, suc, ◌+◌, ◌-◌, ◌≤◌, ◌<◌}
use native.Mathlib.Omega.{arith}
use lib.Dec.{eqb}
use lib.ListN.{length, drop, get_or, drop_of_length-le}
use borrow.Author.Tests.{eq-eqb, ne_eqb, eqb-true}
use Rattle.octets.specs.Compare.{same_bytes}
use Rattle.octets.proofs.Bools.{and_left, and_right, and-false}
use Rattle.octets.proofs.Lists.{next}

pub same_true : (a b : List ℕ) → same_bytes a b ≡ true → a ≡ b
unfolding same_bytes
same_true [] [] e = refl
same_true [] (y ∷ b) e = cc
same_true (x ∷ a) [] e = cc
same_true (x ∷ a) (y ∷ b) e =
    let h : x ≡ y = eqb-true x y (and_left (eqb x y) (same_bytes a b) e) in
    cc (h, same_true a b (and_right (eqb x y) (same_bytes a b) e))

pub same_refl : (a : List ℕ) → same_bytes a a ≡ true
unfolding same_bytes
same_refl [] = refl
same_refl (x ∷ a) = rw (eq-eqb x x refl, same_refl a)

pub same_false : (a b : List ℕ) → (a ≡ b → ⊥) → same_bytes a b ≡ false
same_false a b h = by (same_bytes a b) refl
  where
    by : (t : Bool) → same_bytes a b ≡ t → same_bytes a b ≡ false
    by true e = absurd (h (same_true a b e))
    by false e = e

pub other-lengths : (a b : List ℕ) → (length a ≡ length b → ⊥) → same_bytes a b ≡ false
other-lengths a b h = same_false a b (λ e. h (ap length e))

pub same-turned : (a b : List ℕ) → same_bytes a b ≡ same_bytes b a
same-turned a b = by (same_bytes a b) refl
  where
    by : (t : Bool) → same_bytes a b ≡ t → same_bytes a b ≡ same_bytes b a
    by true e = ap (λ x. same_bytes x b) (same_true a b e) ∙ ap (same_bytes b) (sym (same_true a b e))
    by false e = e ∙ sym (same_false b a (λ h. false≢true (sym e ∙ ap (same_bytes a) h ∙ same_refl a)))

-- For loops that compare what f makes of each byte; f is the byte itself where bytes are compared exactly.

module _ (f : ℕ → ℕ) where
  pub other_length : (a b : List ℕ) → (length a ≡ length b → ⊥) → same_bytes (map f a) (map f b) ≡ false
  unfolding same_bytes
  other_length [] [] h = absurd (h refl)
  other_length [] (y ∷ b) h = refl
  other_length (x ∷ a) [] h = refl
  other_length (x ∷ a) (y ∷ b) h = rw (other_length a b (λ e. h (ap suc e))) (and-false (eqb (f x) (f y)))

  -- one byte that differs decides
  pub byte-differs : (a b : List ℕ) (i : ℕ) → i < length a → length a ≡ length b → (f (get_or a i 0) ≡ f (get_or b i 0) → ⊥) → same_bytes (map f a) (map f b) ≡ false
  unfolding same_bytes
  byte-differs [] b i h l e = absurd (omega arith)
  byte-differs (x ∷ a) [] i h l e = refl
  byte-differs (x ∷ a) (y ∷ b) zero h l e = simp (ne_eqb _ _ e)
  byte-differs (x ∷ a) (y ∷ b) (suc i) h l e = rw (byte-differs a b i (omega arith) (omega arith) e) (and-false (eqb (f x) (f y)))

  module _ (a b : List ℕ) (i : ℕ) (l : length a ≡ length b) where
    -- nothing stands behind the end
    pub same-behind : length a ≤ i → same_bytes (map f (drop i a)) (map f (drop i b)) ≡ true
    unfolding same_bytes
    same-behind h =
        let h' : length b ≤ i = omega arith in
        rw (drop_of_length-le a h, drop_of_length-le b h')

    -- one byte more from the end
    pub byte-same :
        0 < i → i ≤ length a → f (get_or a (i - 1) 0) ≡ f (get_or b (i - 1) 0) → same_bytes (map f (drop i a)) (map f (drop i b)) ≡ true
        → same_bytes (map f (drop (i - 1) a)) (map f (drop (i - 1) b)) ≡ true
    unfolding same_bytes
    byte-same p h e s =
        let z : i - 1 + 1 ≡ i = omega arith in
        rw (next a (i - 1) (omega arith), next b (i - 1) (omega arith), z) (simp (eq-eqb _ _ e) s)

    -- all of them
    pub all_same : same_bytes (map f (drop i a)) (map f (drop i b)) ≡ true → i ≤ 0 → same_bytes (map f a) (map f b) ≡ true
    all_same s h =
        let z : i ≡ 0 = omega arith in
        rw z at s

map-self : (s : List ℕ) → map (λ b. b) s ≡ s
map-self [] = refl
map-self (b ∷ s) = ap (◌∷◌ b) (map-self s)

pub exactly : (a b : List ℕ) → same_bytes a b ≡ same_bytes (map (λ x. x) a) (map (λ x. x) b)
exactly a b = rw (map-self a, map-self b)
