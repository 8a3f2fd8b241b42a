-- A rule of bytes, tested once at every byte of a kind and carried to each.
-- Assumes nothing.
use Prim.Native.Nat.{ℕ, zero, suc, ◌≤◌, ◌<◌}
use Prim.{absurd}
use mathlib.Core.Path.{◌≡◌, refl, sym, ◌∙◌}
use mathlib.Core.Bool.{Bool, true, false, false≢true, not, ◌&&◌, ◌||◌}
use mathlib.Core.List.{List, [], ◌∷◌}
use native.Mathlib.Omega.{arith}
use lib.Dec.{eqb, ltb}
use borrow.Author.Tests.{ne_eqb, lt-leb, eqb-true, eqb-false, ltb-true, ltb-false}
use Rattle.octets.specs.Text.{bytes}
use Rattle.octets.specs.Kinds.{one_of, is_digit, is_letter, is_token, is_name}
use Rattle.octets.specs.Scan.{all_of}
use Rattle.octets.proofs.Bools.{and_left, and_right, and-false}

-- f at every number below n
abbrev pub all_below : (ℕ → Bool) → ℕ → Bool
all_below f zero = true
all_below f (suc n) = f n && all_below f n

pub below : (f : ℕ → Bool) (n : ℕ) → all_below f n ≡ true → (b : ℕ) → b < n → f b ≡ true
below f zero t b h = absurd (omega arith)
below f (suc n) t b h = by (eqb b n) refl (below f n (and_right (f n) (all_below f n) t) b)
  where
    by : (q : Bool) → eqb b n ≡ q → (b < n → f b ≡ true) → f b ≡ true
    by true e ih = rw (eqb-true b n e) (and_left (f n) (all_below f n) t)
    by false e ih =
        let d : b ≡ n → ⊥ = eqb-false b n e in
        ih (omega arith)

-- a number above those of a list is not in it
none_above : (xs : List ℕ) (b n : ℕ) → all_of (λ x. ltb x n) xs ≡ true → n ≤ b → one_of xs b ≡ false
unfolding all_of
none_above [] b n t h = refl
none_above (x ∷ xs) b n t h =
    let l = ltb-true x n (and_left (ltb x n) (all_of (λ x. ltb x n) xs) t) in
    rw (ne_eqb b x (λ e. omega arith), none_above xs b n (and_right (ltb x n) (all_of (λ x. ltb x n) xs) t) h)

-- a byte of a name is one of ASCII
not-name : (b : ℕ) → 127 ≤ b → is_name b ≡ false
unfolding is_name is_token is_digit is_letter all_of
not-name b h =
    simp (none_above (bytes "!#$%&'*+-.^_`|~") b 127 refl h, lt-leb b 57 (omega arith), lt-leb b 90 (omega arith), lt-leb b 122 (omega arith), and-false)

pub name-small : (b : ℕ) → is_name b ≡ true → b < 127
name-small b e = by (ltb b 127) refl
  where
    by : (t : Bool) → ltb b 127 ≡ t → b < 127
    by true q = ltb-true b 127 q
    by false q = absurd (false≢true (sym (not-name b (ltb-false b 127 q)) ∙ e))

-- f at every byte of names
abbrev pub at_names : (ℕ → Bool) → Bool
at_names f = all_below (λ b. not (is_name b) || f b) 127

pub carried : (f : ℕ → Bool) → at_names f ≡ true → (b : ℕ) → is_name b ≡ true → f b ≡ true
carried f t b e = rw e at (below (λ c. not (is_name c) || f c) 127 t b (name-small b e))
