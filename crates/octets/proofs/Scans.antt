-- Laws of runs, for loops that go byte by byte and for lists that are parted at a byte.
-- Assumes nothing.
use mathlib.Core.Path.{◌≡◌, refl, sym, ap, ◌∙◌}
use mathlib.Core.Bool.{Bool, true, false, cond, ◌&&◌}
use mathlib.Core.List.{List, [], ◌∷◌}
use Prim.Native.Nat.{ℕ, zero, suc, ◌+◌, ◌-◌, ◌≤◌, ◌<◌}
use native.Mathlib.Omega.{arith}
use native.Mathlib.Nat.{le_refl}
use lib.Dec.{leb, leb-zero, leb-suc-zero, leb-suc-suc, eqb, eqb-suc-suc, eqb-zero-suc}
use lib.Seq.{take-length}
use lib.ListN.{length, take, drop, get_or, length-drop, drop_of_length-le}
use Rattle.octets.specs.Scan.{run, all_of, count}
use Rattle.octets.proofs.Bools.{and_right}
use Rattle.octets.proofs.Lists.{next, next-four}

module _ (p : ℕ → Bool) (s : List ℕ) (i : ℕ) where
  pub run-stop : i < length s → p (get_or s i 0) ≡ false → run p (drop i s) ≡ 0
  unfolding run
  run-stop h e = ap (run p) (next s i h) ∙ simp e

  pub run_more : i < length s → p (get_or s i 0) ≡ true → run p (drop i s) ≡ suc (run p (drop (i + 1) s))
  unfolding run
  run_more h e = ap (run p) (next s i h) ∙ simp e

  pub run_none : length s ≤ i → run p (drop i s) ≡ 0
  unfolding run
  run_none h = rw (drop_of_length-le s h)

-- the run from i on, by the tests of the four bytes there
pub run-four :
    (p : ℕ → Bool) (s : List ℕ) (i : ℕ) {t₀ t₁ t₂ t₃ : Bool} → 4 ≤ length s - i → p (get_or s i 0) ≡ t₀ → p (get_or s (i + 1) 0) ≡ t₁ → p (get_or s (i + 2) 0) ≡ t₂ → p (get_or s (i + 3) 0) ≡ t₃
    → run p (drop i s) ≡ cond t₀ (suc (cond t₁ (suc (cond t₂ (suc (cond t₃ (suc (run p (drop (i + 4) s))) 0)) 0)) 0)) 0
unfolding run
run-four p s i h e₀ e₁ e₂ e₃ = ap (run p) (next-four s i h) ∙ simp (e₀, e₁, e₂, e₃)

pub run-le : (p : ℕ → Bool) (s : List ℕ) → run p s ≤ length s
unfolding run
run-le p [] = omega arith
run-le p (b ∷ s) = by (p b) (run-le p s)
  where
    by : (t : Bool) → run p s ≤ length s → cond t (suc (run p s)) 0 ≤ suc (length s)
    by true h = omega arith
    by false h = omega arith

-- a run that begins within s ends within s
pub run-within : (p : ℕ → Bool) (s : List ℕ) (i : ℕ) → i ≤ length s → i + run p (drop i s) ≤ length s
run-within p s i h = omega (arith, run-le p (drop i s), length-drop i s)

-- the first n bytes pass a test where the run of bytes that pass it is not shorter
pub all_take : (p : ℕ → Bool) (s : List ℕ) (n : ℕ) → n ≤ length s → all_of p (take n s) ≡ leb n (run p s)
unfolding run all_of
all_take p s zero h = sym (leb-zero (run p s))
all_take p [] (suc n) h = absurd (omega arith)
all_take p (b ∷ s) (suc n) h = by (p b) (all_take p s n (omega arith))
  where
    by : (t : Bool) → all_of p (take n s) ≡ leb n (run p s) → t && all_of p (take n s) ≡ leb (suc n) (cond t (suc (run p s)) 0)
    by true e = e ∙ sym (leb-suc-suc n (run p s))
    by false e = sym (leb-suc-zero n)

pub all-run : (p : ℕ → Bool) (s : List ℕ) → all_of p s ≡ leb (length s) (run p s)
all-run p s = ap (all_of p) (sym (take-length s)) ∙ all_take p s (length s) (le_refl (length s))

-- the same, as an equation
pub all-same-run : (p : ℕ → Bool) (s : List ℕ) → all_of p s ≡ eqb (run p s) (length s)
unfolding run all_of
all-same-run p [] = refl
all-same-run p (b ∷ s) = by (p b) (all-same-run p s)
  where
    by :
        (t : Bool) → all_of p s ≡ eqb (run p s) (length s) → t && all_of p s ≡ eqb (cond t (suc (run p s)) 0) (suc (length s))
    by true h = h ∙ sym (eqb-suc-suc (run p s) (length s))
    by false h = sym (eqb-zero-suc (length s))

pub all_drop : (p : ℕ → Bool) (k : ℕ) (s : List ℕ) → all_of p s ≡ true → all_of p (drop k s) ≡ true
unfolding all_of
all_drop p zero s e = e
all_drop p (suc k) [] e = e
all_drop p (suc k) (b ∷ s) e = all_drop p k s (and_right (p b) (all_of p s) e)

-- A test of each byte, byte by byte.

module _ (p : ℕ → Bool) (s : List ℕ) (i : ℕ) where
  pub all-stop : i < length s → p (get_or s i 0) ≡ false → all_of p (drop i s) ≡ false
  unfolding all_of
  all-stop h e = ap (all_of p) (next s i h) ∙ simp e

  pub all_more : i < length s → p (get_or s i 0) ≡ true → all_of p (drop i s) ≡ all_of p (drop (i + 1) s)
  unfolding all_of
  all_more h e = ap (all_of p) (next s i h) ∙ simp e

  pub all_none : length s ≤ i → all_of p (drop i s) ≡ true
  unfolding all_of
  all_none h = rw (drop_of_length-le s h)

-- A count, byte by byte.

module _ (x : ℕ) (s : List ℕ) (i : ℕ) where
  pub count_next : i < length s → count x (drop i s) ≡ cond (eqb (get_or s i 0) x) 1 0 + count x (drop (i + 1) s)
  unfolding count
  count_next h = ap (count x) (next s i h) ∙ by (eqb (get_or s i 0) x)
    where
      by :
          (t : Bool) → cond t (suc (count x (drop (i + 1) s))) (count x (drop (i + 1) s)) ≡ cond t 1 0 + count x (drop (i + 1) s)
      by true = omega arith
      by false = omega arith

  pub count_none : length s ≤ i → count x (drop i s) ≡ 0
  unfolding count
  count_none h = rw (drop_of_length-le s h)

pub count-le : (x : ℕ) (s : List ℕ) → count x s ≤ length s
unfolding count
count-le x [] = omega arith
count-le x (b ∷ s) = by (eqb b x) (count-le x s)
  where
    by : (t : Bool) → count x s ≤ length s → cond t (suc (count x s)) (count x s) ≤ suc (length s)
    by true h = omega arith
    by false h = omega arith
