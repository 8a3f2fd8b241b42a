-- Laws of chunks: n bytes from a place on that a loop tests one after the other, with no way out before the last.
-- Assumes nothing.
use mathlib.Core.Path.{◌≡◌, refl, sym, ap, ◌∙◌}
use mathlib.Core.Bool.{Bool, true, false, cond, not, not-not, ◌&&◌, ◌||◌, beq}
use mathlib.Core.List.{List, [], ◌∷◌}
use Prim.Native.Nat.{ℕ, zero, suc, ◌+◌, ◌-◌, ◌≤◌, ◌<◌}
use native.Mathlib.Omega.{arith}
use lib.Dec.{eqb, leb, ltb}
use lib.ListN.{length, take, drop, get_or, length-drop, drop_of_length-le}
use lib.Seq.{drop-drop}
use Rattle.octets.specs.Compare.{same_bytes}
use Rattle.octets.specs.Kinds.{is_value}
use Rattle.octets.specs.Scan.{run, all_of, other}
use Rattle.octets.proofs.Bools.{and_left, and_right}
use Rattle.octets.proofs.ByteRules.{all_below, below}
use Rattle.octets.proofs.Lists.{next, part-first}

and-and : (a b c : Bool) → a && (b && c) ≡ (a && b) && c
and-and true b c = refl
and-and false b c = refl

and-true : (a : Bool) → a && true ≡ a
and-true true = refl
and-true false = refl

not-and : (a b : Bool) → not (a && b) ≡ not a || not b
not-and true b = refl
not-and false b = refl

module _ (s : List ℕ) (i n : ℕ) where
  -- the bytes of the chunk from its place k on
  abbrev pub left : ℕ → List ℕ
  left k = take (i + n - (i + k)) (drop (i + k) s)

  -- before the loop all of the chunk is left
  pub left-all : left 0 ≡ take n (drop i s)
  left-all =
      let a : i + 0 ≡ i = omega arith in
      let b : i + n - i ≡ n = omega arith in
      rw (a, b)

  -- one byte more
  pub left-first : (k : ℕ) → k < n → i + n ≤ length s → left k ≡ get_or s (i + k) 0 ∷ left (k + 1)
  left-first k h l =
      let e : i + k + 1 ≡ i + (k + 1) = omega arith in
      rw e at (part-first s (i + k) (i + n) (omega arith) l)

  -- after the loop nothing is left
  pub left-none : (k : ℕ) → n ≤ k → left k ≡ []
  left-none k h =
      let z : i + n - (i + k) ≡ 0 = omega arith in
      rw z

-- whether each of the bytes passes a test

module _ (p : ℕ → Bool) (s : List ℕ) (i n : ℕ) where
  -- before the loop all of the chunk is left
  pub all-start : all_of p (take n (drop i s)) ≡ all_of p (left s i n 0)
  all-start = ap (all_of p) (sym (left-all s i n))

  pub all-more :
      (k : ℕ) (good : Bool) {whole r : Bool} → k < n → i + n ≤ length s → whole ≡ good && all_of p (left s i n k)
      → r ≡ p (get_or s (i + k) 0) → whole ≡ (good && r) && all_of p (left s i n (k + 1))
  unfolding all_of
  all-more k good {whole} {r} h l e q =
      let rest = all_of p (left s i n (k + 1)) in
      e ∙ ap (λ (t : List ℕ). good && all_of p t) (left-first s i n k h l) ∙ and-and good (p (get_or s (i + k) 0)) rest
      ∙ ap (λ (t : Bool). (good && t) && rest) (sym q)

  pub all-end : (k : ℕ) (good : Bool) {whole : Bool} → n ≤ k → whole ≡ good && all_of p (left s i n k) → good ≡ whole
  unfolding all_of
  all-end k good {whole} h e = sym (e ∙ ap (λ (t : List ℕ). good && all_of p t) (left-none s i n k h) ∙ and-true good)

  -- the same of whether one of the bytes fails it
  pub any-start : not (all_of p (take n (drop i s))) ≡ false || not (all_of p (left s i n 0))
  any-start = ap not all-start

  pub any-more :
      (k : ℕ) (bad : Bool) {whole r : Bool} → k < n → i + n ≤ length s → whole ≡ bad || not (all_of p (left s i n k))
      → r ≡ not (p (get_or s (i + k) 0)) → whole ≡ (bad || r) || not (all_of p (left s i n (k + 1)))
  any-more k true h l e q = e
  any-more k false h l e q =
      let rest = all_of p (left s i n (k + 1)) in
      let f : all_of p (left s i n k) ≡ p (get_or s (i + k) 0) && rest = all-more k true h l refl refl in
      e ∙ ap not f ∙ not-and (p (get_or s (i + k) 0)) rest ∙ ap (λ (t : Bool). t || not rest) (sym q)

  pub any-end : (k : ℕ) (bad : Bool) {whole : Bool} → n ≤ k → whole ≡ bad || not (all_of p (left s i n k)) → bad ≡ whole
  any-end k true h e = sym e
  any-end k false h e =
      let f : true ≡ all_of p (left s i n k) = all-end k true h refl in
      ap not f ∙ sym e

-- a byte that is x fails the test for another byte
pub other-not : (x b : ℕ) → eqb b x ≡ not (other x b)
other-not x b = sym (not-not (eqb b x))

-- whether the bytes are those of a list t of n bytes

module _ (s t : List ℕ) (i n : ℕ) (w : length t ≡ n) where
  pub same_start : same_bytes (take n (drop i s)) t ≡ true && same_bytes (left s i n 0) (drop 0 t)
  same_start = ap (λ (u : List ℕ). same_bytes u t) (sym (left-all s i n))

  pub same_more :
      (k : ℕ) (ok : Bool) {whole : Bool} → k < n → i + n ≤ length s → whole ≡ ok && same_bytes (left s i n k) (drop k t)
      → whole ≡ (ok && eqb (get_or s (i + k) 0) (get_or t k 0)) && same_bytes (left s i n (k + 1)) (drop (k + 1) t)
  unfolding same_bytes
  same_more k ok {whole} h l e =
      e ∙ ap (λ (u : List ℕ). ok && same_bytes u (drop k t)) (left-first s i n k h l)
      ∙ ap (λ (u : List ℕ). ok && same_bytes (get_or s (i + k) 0 ∷ left s i n (k + 1)) u) (next t k (omega arith))
      ∙ and-and ok (eqb (get_or s (i + k) 0) (get_or t k 0)) (same_bytes (left s i n (k + 1)) (drop (k + 1) t))

  pub same_end : (k : ℕ) (ok : Bool) {whole : Bool} → n ≤ k → whole ≡ ok && same_bytes (left s i n k) (drop k t) → ok ≡ whole
  unfolding same_bytes
  same_end k ok {whole} h e =
      let h' : length t ≤ k = omega arith in
      let z : drop k t ≡ [] = drop_of_length-le t h' in
      sym (e ∙ rw (left-none s i n k h, z) (and-true ok))

-- a run goes on behind n bytes that pass the test
pub run-skip : (p : ℕ → Bool) (s : List ℕ) (n : ℕ) → n ≤ length s → all_of p (take n s) ≡ true → run p s ≡ n + run p (drop n s)
unfolding run all_of
run-skip p s zero h e = omega arith
run-skip p [] (suc n) h e = absurd (omega arith)
run-skip p (b ∷ s) (suc n) h e =
    rw (and_left (p b) (all_of p (take n s)) e)
    (omega (arith, run-skip p s n (omega arith) (and_right (p b) (all_of p (take n s)) e)))

-- a run that ends within the first n bytes is that of these bytes
pub run-front : (p : ℕ → Bool) (s : List ℕ) (n : ℕ) → run p (take n s) < n → run p s ≡ run p (take n s)
unfolding run
run-front p s zero e = absurd (omega arith)
run-front p [] (suc n) e = refl
run-front p (b ∷ s) (suc n) e = by (p b) (run-front p s n) e
  where
    by :
        (t : Bool) → (run p (take n s) < n → run p s ≡ run p (take n s)) → cond t (suc (run p (take n s))) 0 < suc n
        → cond t (suc (run p s)) 0 ≡ cond t (suc (run p (take n s))) 0
    by true f e = ap suc (f (omega arith))
    by false f e = refl

-- the same from a place on
pub run-chunk :
    (p : ℕ → Bool) (s : List ℕ) (i n : ℕ) → i + n ≤ length s → all_of p (take n (drop i s)) ≡ true
    → run p (drop i s) ≡ n + run p (drop (i + n) s)
run-chunk p s i n h e =
    run-skip p (drop i s) n (simp length-drop (omega arith)) e ∙ ap (λ (t : List ℕ). n + run p t) (drop-drop n i s)

-- two tests of bytes agree where they agree at each of the 256, which is computed
same_test : (a b : Bool) → beq a b ≡ true → a ≡ b
same_test true true e = refl
same_test false false e = refl
same_test true false e = sym e
same_test false true e = e

pub same_at : (f g : ℕ → Bool) → all_below (λ b. beq (f b) (g b)) 256 ≡ true → (b : ℕ) → b < 256 → f b ≡ g b
same_at f g t b h = same_test (f b) (g b) (below (λ b. beq (f b) (g b)) 256 t b h)

-- the bytes of a value, by three comparisons
pub by_value : (b : ℕ) → b < 256 → (leb 32 b || eqb b 9) && not (eqb b 127) ≡ is_value b
unfolding is_value
by_value = same_at (λ b. (leb 32 b || eqb b 9) && not (eqb b 127)) is_value refl

-- .. and the bytes that are no value's
pub no_value : (b : ℕ) → b < 256 → (ltb b 32 && not (eqb b 9)) || eqb b 127 ≡ not (is_value b)
unfolding is_value
no_value = same_at (λ b. (ltb b 32 && not (eqb b 9)) || eqb b 127) (λ b. not (is_value b)) refl
