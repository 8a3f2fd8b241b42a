-- Laws of lines: where they end, byte by byte and by runs of bytes that are not CR, and the lines by the first place of CR LF.
-- Assumes nothing.
use mathlib.Core.Path.{◌≡◌, refl, sym, ap, ◌∙◌}
use mathlib.Core.Bool.{Bool, true, false, cond, ◌&&◌, and-false, false≢true}
use mathlib.Core.List.{List, [], ◌∷◌}
use Prim.Native.Nat.{ℕ, zero, suc, ◌+◌, ◌-◌, ◌≤◌, ◌<◌}
use native.Mathlib.Nat.{add-zero}
use native.Mathlib.Omega.{arith}
use lib.Dec.{eqb}
use lib.ListN.{length, take, drop, get_or, length-drop, drop_of_length-le, get_or-eq_default}
use lib.Seq.{get_or-drop, drop-drop}
use borrow.Author.Tests.{ne_eqb, eqb-true}
use Rattle.octets.specs.Parts.{Parts, before, longer}
use Rattle.octets.specs.Scan.{run}
use Rattle.octets.proofs.Bools.{and_right}
use Rattle.octets.proofs.Lists.{next, there}
use Rattle.http_head.specs.Lines.{ends_line, lines_from, lines_of, line_run}

module _ (s : List ℕ) (i : ℕ) where
  pub ends_at : ends_line (drop i s) ≡ eqb (get_or s i 0) 13 && eqb (get_or s (i + 1) 0) 10
  ends_at =
      let e : get_or (drop i s) 0 0 ≡ get_or s i 0 = get_or-drop i s 0 0 ∙ ap (λ (n : ℕ). get_or s n 0) (add-zero i) in
      rw (e, get_or-drop i s 1 0)

  -- no byte is left for the LF
  pub ends-cut : length s - i < 2 → ends_line (drop i s) ≡ false
  ends-cut h =
      let h' : length s ≤ i + 1 = omega arith in
      ends_at ∙ simp (get_or-eq_default s 0 h', and-false)

  here : i < length s → line_run (drop i s) ≡ cond (ends_line (drop i s)) 0 (suc (line_run (drop (i + 1) s)))
  unfolding line_run
  here h =
      ap line_run (next s i h)
      ∙ ap (λ (t : List ℕ). cond (ends_line t) 0 (suc (line_run (drop (i + 1) s)))) (sym (next s i h))

  pub line-stop : i < length s → ends_line (drop i s) ≡ true → line_run (drop i s) ≡ 0
  line-stop h e = here h ∙ ap (λ (t : Bool). cond t 0 (suc (line_run (drop (i + 1) s)))) e

  pub line-more : i < length s → ends_line (drop i s) ≡ false → line_run (drop i s) ≡ suc (line_run (drop (i + 1) s))
  line-more h e = here h ∙ ap (λ (t : Bool). cond t 0 (suc (line_run (drop (i + 1) s)))) e

  pub line-none : length s ≤ i → line_run (drop i s) ≡ 0
  unfolding line_run
  line-none h = rw (drop_of_length-le s h)

-- whether a line ends at i
module _ (s : List ℕ) (i : ℕ) where
  pub ends-all : length s ≤ i → eqb (line_run (drop i s)) 0 ≡ true
  ends-all h = rw (line-none s i h)

  pub ends-here : i < length s → eqb (line_run (drop i s)) 0 ≡ ends_line (drop i s)
  ends-here h = by (ends_line (drop i s)) refl
    where
      by : (t : Bool) → ends_line (drop i s) ≡ t → eqb (line_run (drop i s)) 0 ≡ t
      by true e = rw (line-stop s i h e)
      by false e = rw (line-more s i h e) (ne_eqb (suc (line_run (drop (i + 1) s))) 0 (omega arith))

pub line-le : (s : List ℕ) → line_run s ≤ length s
unfolding line_run
line-le [] = omega arith
line-le (b ∷ s) = by (ends_line (b ∷ s)) (line-le s)
  where
    by : (t : Bool) → line_run s ≤ length s → cond t 0 (suc (line_run s)) ≤ suc (length s)
    by true h = omega arith
    by false h = omega arith

-- a line that begins within s ends within s
pub line-within : (s : List ℕ) (i : ℕ) → i ≤ length s → i + line_run (drop i s) ≤ length s
line-within s i h = omega (arith, line-le (drop i s), length-drop i s)

-- a byte that passes the test p is not x, which fails it
pub passes-other : (p : ℕ → Bool) (x : ℕ) → p x ≡ false → (b : ℕ) → p b ≡ true → eqb b x ≡ false
passes-other p x fails b e = ne_eqb b x (λ q. false≢true (sym fails ∙ ap p (sym q) ∙ e))

-- a run of bytes that are not CR ends within the line
pub run-line : (p : ℕ → Bool) → p 13 ≡ false → (s : List ℕ) → run p s ≤ line_run s
unfolding run line_run
run-line p f [] = omega arith
run-line p f (b ∷ s) = by (p b) refl (run-line p f s)
  where
    by : (t : Bool) → p b ≡ t → run p s ≤ line_run s → cond t (suc (run p s)) 0 ≤ cond (ends_line (b ∷ s)) 0 (suc (line_run s))
    by true e h = rw (passes-other p 13 f b e) (omega arith)
    by false e h = omega arith

-- a line from a place in it on
line-later : (s : List ℕ) (n : ℕ) → n ≤ line_run s → line_run s ≡ n + line_run (drop n s)
unfolding line_run
line-later s zero h = omega arith
line-later [] (suc n) h = omega arith
line-later (b ∷ s) (suc n) h = by (ends_line (b ∷ s)) h (line-later s n)
  where
    by :
        (t : Bool) → suc n ≤ cond t 0 (suc (line_run s)) → (n ≤ line_run s → line_run s ≡ n + line_run (drop n s))
        → cond t 0 (suc (line_run s)) ≡ suc n + line_run (drop n s)
    by true h ih = omega arith
    by false h ih = omega (arith, ih (omega arith))

-- a line goes on to the end k of a run of bytes that are not CR
pub line_on :
    (p : ℕ → Bool) → p 13 ≡ false → (s : List ℕ) (i k : ℕ) → k ≡ i + run p (drop i s) → i + line_run (drop i s) ≡ k + line_run (drop k s)
line_on p f s i k e =
    let d : drop (run p (drop i s)) (drop i s) ≡ drop k s = drop-drop (run p (drop i s)) i s ∙ ap (λ (n : ℕ). drop n s) (sym e) in
    omega (arith, line-later (drop i s) (run p (drop i s)) (run-line p f (drop i s)), ap line_run d)

-- CR LF stands where a line ends within s
pub line-ends : (s : List ℕ) → line_run s < length s → ends_line (drop (line_run s) s) ≡ true
unfolding line_run
line-ends [] h = absurd (omega arith)
line-ends (b ∷ s) h = by (ends_line (b ∷ s)) refl h (line-ends s)
  where
    by :
        (t : Bool) → ends_line (b ∷ s) ≡ t → cond t 0 (suc (line_run s)) < suc (length s)
        → (line_run s < length s → ends_line (drop (line_run s) s) ≡ true) → ends_line (drop (cond t 0 (suc (line_run s))) (b ∷ s)) ≡ true
    by true q h ih = q
    by false q h ih = ih (omega arith)

skip-one : (s : List ℕ) → lines_from 1 s ≡ lines_of (drop 1 s)
unfolding lines_from
skip-one [] = refl
skip-one (b ∷ s) = refl

-- THE LINES BY THE FIRST PLACE OF CR LF: one stands in s
pub cut-found : (s : List ℕ) → line_run s < length s → lines_of s ≡ before (take (line_run s) s) (lines_of (drop (line_run s + 2) s))
unfolding line_run lines_from
cut-found [] h = absurd (omega arith)
cut-found (b ∷ s) h = by (ends_line (b ∷ s)) h (cut-found s)
  where
    by :
        (t : Bool) → cond t 0 (suc (line_run s)) < suc (length s)
        → (line_run s < length s → lines_of s ≡ before (take (line_run s) s) (lines_of (drop (line_run s + 2) s)))
        → (let n = cond t 0 (suc (line_run s)) in
        cond t (before [] (lines_from 1 s)) (longer b (lines_of s)) ≡ before (take n (b ∷ s)) (lines_of (drop (n + 2) (b ∷ s))))
    by true h ih = ap (before []) (skip-one s)
    by false h ih =
        let e : suc (line_run s + 2) ≡ suc (line_run s) + 2 = omega arith in
        ap (longer b) (ih (omega arith)) ∙ ap (λ (k : ℕ). before (b ∷ take (line_run s) s) (lines_of (drop k (b ∷ s)))) e

-- .. and none stands in s
pub cut-none : (s : List ℕ) → length s ≤ line_run s → lines_of s ≡ record { first = s; others = [] }
unfolding line_run lines_from
cut-none [] h = refl
cut-none (b ∷ s) h = by (ends_line (b ∷ s)) h (cut-none s)
  where
    by :
        (t : Bool) → suc (length s) ≤ cond t 0 (suc (line_run s)) → (length s ≤ line_run s → lines_of s ≡ record { first = s; others = [] })
        → cond t (before [] (lines_from 1 s)) (longer b (lines_of s)) ≡ record { first = b ∷ s; others = [] }
    by true h ih = absurd (omega arith)
    by false h ih = ap (longer b) (ih (omega arith))

-- the first line, and the others, which are those from the first line's end on
pub first-line : (s : List ℕ) → (lines_of s).first ≡ take (line_run s) s
unfolding line_run lines_from
first-line [] = refl
first-line (b ∷ s) = by (ends_line (b ∷ s)) (first-line s)
  where
    by :
        (t : Bool) → (lines_of s).first ≡ take (line_run s) s
        → (cond t (before [] (lines_from 1 s)) (longer b (lines_of s))).first ≡ take (cond t 0 (suc (line_run s))) (b ∷ s)
    by true ih = refl
    by false ih = ap (◌∷◌ b) ih

pub other-lines : (s : List ℕ) → (lines_of s).others ≡ (lines_of (drop (line_run s) s)).others
unfolding line_run lines_from
other-lines [] = refl
other-lines (b ∷ s) = by (ends_line (b ∷ s)) refl (other-lines s)
  where
    by :
        (t : Bool) → ends_line (b ∷ s) ≡ t → (lines_of s).others ≡ (lines_of (drop (line_run s) s)).others
        → (cond t (before [] (lines_from 1 s)) (longer b (lines_of s))).others ≡ (lines_of (drop (cond t 0 (suc (line_run s))) (b ∷ s))).others
    by true q ih = simp q
    by false q ih = ih

module _ (s : List ℕ) (i : ℕ) where
  -- the LF stands within s
  pub ends-inside : ends_line (drop i s) ≡ true → i + 2 ≤ length s
  ends-inside e =
      let l = there s (i + 1) 9 (eqb-true _ _ (and_right (eqb (get_or s i 0) 13) _ (sym (ends_at s i) ∙ e))) in
      omega arith

  -- a line begins after each CR LF
  pub after-end : ends_line (drop i s) ≡ true → lines_of (drop i s) ≡ before [] (lines_of (drop (i + 2) s))
  after-end e =
      let l = ends-inside e in
      let r = line-stop s i (omega arith) e in
      let h : line_run (drop i s) < length (drop i s) = simp (r, length-drop) (omega arith) in
      cut-found (drop i s) h ∙ rw (r, drop-drop 2 i s)

-- no line is left at the end of s
pub no_lines : (s : List ℕ) (i : ℕ) → length s ≤ i → (lines_of (drop i s)).others ≡ []
unfolding lines_from
no_lines s i h = rw (drop_of_length-le s h)

-- the line that begins after the CR LF at i and ends at j, and the lines after it
module _ (s : List ℕ) (i j : ℕ) (line : j ≡ i + 2 + line_run (drop (i + 2) s)) where
  rest_at : drop (line_run (drop (i + 2) s)) (drop (i + 2) s) ≡ drop j s
  rest_at = drop-drop (line_run (drop (i + 2) s)) (i + 2) s ∙ ap (λ (k : ℕ). drop k s) (sym line)

  pub next-line : ends_line (drop i s) ≡ true → (lines_of (drop i s)).others ≡ (lines_of (drop (i + 2) s)).first ∷ (lines_of (drop j s)).others
  next-line e =
      let o : (lines_of (drop (i + 2) s)).others ≡ (lines_of (drop j s)).others = other-lines (drop (i + 2) s) ∙ ap (λ (t : List ℕ). (lines_of t).others) rest_at in
      ap (λ (p : Parts). p.others) (after-end s i e) ∙ rw o

  pub next-ends : i + 2 ≤ length s → j < length s → ends_line (drop j s) ≡ true
  next-ends l h =
      let b : line_run (drop (i + 2) s) < length (drop (i + 2) s) = simp length-drop (omega arith) in
      ap ends_line (sym rest_at) ∙ line-ends (drop (i + 2) s) b
