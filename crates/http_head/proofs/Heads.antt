-- Laws of the head's end, one byte and four bytes at a time.
-- Assumes nothing.
use mathlib.Core.Path.{◌≡◌, refl, sym, ap, ◌∙◌}
use mathlib.Core.Bool.{Bool, true, false, cond, ◌&&◌, ◌||◌, and-false}
use mathlib.Core.List.{List, [], ◌∷◌, ◌++◌}
use Rattle.std.proofs.Common.{Option, None, Some}
use Prim.Native.Nat.{ℕ, suc, ◌+◌, ◌-◌, ◌≤◌, ◌<◌}
use native.Mathlib.Nat.{add-zero}
use native.Mathlib.Omega.{arith}
use lib.Dec.{eqb, leb}
use lib.ListN.{length, take, drop, get_or, length-append, length-take, length-drop, take-append-drop, get_or-append}
use lib.Seq.{get_or-drop, take_all, take-append-le, take-append-add}
use borrow.Author.Tests.{ne_eqb, le-leb, lt-leb, eqb-true, eqb-false, leb-true, leb-false}
use Rattle.octets.specs.Outcome.{Outcome, refused, gives, given}
use Rattle.octets.proofs.Bools.{and_left, and_right}
use Rattle.octets.proofs.Outcomes.{given-gives}
use Rattle.octets.proofs.Lists.{next, there, part-more}
use Rattle.std.proofs.lemmas.Bool.{or_parts}
use Rattle.http_head.specs.Head.{ends_head, end_from, Passed, head_of}
use Rattle.http_head.specs.Claims.{HeadWithin}

-- a head within the limit, and one that may reach past it
pub under-limit : (s : List ℕ) → length s < 8192 → head_of s ≡ given (end_from 0 s) 1
unfolding head_of
under-limit s h =
    let h' : length s ≤ 8192 = omega arith in
    rw (take_all 8192 s h', lt-leb 8192 (length s) h)

pub over-limit : (s : List ℕ) → 8192 ≤ length s → head_of s ≡ given (end_from 0 (take 8192 s)) 11
unfolding head_of
over-limit s h = rw (le-leb 8192 (length s) h)

-- fewer than four bytes
short : (i : ℕ) (s : List ℕ) → length s ≤ 3 → end_from i s ≡ None
unfolding end_from
short i [] h = refl
short i (a ∷ []) h = simp and-false
short i (a ∷ (b ∷ [])) h = simp and-false
short i (a ∷ (b ∷ (c ∷ []))) h = simp and-false
short i (a ∷ (b ∷ (c ∷ (d ∷ s)))) h = absurd (omega arith)

pub end_none : (s : List ℕ) (i : ℕ) → length s ≤ i + 3 → end_from i (drop i s) ≡ None
end_none s i h = short i (drop i s) (simp length-drop (omega arith))

module _ (s : List ℕ) where
  byte : (i k m : ℕ) → i + k ≡ m → get_or (drop i s) k 0 ≡ get_or s m 0
  byte i k m e = get_or-drop i s k 0 ∙ ap (λ (n : ℕ). get_or s n 0) e

  pub ends_at :
      (i : ℕ)
      → ends_head (drop i s) ≡ eqb (get_or s i 0) 13 && eqb (get_or s (i + 1) 0) 10 && eqb (get_or s (i + 2) 0) 13 && eqb (get_or s (i + 3) 0) 10
  ends_at i = rw (byte i 0 i (add-zero i), byte i 1 (i + 1) refl, byte i 2 (i + 2) refl, byte i 3 (i + 3) refl)

  here : (i : ℕ) → i < length s → end_from i (drop i s) ≡ cond (ends_head (drop i s)) (Some (i + 4)) (end_from (i + 1) (drop (i + 1) s))
  unfolding end_from
  here i h =
      ap (end_from i) (next s i h)
      ∙ ap (λ (t : List ℕ). cond (ends_head t) (Some (i + 4)) (end_from (i + 1) (drop (i + 1) s))) (sym (next s i h))

  pub end-here : (i : ℕ) → i < length s → ends_head (drop i s) ≡ true → end_from i (drop i s) ≡ Some (i + 4)
  end-here i h e = here i h ∙ ap (λ (t : Bool). cond t (Some (i + 4)) (end_from (i + 1) (drop (i + 1) s))) e

  end_later : (i j : ℕ) → i + 1 ≡ j → i < length s → ends_head (drop i s) ≡ false → end_from i (drop i s) ≡ end_from j (drop j s)
  end_later i j q h e =
      here i h
      ∙ ap (λ (t : Bool). cond t (Some (i + 4)) (end_from (i + 1) (drop (i + 1) s))) e
      ∙ ap (λ (k : ℕ). end_from k (drop k s)) q

  -- a place where none begins is passed, and then what is passed from the next place on
  pub one_on : (from i r : ℕ) → Passed s from i → i < length s → ends_head (drop i s) ≡ false → Passed s (i + 1) r → Passed s from r
  one_on from i r p h e n =
      record { onward = omega (arith, p.onward, n.onward); inside = n.inside; same = p.same ∙ end_later i (i + 1) refl h e ∙ n.same }

  -- a byte above CR lies in no CR LF CR LF, so that a place four bytes on may be taken
  module _ (i m j : ℕ) (q : i + 3 ≡ m) (l : i + 4 ≡ j) (w : m < length s) (b : 13 < get_or s m 0) where
    not-lf : eqb (get_or s m 0) 10 ≡ false
    not-lf = ne_eqb (get_or s m 0) 10 (omega arith)

    not-cr : eqb (get_or s m 0) 13 ≡ false
    not-cr = ne_eqb (get_or s m 0) 13 (omega arith)

    four-later : end_from i (drop i s) ≡ end_from j (drop j s)
    four-later =
        end_later i (i + 1) refl (omega arith) (rw (byte i 3 m q, not-lf) (simp and-false))
        ∙ end_later (i + 1) (i + 2) (omega arith) (omega arith) (rw (byte (i + 1) 2 m (omega arith), not-cr) (simp and-false))
        ∙ end_later (i + 2) (i + 3) (omega arith) (omega arith) (rw (byte (i + 2) 1 m (omega arith), not-lf) (simp and-false))
        ∙ end_later (i + 3) j (omega arith) (omega arith) (rw (byte (i + 3) 0 m (omega arith), not-cr))

    pub four-on : (from : ℕ) → Passed s from i → Passed s from j
    four-on from p = record { onward = omega (arith, p.onward); inside = omega arith; same = p.same ∙ four-later }

  -- the same for the bytes that a turn of skip looks at
  module _ (from i : ℕ) (w : i + 15 < length s) (p : Passed s from i) (b : 13 < get_or s (i + 3) 0) where
    pub pass-four : Passed s from (i + 4)
    pass-four = four-on i (i + 3) (i + 4) refl refl (omega arith) b from p

    pub pass-eight : 13 < get_or s (i + 7) 0 → Passed s from (i + 8)
    pass-eight d = four-on (i + 4) (i + 7) (i + 8) (omega arith) (omega arith) (omega arith) d from pass-four

    pub pass-twelve : 13 < get_or s (i + 7) 0 → 13 < get_or s (i + 11) 0 → Passed s from (i + 12)
    pass-twelve d e = four-on (i + 8) (i + 11) (i + 12) (omega arith) (omega arith) (omega arith) e from (pass-eight d)

    pub pass-sixteen : 13 < get_or s (i + 7) 0 → 13 < get_or s (i + 11) 0 → 13 < get_or s (i + 15) 0 → Passed s from (i + 16)
    pass-sixteen d e f = four-on (i + 12) (i + 15) (i + 16) (omega arith) (omega arith) (omega arith) f from (pass-twelve d e)

-- Places passed by the pairs of bytes behind them.

middle : (a b c d : Bool) → b && c ≡ false → ((a && b) && c) && d ≡ false
middle true true true d e = cc
middle true true false d e = refl
middle true false c d e = refl
middle false b c d e = refl

module _ (s : List ℕ) where
  pub pass-none : (i : ℕ) → i ≤ length s → Passed s i i
  pass-none i h = record { onward = omega arith; inside = h; same = refl }

  -- one way after another
  pub pass-then : (i j k : ℕ) → Passed s i j → Passed s j k → Passed s i k
  pass-then i j k p q = record { onward = omega (arith, p.onward, q.onward); inside = q.inside; same = p.same ∙ q.same }

  -- a place behind which LF and CR do not stand next to each other
  pub turn_on :
      (i k : ℕ) (hit : Bool) → i + k < length s → (hit ≡ false → Passed s i (i + k))
      → hit || (eqb (get_or s (i + k + 1) 0) 10 && eqb (get_or s (i + k + 2) 0) 13) ≡ false → Passed s i (i + (k + 1))
  turn_on i k hit h p e =
      let q : i + k + 1 ≡ i + (k + 1) = omega arith in
      let t = eqb (get_or s (i + k + 1) 0) 10 && eqb (get_or s (i + k + 2) 0) 13 in
      let o = or_parts hit t e in
      let n : ends_head (drop (i + k) s) ≡ false =
      ends_at s (i + k)
      ∙ middle (eqb (get_or s (i + k) 0) 13) (eqb (get_or s (i + k + 1) 0) 10) (eqb (get_or s (i + k + 2) 0) 13)
      (eqb (get_or s (i + k + 3) 0) 10) o.1 in
      rw q at (one_on s i (i + k) (i + k + 1) (p o.0) h n (pass-none (i + k + 1) (omega arith)))

  -- two chunks of sixteen
  pub pass-chunks :
      (i : ℕ) (a b : Bool) → (a ≡ false → Passed s i (i + 16)) → (b ≡ false → Passed s (i + 16) (i + 16 + 16)) → a || b ≡ false → Passed s i (i + 32)
  pass-chunks i a b p q e =
      let l : i + 16 + 16 ≡ i + 32 = omega arith in
      let o = or_parts a b e in
      rw l at (pass-then i (i + 16) (i + 16 + 16) (p o.0) (q o.1))

-- a head lies in s and in the limit, and has its last four bytes
some_end : (i : ℕ) (s : List ℕ) (n : ℕ) → end_from i s ≡ Some n → (i + 4 ≤ n) × (n ≤ i + length s)
unfolding end_from
some_end i [] n e = let z : ◌≡◌ {A = ℕ} 0 1 = cc in omega arith
some_end i (b ∷ s) n e =
    by (eqb b 13 && eqb (get_or s 0 0) 10 && eqb (get_or s 1 0) 13) (eqb (get_or s 2 0) 10) refl (some_end (i + 1) s n) e
  where
    by :
        (x t : Bool) → eqb (get_or s 2 0) 10 ≡ t → (end_from (i + 1) s ≡ Some n → (i + 1 + 4 ≤ n) × (n ≤ i + 1 + length s))
        → cond (x && t) (Some (i + 4)) (end_from (i + 1) s) ≡ Some n → (i + 4 ≤ n) × (n ≤ i + suc (length s))
    by true true q h r =
        let k : i + 4 ≡ n = cc in
        let l = there s 2 9 (eqb-true _ _ q) in
        omega arith
    by true false q h r = omega (arith, h r)
    by false t q h r = omega (arith, h r)

found : (s : List ℕ) (n : ℕ) → head_of s ≡ gives n → end_from 0 (take 8192 s) ≡ Some n
unfolding head_of
found s n e = given-gives (end_from 0 (take 8192 s)) _ n e

record Bounds (len n : ℕ) : Type 0 where
  last : 4 ≤ n
  limit : n ≤ 8192
  inside : n ≤ len

bounds : (s : List ℕ) (n : ℕ) → head_of s ≡ gives n → Bounds (length s) n
bounds s n e =
    let b = some_end 0 (take 8192 s) n (found s n e) in
    let l = length-take 8192 s in
    record { last = omega arith; limit = omega arith; inside = omega arith }

-- the last four bytes of a head are CR LF CR LF
four_bytes : (s : List ℕ) → ends_head s ≡ true → take 4 s ≡ 13 ∷ 10 ∷ 13 ∷ 10 ∷ []
four_bytes s e =
    let x = and_left _ (eqb (get_or s 3 0) 10) e in
    let y = and_left _ (eqb (get_or s 2 0) 13) x in
    let b0 = eqb-true _ _ (and_left _ (eqb (get_or s 1 0) 10) y) in
    let b1 = eqb-true _ _ (and_right (eqb (get_or s 0 0) 13) (eqb (get_or s 1 0) 10) y) in
    let b2 = eqb-true _ _ (and_right (eqb (get_or s 0 0) 13 && eqb (get_or s 1 0) 10) (eqb (get_or s 2 0) 13) x) in
    let b3 = eqb-true _ _ (and_right (eqb (get_or s 0 0) 13 && eqb (get_or s 1 0) 10 && eqb (get_or s 2 0) 13) (eqb (get_or s 3 0) 10) e) in
    four s (there s 3 9 b3) b0 b1 b2 b3
  where
    four :
        (s : List ℕ) → 3 < length s → get_or s 0 0 ≡ 13 → get_or s 1 0 ≡ 10 → get_or s 2 0 ≡ 13 → get_or s 3 0 ≡ 10 → take 4 s ≡ 13 ∷ 10 ∷ 13 ∷ 10 ∷ []
    four [] h p q r t = absurd (omega arith)
    four (a ∷ []) h p q r t = absurd (omega arith)
    four (a ∷ (b ∷ [])) h p q r t = absurd (omega arith)
    four (a ∷ (b ∷ (c ∷ []))) h p q r t = absurd (omega arith)
    four (a ∷ (b ∷ (c ∷ (d ∷ s)))) h p q r t = rw (p, q, r, t)

some-ends : (i : ℕ) (s : List ℕ) (n : ℕ) → end_from i s ≡ Some n → ends_head (drop (n - i - 4) s) ≡ true
unfolding end_from
some-ends i [] n e = cc
some-ends i (b ∷ s) n e = by (ends_head (b ∷ s)) refl (some-ends (i + 1) s n) (some_end (i + 1) s n) e
  where
    by :
        (x : Bool) → ends_head (b ∷ s) ≡ x → (end_from (i + 1) s ≡ Some n → ends_head (drop (n - (i + 1) - 4) s) ≡ true)
        → (end_from (i + 1) s ≡ Some n → (i + 1 + 4 ≤ n) × (n ≤ i + 1 + length s))
        → cond x (Some (i + 4)) (end_from (i + 1) s) ≡ Some n → ends_head (drop (n - i - 4) (b ∷ s)) ≡ true
    by true q ih w r =
        let k : i + 4 ≡ n = cc in
        let z : n - i - 4 ≡ 0 = omega arith in
        rw z q
    by false q ih w r =
        let l = w r in
        let z : n - i - 4 ≡ suc (n - (i + 1) - 4) = omega arith in
        rw z (ih r)

first_ends : (s : List ℕ) (n : ℕ) → end_from 0 s ≡ Some n → take 4 (drop (n - 4) s) ≡ 13 ∷ 10 ∷ 13 ∷ 10 ∷ []
first_ends s n e =
    let z : n - 4 ≡ n - 0 - 4 = omega arith in
    four_bytes (drop (n - 4) s) (ap (λ (k : ℕ). ends_head (drop k s)) z ∙ some-ends 0 s n e)

head-ends : (s : List ℕ) (n : ℕ) → head_of s ≡ gives n → take 4 (drop (n - 4) s) ≡ 13 ∷ 10 ∷ 13 ∷ 10 ∷ []
head-ends s n e =
    let w = bounds s n e in
    let f = first_ends (take 8192 s) n (found s n e) in
    let q : take 8192 s ++ drop 8192 s ≡ s = take-append-drop 8192 s in
    let l : n - 4 + 4 ≤ length (take 8192 s) = simp length-take (omega (arith, w.last, w.limit, w.inside)) in
    ap (λ (t : List ℕ). take 4 (drop (n - 4) t)) (sym q) ∙ part-more (take 8192 s) (drop 8192 s) (n - 4) 4 l ∙ f

-- bytes after a head do not change it
end_more : (i : ℕ) (s t : List ℕ) (n : ℕ) → end_from i s ≡ Some n → end_from i (s ++ t) ≡ Some n
unfolding end_from
end_more i [] t n e = let z : ◌≡◌ {A = ℕ} 0 1 = cc in cc
end_more i (b ∷ s) t n e =
    let w = some_end i (b ∷ s) n e in
    rw (get_or-append s t 0 0 (omega arith), get_or-append s t 0 1 (omega arith), get_or-append s t 0 2 (omega arith))
    (by (ends_head (b ∷ s)) (end_more (i + 1) s t n) e)
  where
    by :
        (x : Bool) → (end_from (i + 1) s ≡ Some n → end_from (i + 1) (s ++ t) ≡ Some n)
        → cond x (Some (i + 4)) (end_from (i + 1) s) ≡ Some n → cond x (Some (i + 4)) (end_from (i + 1) (s ++ t)) ≡ Some n
    by true h r = r
    by false h r = h r

-- .. nor do bytes after 8,192 change what these say
more-over : (s t : List ℕ) → 8192 ≤ length s → head_of (s ++ t) ≡ head_of s
unfolding head_of
more-over s t h =
    let h' : 8192 ≤ length (s ++ t) = simp length-append (omega arith) in
    rw (take-append-le 8192 s t h, le-leb 8192 (length s) h, le-leb 8192 (length (s ++ t)) h')

more-under : (s t : List ℕ) (n : ℕ) → length s < 8192 → end_from 0 s ≡ Some n → head_of (s ++ t) ≡ gives n
unfolding head_of
more-under s t n h e =
    let m : length s + (8192 - length s) ≡ 8192 = omega arith in
    let q : take 8192 (s ++ t) ≡ s ++ take (8192 - length s) t = ap (λ (k : ℕ). take k (s ++ t)) (sym m) ∙ take-append-add s t (8192 - length s) in
    rw (q, end_more 0 s (take (8192 - length s) t) n e)

-- an answer other than 1 stays when bytes are added
pub head-keeps : (s t : List ℕ) → (head_of s ≡ refused 1 → ⊥) → head_of (s ++ t) ≡ head_of s
head-keeps s t other = split (leb 8192 (length s)) refl
  where
    under : length s < 8192 → (o : Option ℕ) → end_from 0 s ≡ o → head_of (s ++ t) ≡ head_of s
    under h None q = absurd (other (under-limit s h ∙ rw q))
    under h (Some n) q = more-under s t n h q ∙ sym (under-limit s h ∙ rw q)

    split : (x : Bool) → leb 8192 (length s) ≡ x → head_of (s ++ t) ≡ head_of s
    split true q = more-over s t (leb-true _ _ q)
    split false q = under (leb-false _ _ q) (end_from 0 s) refl

pub head-within : (s : List ℕ) (n : ℕ) → head_of s ≡ gives n → HeadWithin s n
head-within s n e =
    let b = bounds s n e in
    record { last = b.last; limit = b.limit; inside = b.inside; ends = head-ends s n e }

-- a head that is cut gives 1: another answer would stay with the bytes that are cut off, and a head would be shorter than itself
pub head-cut : (s : List ℕ) (n k : ℕ) → head_of s ≡ gives n → k < n → head_of (take k s) ≡ refused 1
head-cut s n k e h = by (head_of (take k s)) refl
  where
    whole : (head_of (take k s) ≡ refused 1 → ⊥) → head_of (take k s) ≡ gives n
    whole other = sym (head-keeps (take k s) (drop k s) other) ∙ ap head_of (take-append-drop k s) ∙ e

    short : head_of (take k s) ≡ gives n → ⊥
    short q = omega (arith, (bounds (take k s) n q).inside, length-take k s)

    by : (o : Outcome ℕ) → head_of (take k s) ≡ o → head_of (take k s) ≡ refused 1
    by (gives m) q = absurd (short (whole (λ r. let z : ◌≡◌ {A = ℕ} 0 1 = cc in omega arith)))
    by (refused m) q = split (eqb m 1) refl
      where
        split : (t : Bool) → eqb m 1 ≡ t → head_of (take k s) ≡ refused 1
        split true w = q ∙ ap refused (eqb-true m 1 w)
        split false w =
            absurd
            (short
            (whole
            (λ r.
            let z : m ≡ 1 = cc in
            eqb-false m 1 w z)))
