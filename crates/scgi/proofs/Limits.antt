-- How long a request can be: bytes that the reader takes for a cut request are fewer than the largest request has.
-- Assumes nothing.
use Prim.Native.Nat.{ℕ, ◌+◌, ◌-◌, ◌≤◌, ◌<◌}
use Prim.{absurd}
use mathlib.Core.Path.{◌≡◌, refl, sym, ap, ◌∙◌}
use mathlib.Core.Bool.{Bool, true, false, false≢true}
use mathlib.Core.List.{List}
use native.Mathlib.Omega.{arith}
use lib.Dec.{eqb, leb, ltb}
use lib.ListN.{length, get_or, take, drop, length-drop}
use borrow.Author.Tests.{ltb-false, leb-false}
use Rattle.octets.specs.Outcome.{Outcome, refused, gives, then, need}
use Rattle.octets.specs.Decimal.{decimal}
use Rattle.octets.proofs.Decimals.{five-digits}
use Rattle.framing.specs.Spool.{Ending, whole, cut, refused_by, full, total}
use Rattle.framing.proofs.SpoolSteps.{LeftOver, left_over}
use Rattle.scgi.specs.Digits.{digits_from, length_by}
use Rattle.scgi.specs.declared.netstring.Digits.{Digits}
use Rattle.scgi.specs.Netstring.{length_of}
use Rattle.scgi.specs.declared.netstring.Length.{Length}
use Rattle.scgi.proofs.DigitRuns.{digits-within}
use Rattle.scgi.proofs.LengthDigits.{length-digits}
use Rattle.scgi.specs.Check.{check_block}
use Rattle.scgi.specs.Read.{Places, places_at, read_of, used_of}
use Rattle.scgi.specs.Spool.{requests_of}
use Rattle.scgi.specs.Window.{more, again, ends, next_of, largest}
use Rattle.scgi.specs.Claims.{LargestRequest}
use Rattle.scgi.proofs.Reader.{spools-hold}
use Rattle.scgi.proofs.Lengths.{written}
use Rattle.scgi.proofs.Checks.{check-bound}
use Rattle.scgi.proofs.Numbers.{block-numbers, digit-numbers}

-- Length digits that end too soon.

cut-length : (s : List ℕ) → length_of s ≡ refused 1 → length s ≤ 16385
cut-length s e = by (digits_from 0 0 s) refl (sym (length-digits s) ∙ e)
  where
    by : (o : Outcome Digits) → digits_from 0 0 s ≡ o → then o length_by ≡ refused 1 → length s ≤ 16385
    by (refused k) q f =
        let g : refused k ≡ refused 1 = f in
        let z : ◌≡◌ {A = Bool} false true = digit-numbers s 0 0 1 (q ∙ cc) in
        absurd (false≢true z)
    by (gives d) q f = by-colon d.colon refl f
      where
        by-colon : (t : Bool) → d.colon ≡ t → need {A = Length} t 1 (gives (record { len = d.value; next = d.count + 1 })) ≡ refused 1 → length s ≤ 16385
        by-colon true c f = absurd (let z : ◌≡◌ {A = ℕ} 0 1 = cc in omega arith)
        by-colon false c f =
            let w = digits-within s 0 0 d (omega arith) (omega arith) q in
            omega (arith, w.few, w.small, w.all_digits c)

-- The reader.

never-one : (b : List ℕ) → check_block b ≡ refused 1 → ⊥
never-one b e =
    let t : ◌≡◌ {A = Bool} false true = block-numbers b 1 e in
    let z : ◌≡◌ {A = ℕ} 0 1 = cc in
    omega arith

module _ (s : List ℕ) where
  short-of : (l : Length) → length_of s ≡ gives l → l.next + l.len ≤ 16390
  short-of l e =
      let w = written s l e in
      let n : l.next ≡ length (decimal l.len) + 1 = ap (λ (x : Length). x.next) w.at in
      let m : l.len ≤ 16384 = w.small in
      omega (arith, five-digits l.len (omega arith))

  by-body :
      (l : Length) (n : ℕ) (t : Bool) → l.next + l.len ≤ 16390 → n ≤ 1048576 → leb (l.next + l.len + 1 + n) (length s) ≡ t
      → need t 1 (gives (places_at l n)) ≡ refused 1 → length s < 1064967
  by-body l n true h m q e = absurd (let z : ◌≡◌ {A = ℕ} 0 1 = cc in omega arith)
  by-body l n false h m q e = omega (arith, leb-false (l.next + l.len + 1 + n) (length s) q)

  by-block :
      (l : Length) (o : Outcome ℕ) → l.next + l.len ≤ 16390 → check_block (take l.len (drop l.next s)) ≡ o
      → then o (λ n. need (leb (l.next + l.len + 1 + n) (length s)) 1 (gives (places_at l n))) ≡ refused 1 → length s < 1064967
  by-block l (refused k) h c e =
      let q : refused k ≡ refused 1 = e in
      let z : k ≡ 1 = cc in
      absurd (never-one (take l.len (drop l.next s)) (c ∙ ap refused z))
  by-block l (gives n) h c e =
      by-body l n (leb (l.next + l.len + 1 + n) (length s)) h (check-bound (take l.len (drop l.next s)) n c) refl e

  by-comma :
      (l : Length) (t u : Bool) → l.next + l.len ≤ 16390 → ltb (l.next + l.len) (length s) ≡ t
      → need t 1
      (need u 4
      (then (check_block (take l.len (drop l.next s))) (λ n. need (leb (l.next + l.len + 1 + n) (length s)) 1 (gives (places_at l n)))))
      ≡ refused 1
      → length s < 1064967
  by-comma l false u h q e = omega (arith, ltb-false (l.next + l.len) (length s) q)
  by-comma l true false h q e = absurd (let g : refused 4 ≡ refused 1 = e in let z : ◌≡◌ {A = ℕ} 4 1 = cc in omega arith)
  by-comma l true true h q e = by-block l (check_block (take l.len (drop l.next s))) h refl e

  by_length :
      (o : Outcome Length) → length_of s ≡ o
      → then o (λ l.
      need (ltb (l.next + l.len) (length s)) 1
      (need (eqb (get_or s (l.next + l.len) 0) 44) 4
      (then (check_block (take l.len (drop l.next s))) (λ n. need (leb (l.next + l.len + 1 + n) (length s)) 1 (gives (places_at l n))))))
      ≡ refused 1
      → length s < 1064967
  by_length (refused k) q e =
      let g : refused k ≡ refused 1 = e in
      let z : k ≡ 1 = cc in
      omega (arith, cut-length s (q ∙ ap refused z))
  by_length (gives l) q e = by-comma l (ltb (l.next + l.len) (length s)) (eqb (get_or s (l.next + l.len) 0) 44) (short-of l q) refl e

pub largest-request : LargestRequest
unfolding read_of
largest-request s e = by_length s (length_of s) refl e

-- What a window is left with, where it asks for more.

used-cut : (s : List ℕ) → used_of s ≡ refused 1 → read_of s ≡ refused 1
used-cut s e = by (read_of s) e
  where
    by : (o : Outcome Places) → then o (λ p. gives p.used) ≡ refused 1 → o ≡ refused 1
    by (refused k) q =
        let w : ◌≡◌ {A = Outcome ℕ} (refused k) (refused 1) = q in
        let z : k ≡ 1 = cc in
        ap refused z
    by (gives p) q = cc

pub left-short : (s : List ℕ) (room : ℕ) (t : Bool) → next_of t (requests_of s room).ending ≡ more → length s - total (requests_of s room).lengths < largest
left-short s room t q = by (requests_of s room).ending refl
  where
    lo : LeftOver used_of s (requests_of s room)
    lo = left_over used_of spools-hold.frames s room

    by : (e : Ending) → (requests_of s room).ending ≡ e → length s - total (requests_of s room).lengths < largest
    by whole w = omega (arith, sym (length-drop (total (requests_of s room).lengths) s) ∙ ap length (lo.at_whole w))
    by cut w =
        omega
        (arith, length-drop (total (requests_of s room).lengths) s, largest-request (drop (total (requests_of s room).lengths) s) (used-cut (drop (total (requests_of s room).lengths) s) (lo.at_cut w)))
    by (refused_by n) w = absurd (let z : ends (refused_by n) ≡ more = ap (next_of t) (sym w) ∙ q in let y : ◌≡◌ {A = ℕ} 0 1 = cc in omega arith)
    by full w = absurd (let z : again ≡ more = ap (next_of t) (sym w) ∙ q in let y : ◌≡◌ {A = ℕ} 0 1 = cc in omega arith)
