-- Laws of going through a block from header to header, by the places of its NULs.
-- Assumes nothing.
use Prim.Native.Nat.{ℕ, ◌+◌, ◌-◌, ◌≤◌, ◌<◌}
use Prim.{absurd}
use mathlib.Core.Path.{◌≡◌, refl, sym, ap, ◌∙◌}
use mathlib.Core.Bool.{Bool, true, false, not, ◌&&◌}
use mathlib.Core.List.{List, [], ◌∷◌}
use Rattle.std.proofs.Common.{Option, None, Some, Result, Ok, Err}
use Rattle.std.specs.Result.{IsOk}
use native.Mathlib.Omega.{arith}
use lib.Dec.{eqb, ltb}
use lib.ListN.{length, take, drop, length-take, length-drop, drop_of_length-le}
use lib.Seq.{drop-drop}
use borrow.Author.Tests.{eqb-true, eqb-false, ltb-true, ltb-false}
use Rattle.octets.specs.Outcome.{Outcome, refused, gives, then, need, given}
use Rattle.octets.specs.Refusal.{number_of}
use Rattle.octets.specs.Scan.{run, other}
use Rattle.octets.specs.declared.refusal.Refusal.{Refusal}
use Rattle.octets.specs.Parts.{parted, before}
use Rattle.octets.proofs.Outcomes.{then-then, then-gives}
use Rattle.octets.proofs.Parting.{part-found, part_none}
use Rattle.headers.specs.Block.{Header, with, paired, headers_of, parsed, count_of, nul_from, header_ends, header_outcome, header_in, HeaderFound}
use Rattle.headers.specs.declared.block.HeaderPlace.{HeaderPlace}
use Rattle.headers.specs.Claims.{HeaderParses}

-- What a list that is not empty begins with: its first NUL stands at n, t is what follows, whose first NUL stands at v.

nil-name : (f : List ℕ) (fs : List (List ℕ)) → paired [] (f ∷ fs) ≡ None
unfolding paired
nil-name f [] = refl
nil-name f (g ∷ fs) = refl

one-part : (n v : List ℕ) → paired n (v ∷ []) ≡ None
unfolding paired
one-part n v = refl

two-parts : (n v f : List ℕ) (fs : List (List ℕ)) → 0 < length n → paired n (v ∷ (f ∷ fs)) ≡ with (record { name = n; value = v }) (paired f fs)
unfolding paired
two-parts [] v f fs h = absurd (omega arith)
two-parts (b ∷ n) v f fs h = refl

no_nul : (s : List ℕ) → 0 < length s → length s ≤ run (other 0) s → headers_of s ≡ None
unfolding paired
no_nul [] p h = absurd (omega arith)
no_nul (b ∷ s) p h = rw (part_none 0 (b ∷ s) h)

module _ (s : List ℕ) (n : ℕ) (en : n ≡ run (other 0) s) (h : n < length s) where
  found : parted 0 s ≡ before (take n s) (parted 0 (drop (n + 1) s))
  found = rw en (part-found 0 s (rw (← en) h))

  no_name : n ≡ 0 → headers_of s ≡ None
  no_name z = rw (found, z) (nil-name (parted 0 (drop (0 + 1) s)).first (parted 0 (drop (0 + 1) s)).others)

  no_value : length (drop (n + 1) s) ≤ run (other 0) (drop (n + 1) s) → headers_of s ≡ None
  no_value v = rw (found, part_none 0 (drop (n + 1) s) v) (one-part (take n s) (drop (n + 1) s))

  whole :
      (v : ℕ) → 0 < n → v ≡ run (other 0) (drop (n + 1) s) → v < length (drop (n + 1) s)
      → headers_of s ≡ with (record { name = take n s; value = take v (drop (n + 1) s) }) (headers_of (drop (v + 1) (drop (n + 1) s)))
  whole v p ev w =
      let t : List ℕ = drop (n + 1) s in
      let g : parted 0 (drop (n + 1) s) ≡ before (take v (drop (n + 1) s)) (parted 0 (drop (v + 1) (drop (n + 1) s))) =
      rw ev (part-found 0 (drop (n + 1) s) (rw (← ev) w)) in
      rw (found, g)
      (two-parts (take n s) (take v (drop (n + 1) s)) (parted 0 (drop (v + 1) (drop (n + 1) s))).first (parted 0 (drop (v + 1) (drop (n + 1) s))).others
      (simp length-take (omega arith)))

with-given : (h : Header) (o : Option (List Header)) → given (with h o) 5 ≡ then (given o 5) (λ hs. gives (h ∷ hs))
with-given h None = refl
with-given h (Some hs) = refl

-- The same at i of a block b, with the places that the code has: the name ends at n, the value at v.

module _ (b : List ℕ) (i n : ℕ) (h : i < length b) (en : n ≡ i + run (other 0) (drop i b)) where
  not-empty : 0 < length (drop i b)
  not-empty = simp length-drop (omega arith)

  pub unnamed : n ≡ i → parsed (drop i b) ≡ refused 5
  unnamed z = ap (λ (o : Option (List Header)). given o 5) (no_name (drop i b) 0 (omega arith) not-empty refl)

  pub unended : length b ≤ n → parsed (drop i b) ≡ refused 5
  unended l = ap (λ (o : Option (List Header)). given o 5) (no_nul (drop i b) not-empty (simp length-drop (omega arith)))

  module _ (m : n < length b) where
    behind : drop (n - i + 1) (drop i b) ≡ drop (n + 1) b
    behind =
        let e : i + (n - i + 1) ≡ n + 1 = omega arith in
        drop-drop (n - i + 1) i b ∙ ap (λ (k : ℕ). drop k b) e

    pub unvalued : (v : ℕ) → v ≡ n + 1 + run (other 0) (drop (n + 1) b) → length b ≤ v → parsed (drop i b) ≡ refused 5
    unvalued v ev l =
        ap (λ (o : Option (List Header)). given o 5)
        (no_value (drop i b) (n - i) (omega arith) (simp length-drop (omega arith)) (rw behind (simp length-drop (omega arith))))

    pub header : (v : ℕ) → i < n → v ≡ n + 1 + run (other 0) (drop (n + 1) b) → v < length b → headers_of (drop i b) ≡ with (header_in b i n v) (headers_of (drop (v + 1) b))
    header v p ev l =
        let e : n + 1 + (v - (n + 1) + 1) ≡ v + 1 = omega arith in
        let r : drop (v - (n + 1) + 1) (drop (n + 1) b) ≡ drop (v + 1) b = drop-drop (v - (n + 1) + 1) (n + 1) b ∙ ap (λ (k : ℕ). drop k b) e in
        let w = whole (drop i b) (n - i) (omega arith) (simp length-drop (omega arith)) (v - (n + 1)) (omega arith) (rw behind (omega arith)) (rw behind (simp length-drop (omega arith))) in
        w ∙ rw (behind, r)

    -- a header before what follows it, or 5
    pub headed :
        (v : ℕ) → i < n → v ≡ n + 1 + run (other 0) (drop (n + 1) b) → v < length b
        → then (parsed (drop (v + 1) b)) (λ hs. gives (header_in b i n v ∷ hs)) ≡ parsed (drop i b)
    headed v p ev l = sym (ap (λ (o : Option (List Header)). given o 5) (header v p ev l) ∙ with-given (header_in b i n v) (headers_of (drop (v + 1) b)))

  -- the header by its ends, whichever way the tests went
  found-by :
      (v : ℕ) → v ≡ n + 1 + run (other 0) (drop (n + 1) b) → (t u w : Bool) → eqb n i ≡ t → ltb n (length b) ≡ u → ltb v (length b) ≡ w
      → HeaderFound b i (need (not t && u) 5 (need w 5 (gives (record { name_end = n; value_end = v }))))
  found-by v ev true u w et eu ew = record { answer = sym (unnamed (eqb-true n i et)); order = tt }
  found-by v ev false false w et eu ew = record { answer = sym (unended (ltb-false n (length b) eu)); order = tt }
  found-by v ev false true false et eu ew = record { answer = sym (unvalued (ltb-true n (length b) eu) v ev (ltb-false v (length b) ew)); order = tt }
  found-by v ev false true true et eu ew =
      let p : i < n = omega (arith, en, eqb-false n i et) in
      record {
        answer = headed (ltb-true n (length b) eu) v p ev (ltb-true v (length b) ew);
        order = (p, omega arith, ltb-true v (length b) ew);
      }

pub header-parses : HeaderParses
unfolding header_ends
header-parses b i h = found-by b i (nul_from b i) h refl (nul_from b (nul_from b i + 1)) refl _ _ _ refl refl refl

-- .. by the code's answer
pub found_at : (b : List ℕ) (i : ℕ) (o : Outcome HeaderPlace) → i < length b → o ≡ header_ends b i → HeaderFound b i o
found_at b i o h e = rw (sym e) at (header-parses b i h)

-- no header is left
pub no_header : (b : List ℕ) (i : ℕ) → length b ≤ i → parsed (drop i b) ≡ gives []
unfolding parted paired
no_header b i h = rw (drop_of_length-le b h)

-- what is made of the headers from i on, where the first of them has been found
pub past-header :
    {A : Type 0} (b : List ℕ) (i : ℕ) (e : HeaderPlace) (f : List Header → Outcome A) → HeaderFound b i (gives e)
    → then (parsed (drop i b)) f ≡ then (parsed (drop (e.value_end + 1) b)) (λ hs. f (header_in b i e.name_end e.value_end ∷ hs))
past-header b i e f r = rw (← r.answer) (then-then (parsed (drop (e.value_end + 1) b)) (λ hs. gives (header_in b i e.name_end e.value_end ∷ hs)) f)

-- headers hs from i on: the one that was found, and those behind it
pub record Behind (b : List ℕ) (i n v : ℕ) (hs : List Header) : Type 0 where
  pub gs : List Header
  pub rest : parsed (drop (v + 1) b) ≡ gives gs
  pub is : hs ≡ header_in b i n v ∷ gs

module _ (b : List ℕ) (i : ℕ) (hs : List Header) (r : parsed (drop i b) ≡ gives hs) where
  pub behind-header : (e : HeaderPlace) → HeaderFound b i (gives e) → Behind b i e.name_end e.value_end hs
  behind-header e h =
      let g = then-gives (parsed (drop (e.value_end + 1) b)) (λ gs. gives (header_in b i e.name_end e.value_end ∷ gs)) hs (h.answer ∙ r) in
      let q : gives (header_in b i e.name_end e.value_end ∷ g.it) ≡ gives hs = g.next in
      record { gs = g.it; rest = g.first; is = cc }

  pub never-refused : (n : ℕ) → HeaderFound b i (refused n) → ⊥
  never-refused n h =
      let e : refused n ≡ gives hs = h.answer ∙ r in
      let z : ◌≡◌ {A = ℕ} 0 1 = cc in
      omega arith

  pub is-found : (r : Result HeaderPlace Refusal) → HeaderFound b i (header_outcome r) → IsOk r
  is-found (Ok e) h = refl
  is-found (Err e) h = absurd (never-refused (number_of e) h)

  pub none-behind : length b ≤ i → hs ≡ []
  none-behind h =
      let e : gives hs ≡ gives [] = sym r ∙ no_header b i h in
      cc

-- the headers of a block that has n
pub record Counted (b : List ℕ) (n : ℕ) : Type 0 where
  pub hs : List Header
  pub is : parsed b ≡ gives hs
  pub count : length hs ≡ n

pub counted : (b : List ℕ) (n : ℕ) → count_of b ≡ gives n → Counted b n
counted b n e =
    let g = then-gives (parsed b) (λ hs. gives (length hs)) n e in
    let q : gives (length g.it) ≡ gives n = g.next in
    record { hs = g.it; is = g.first; count = cc }
