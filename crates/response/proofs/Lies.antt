-- The lines and the values of a head lie within the output, where they are said to.
-- Assumes nothing.
use Prim.Native.Nat.{ℕ, ◌+◌, ◌≤◌}
use mathlib.Core.Path.{◌≡◌, refl, sym, ap, ◌∙◌}
use mathlib.Core.Bool.{Bool, true, false, cond}
use mathlib.Core.List.{List, [], ◌∷◌, ◌++◌}
use Rattle.std.proofs.Common.{Option, None, Some}
use native.Mathlib.Omega.{arith}
use lib.Dec.{leb}
use lib.ListN.{length, take, drop, length-append, length-take, length-drop}
use lib.Seq.{drop-drop, take-append_seam, drop-append-add}
use Rattle.octets.specs.Kinds.{is_token}
use Rattle.octets.specs.Lists.{All, no_more, ◌&◌, is_nil}
use Rattle.octets.specs.Outcome.{gives}
use Rattle.octets.specs.Parts.{parted}
use Rattle.octets.proofs.Alls.{all-implies}
use Rattle.octets.proofs.Lists.{part-take}
use Rattle.octets.proofs.Outcomes.{given-gives}
use Rattle.octets.proofs.Parting.{joined_by, parts-of}
use Rattle.http_head.specs.Fields.{Field, field_of, value_start}
use Rattle.response.specs.Head.{
  bare_length,
  bare,
  Line,
  Lines,
  on_top,
  lines_from,
  lines_at,
  Named,
  placed,
  field_in,
  ahead,
  fields_of,
  Head,
  ends_at,
  head_with,
  head_of,
}
use Rattle.response.proofs.LineEnds.{bare-le}
use Rattle.response.proofs.FieldPlaces.{value-stands, value_inside}

-- the bytes x stand in t from the place i on
pub record Stands (t x : List ℕ) (i : ℕ) : Type 0 where
  pub within : i + length x ≤ length t
  pub are : x ≡ take (length x) (drop i t)

abbrev pub LineIn : List ℕ → Line → Type 0
LineIn t l = Stands t l.bytes l.start

abbrev pub ValueIn : List ℕ → Named → Type 0
ValueIn t f = Stands t f.value.bytes f.value.start

-- a part of what stands
stands-part : {t x : List ℕ} {i : ℕ} → Stands t x i → (y : List ℕ) (j : ℕ) → Stands x y j → Stands t y (i + j)
stands-part {t} {x} {i} s y j p =
    let h : j + length y ≤ length (take (length x) (drop i t)) = rw (sym s.are) p.within in
    record {
      within = omega (arith, s.within, p.within);
      are =
          p.are ∙ ap (λ (z : List ℕ). take (length y) (drop j z)) s.are ∙ part-take (drop i t) (length x) j (length y) h
          ∙ ap (take (length y)) (drop-drop j i t);
    }

-- what stands in the first bytes stands in all of them
stands-front : {s x : List ℕ} {i : ℕ} (n : ℕ) → Stands (take n s) x i → Stands s x i
stands-front {s} {x} {i} n p =
    record {
      within = omega (arith, p.within, length-take n s);
      are = p.are ∙ part-take s n i (length x) p.within;
    }

-- Lines.

bare-stands : (f : List ℕ) → Stands f (bare f) 0
bare-stands f =
    let l : length (bare f) ≡ bare_length f = simp length-take (omega (arith, bare-le f)) in
    record { within = omega (arith, bare-le f); are = ap (λ (k : ℕ). take k f) (sym l) }

pub record LinesIn (t : List ℕ) (h : Lines) : Type 0 where
  pub each : All (LineIn t) h.lines
  pub ends : h.ends ≤ length t

module _ (t : List ℕ) where
  -- f stands at a place, and an LF and what follows behind it
  module _ (at : ℕ) (f r : List ℕ) (e : drop at t ≡ f ++ 10 ∷ r) where
    room : at + length f + 1 ≤ length t
    room = omega (arith, length-drop at t, ap length e, length-append f (10 ∷ r))

    first-stands : Stands t f at
    first-stands = record { within = omega (arith, room); are = sym (ap (take (length f)) e ∙ take-append_seam f (10 ∷ r)) }

    behind : drop (at + length f + 1) t ≡ r
    behind =
        let n : at + (length f + 1) ≡ at + length f + 1 = omega arith in
        sym (drop-drop (length f + 1) at t ∙ ap (λ (k : ℕ). drop k t) n) ∙ ap (drop (length f + 1)) e ∙ drop-append-add f (10 ∷ r) 1

    bare-in : LineIn t (record { start = at; bytes = bare f })
    bare-in =
        let z : at + 0 ≡ at = omega arith in
        rw (sym z) (stands-part first-stands (bare f) 0 (bare-stands f))

  lines-in : (fs : List (List ℕ)) (at : ℕ) (f : List ℕ) → drop at t ≡ joined_by 10 f fs → (h : Lines) → lines_from at f fs ≡ Some h → LinesIn t h
  unfolding lines_from joined_by
  lines-in [] at f e h q = record { each = absurd (let z : ◌≡◌ {A = ℕ} 0 1 = cc in omega arith); ends = let z : ◌≡◌ {A = ℕ} 0 1 = cc in omega arith }
  lines-in (g ∷ fs) at f e h q =
      by (is_nil (bare f)) (lines_from (at + length f + 1) g fs) refl q (lines-in fs (at + length f + 1) g (behind at f (joined_by 10 g fs) e))
    where
      by :
          (x : Bool) (o : Option Lines) → lines_from (at + length f + 1) g fs ≡ o
          → cond x (Some (record { lines = []; ends = at + length f + 1 })) (on_top (record { start = at; bytes = bare f }) o) ≡ Some h
          → ((k : Lines) → lines_from (at + length f + 1) g fs ≡ Some k → LinesIn t k) → LinesIn t h
      by true o p q ih =
          let z : h ≡ record { lines = []; ends = at + length f + 1 } = cc in
          rw z (record { each = no_more; ends = room at f (joined_by 10 g fs) e })
      by false None p q ih = record { each = absurd (let z : ◌≡◌ {A = ℕ} 0 1 = cc in omega arith); ends = let z : ◌≡◌ {A = ℕ} 0 1 = cc in omega arith }
      by false (Some k) p q ih =
          let z : h ≡ record { lines = record { start = at; bytes = bare f } ∷ k.lines; ends = k.ends } = cc in
          let r = ih k p in
          rw z (record { each = bare-in at f (joined_by 10 g fs) e & r.each; ends = r.ends })

-- Fields.

field_in-lies : (t : List ℕ) (l : Line) → LineIn t l → (x : Named) → field_in l ≡ Some x → ValueIn t x
field_in-lies t l s x = by (field_of is_token l.bytes) refl
  where
    by : (o : Option Field) → field_of is_token l.bytes ≡ o → placed l o ≡ Some x → ValueIn t x
    by None p q = absurd (let z : ◌≡◌ {A = ℕ} 0 1 = cc in omega arith)
    by (Some f) p q =
        let z : x ≡ record { name = f.name; value = record { start = l.start + value_start l.bytes; bytes = f.value } } = cc in
        rw z
        (stands-part s f.value (value_start l.bytes)
        (record { within = value_inside l.bytes f p; are = value-stands l.bytes f p }))

fields_in-lie : (t : List ℕ) (ls : List Line) → All (LineIn t) ls → (fs : List Named) → fields_of ls ≡ Some fs → All (ValueIn t) fs
unfolding fields_of
fields_in-lie t [] no_more fs e = let z : fs ≡ [] = cc in rw z no_more
fields_in-lie t (l ∷ ls) (p & ps) fs e = by (field_in l) (fields_of ls) refl refl (fields_in-lie t ls ps) e
  where
    by :
        (f : Option Named) (o : Option (List Named)) → field_in l ≡ f → fields_of ls ≡ o
        → ((gs : List Named) → fields_of ls ≡ Some gs → All (ValueIn t) gs) → ahead f o ≡ Some fs → All (ValueIn t) fs
    by None o a b ih e = absurd (let z : ◌≡◌ {A = ℕ} 0 1 = cc in omega arith)
    by (Some f) None a b ih e = absurd (let z : ◌≡◌ {A = ℕ} 0 1 = cc in omega arith)
    by (Some f) (Some gs) a b ih e = let z : fs ≡ f ∷ gs = cc in rw z (field_in-lies t l p f a & ih gs b)

-- FOR CALLERS: the values of a head's fields stand in the output, and the head ends in it.
pub record HeadIn (s : List ℕ) (h : Head) : Type 0 where
  pub each : All (ValueIn s) h.fields
  pub ends : h.ends ≤ length s

with_in : (t : List ℕ) (o : Option Lines) → ((k : Lines) → o ≡ Some k → LinesIn t k) → (h : Head) → head_with 64 o ≡ Some h → HeadIn t h
with_in t None g h e = record { each = absurd (let z : ◌≡◌ {A = ℕ} 0 1 = cc in omega arith); ends = let z : ◌≡◌ {A = ℕ} 0 1 = cc in omega arith }
with_in t (Some k) g h e = by (leb (length k.lines) 64) (fields_of k.lines) refl e
  where
    by : (x : Bool) (o : Option (List Named)) → fields_of k.lines ≡ o → cond x (ends_at k.ends o) None ≡ Some h → HeadIn t h
    by true None p q = record { each = absurd (let z : ◌≡◌ {A = ℕ} 0 1 = cc in omega arith); ends = let z : ◌≡◌ {A = ℕ} 0 1 = cc in omega arith }
    by true (Some fs) p q =
        let z : h ≡ record { fields = fs; ends = k.ends } = cc in
        rw z (record { each = fields_in-lie t k.lines (g k refl).each fs p; ends = (g k refl).ends })
    by false o p q = record { each = absurd (let z : ◌≡◌ {A = ℕ} 0 1 = cc in omega arith); ends = let z : ◌≡◌ {A = ℕ} 0 1 = cc in omega arith }

pub front-in : (s : List ℕ) (h : Head) → head_of s ≡ gives h → HeadIn (take 8192 s) h
unfolding head_of
front-in s h e =
    let t = take 8192 s in
    let q = parts-of 10 t in
    with_in t (lines_at 0 t) (λ k p. lines-in t (parted 10 t).others 0 (parted 10 t).first (sym q.from) k p) h (given-gives (head_with 64 (lines_at 0 t)) 24 h e)

pub head_in : (s : List ℕ) (h : Head) → head_of s ≡ gives h → HeadIn s h
head_in s h e =
    let r = front-in s h e in
    record {
      each = all-implies (λ f p. stands-front 8192 p) r.each;
      ends = omega (arith, r.ends, length-take 8192 s);
    }
