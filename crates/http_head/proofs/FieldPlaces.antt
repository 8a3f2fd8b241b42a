-- Laws of the fields that stand at stored places: in turn, and those of a head whose field lines were read.
-- Assumes nothing.
use mathlib.Core.Path.{◌≡◌, refl, sym, ap, ◌∙◌}
use mathlib.Core.Bool.{Bool, true, false, cond}
use mathlib.Core.List.{List, [], ◌∷◌}
use Rattle.std.proofs.Common.{Option, None, Some, Ok, Err}
use Prim.Native.Nat.{ℕ, zero, suc, ◌+◌, ◌-◌, ◌≤◌, ◌<◌}
use native.Mathlib.Omega.{arith}
use native.Mathlib.Numerals.{add-one}
use lib.Dec.{leb, ltb}
use lib.ListN.{length, take, drop, length-append, drop_of_length-le}
use lib.Seq.{drop-drop, drop-cons, length-take-le, take_at}
use borrow.Author.Tests.{leb-true, ltb-true, ltb-false}
use Rattle.octets.specs.Outcome.{Outcome, refused, gives, then}
use Rattle.octets.specs.Refusal.{number_of}
use Rattle.octets.specs.declared.refusal.Refusal.{Refusal}
use Rattle.octets.proofs.Lists.{part-take}
use Rattle.octets.proofs.Outcomes.{given-gives, then-gives, gives-once}
use Rattle.http_head.specs.Lines.{ends_line, lines_of, line_run}
use Rattle.http_head.specs.Fields.{Field, field_of, ahead, each_field, fields_in, fields_of, name_length, value_start, value_length, spans_at, places_from, places_of, Stored, field_at, fields_at, field_in, nowhere, InHead, AllInside}
use Rattle.http_head.specs.Claims.{FieldStands, FieldsStand}
use Rattle.http_head.specs.declared.fields.Field.{Field as Spans}
use Rattle.http_head.proofs.LineCuts.{line-le, line-ends, line-within, ends-inside, first-line, other-lines, no_lines, next-line, next-ends}
use Rattle.http_head.proofs.FieldLines.{field-stands}

-- the next stored field, the one with number k
pub fields-next :
    (head : List ℕ) (ps : List Spans) (k : ℕ) → k < length ps
    → fields_at head (drop k ps) ≡ field_at head ps k ∷ fields_at head (drop (k + 1) ps)
fields-next head ps k h = rw (add-one, drop-cons ps k nowhere h)

pub fields-end : (head : List ℕ) (ps : List Spans) (k : ℕ) → length ps ≤ k → fields_at head (drop k ps) ≡ []
fields-end head ps k h = ap (fields_at head) (drop_of_length-le ps h)

-- LINES THAT STAND IN A HEAD, each behind the CR LF of the one before; the first starts at a place

data LinesIn (head : List ℕ) : ℕ → List (List ℕ) → Type 0 where
  no_line : {at : ℕ} → LinesIn head at []
  one_line :
      {at : ℕ} {l : List ℕ} {ls : List (List ℕ)} → at + length l ≤ length head → l ≡ take (length l) (drop at head)
      → LinesIn head (at + length l + 2) ls → LinesIn head at (l ∷ ls)

lines-in :
    (fuel : ℕ) (s : List ℕ) (i : ℕ) → length s - i < fuel → (i < length s → ends_line (drop i s) ≡ true)
    → LinesIn s (i + 2) (lines_of (drop i s)).others
lines-in zero s i h e = absurd (omega arith)
lines-in (suc fuel) s i h e = by (ltb i (length s)) refl (lines-in fuel s)
  where
    by :
        (t : Bool) → ltb i (length s) ≡ t
        → ((j : ℕ) → length s - j < fuel → (j < length s → ends_line (drop j s) ≡ true) → LinesIn s (j + 2) (lines_of (drop j s)).others)
        → LinesIn s (i + 2) (lines_of (drop i s)).others
    by false q ih = rw (no_lines s i (ltb-false i (length s) q)) no_line
    by true q ih =
        let a : i < length s = ltb-true i (length s) q in
        let n = line_run (drop (i + 2) s) in
        let b : i + 2 ≤ length s = ends-inside s i (e a) in
        let w : i + 2 + n ≤ length s = line-within s (i + 2) b in
        let l : (lines_of (drop (i + 2) s)).first ≡ take n (drop (i + 2) s) = first-line (drop (i + 2) s) in
        let m : length (take n (drop (i + 2) s)) ≡ n = length-take-le n (drop (i + 2) s) (line-le (drop (i + 2) s)) in
        rw (next-line s i (i + 2 + n) refl (e a), l)
        (one_line {at = i + 2} {l = take n (drop (i + 2) s)} {ls = (lines_of (drop (i + 2 + n) s)).others} (omega (arith, m, w)) (ap (λ (k : ℕ). take k (drop (i + 2) s)) (sym m))
        (rw m (ih (i + 2 + n) (omega arith) (next-ends s i (i + 2 + n) refl b))))

head-lines : (head : List ℕ) → LinesIn head (line_run head + 2) (lines_of head).others
head-lines head = rw (other-lines head) (lines-in (suc (length head)) head (line_run head) (omega arith) (line-ends head))

-- THE FIELDS AT THEIR PLACES

record FieldsThere (head : List ℕ) (ps : List Spans) (fs : List Field) : Type 0 where
  fields : fields_at head ps ≡ fs
  inside : AllInside head ps

-- the field of a line that starts at a place
module _
    (head : List ℕ) (at : ℕ) (l : List ℕ) (f : Field) (b : at + length l ≤ length head) (is : l ≡ take (length l) (drop at head))
    (st : FieldStands l f) where
  part_of : (i n : ℕ) → i + n ≤ length l → take n (drop i l) ≡ take n (drop (at + i) head)
  part_of i n h =
      let m : i + n ≤ length (take (length l) (drop at head)) = rw (← is) h in
      ap (λ (t : List ℕ). take n (drop i t)) is
      ∙ part-take (drop at head) (length l) i n m
      ∙ ap (take n) (drop-drop i at head)

  name-there : take (name_length l) (drop at head) ≡ f.name
  name-there =
      let z : at + 0 ≡ at = omega arith in
      sym (st.name ∙ part_of 0 (name_length l) (omega (arith, st.colon_inside)) ∙ ap (λ (j : ℕ). take (name_length l) (drop j head)) z)

  value_there : take (value_length l) (drop (at + value_start l) head) ≡ f.value
  value_there = sym (st.value ∙ part_of (value_start l) (value_length l) st.value_inside)

  field-there : field_in head (spans_at at l) ≡ f
  field-there = rw (name-there, value_there)

  inside-there : InHead head (spans_at at l)
  inside-there = record { name = omega (arith, st.colon_inside); value = omega (arith, st.value_inside) }

inside-next : (head : List ℕ) (p : Spans) (ps : List Spans) → InHead head p → AllInside head ps → AllInside head (p ∷ ps)
inside-next head p ps a more zero h = a
inside-next head p ps a more (suc j) h = more j (omega arith)

there :
    (rule : ℕ → Bool) (head : List ℕ) (at : ℕ) (ls : List (List ℕ)) → LinesIn head at ls → (fs : List Field) → each_field rule ls ≡ Some fs
    → FieldsThere head (places_from at ls) fs
unfolding each_field places_from
there rule head at [] no_line fs q = record { fields = cc; inside = λ j h. absurd (omega arith) }
there rule head at (l ∷ ls) (one_line b is rest) fs q =
    by (field_of rule l) (each_field rule ls) refl refl (there rule head (at + length l + 2) ls rest) q
  where
    by :
        (o : Option Field) (p : Option (List Field)) → field_of rule l ≡ o → each_field rule ls ≡ p
        → ((gs : List Field) → each_field rule ls ≡ Some gs → FieldsThere head (places_from (at + length l + 2) ls) gs) → ahead o p ≡ Some fs
        → FieldsThere head (spans_at at l ∷ places_from (at + length l + 2) ls) fs
    by None p x y ih r = absurd (let z : ◌≡◌ {A = ℕ} 0 1 = cc in omega arith)
    by (Some f) None x y ih r = absurd (let z : ◌≡◌ {A = ℕ} 0 1 = cc in omega arith)
    by (Some f) (Some gs) x y ih r =
        let st = field-stands rule l f x in
        let z : fs ≡ f ∷ gs = cc in
        let g = ih gs y in
        rw z
        (record {
          fields = rw (field-there head at l f b is st, g.fields);
          inside = inside-next head (spans_at at l) (places_from (at + length l + 2) ls) (inside-there head at l f b is st) g.inside;
        })

places-length : (at : ℕ) (ls : List (List ℕ)) → length (places_from at ls) ≡ length ls
unfolding places_from
places-length at [] = refl
places-length at (l ∷ ls) = ap suc (places-length (at + length l + 2) ls)

-- FIELDS ARE AT MOST 64

each-length : (rule : ℕ → Bool) (ls : List (List ℕ)) (fs : List Field) → each_field rule ls ≡ Some fs → length fs ≡ length ls
unfolding each_field
each-length rule [] fs e = let z : fs ≡ [] = cc in rw z
each-length rule (l ∷ ls) fs e = by (field_of rule l) (each_field rule ls) refl (each-length rule ls) e
  where
    by :
        (f : Option Field) (o : Option (List Field)) → each_field rule ls ≡ o → ((gs : List Field) → each_field rule ls ≡ Some gs → length gs ≡ length ls)
        → ahead f o ≡ Some fs → length fs ≡ suc (length ls)
    by None o q ih e = let z : ◌≡◌ {A = ℕ} 0 1 = cc in omega arith
    by (Some f) None q ih e = let z : ◌≡◌ {A = ℕ} 0 1 = cc in omega arith
    by (Some f) (Some gs) q ih e = let z : fs ≡ f ∷ gs = cc in rw z (ap suc (ih gs q))

record Each (rule : ℕ → Bool) (lines : List (List ℕ)) (fs : List Field) : Type 0 where
  each : each_field rule lines ≡ Some fs
  few : length lines ≤ 64

each_of : (rule : ℕ → Bool) (lines : List (List ℕ)) (fs : List Field) → fields_of rule lines ≡ gives fs → Each rule lines fs
each_of rule lines fs e = by (leb (length lines) 64) refl (given-gives (fields_in 64 rule lines) 15 fs e)
  where
    by : (t : Bool) → leb (length lines) 64 ≡ t → cond t (each_field rule lines) None ≡ Some fs → Each rule lines fs
    by true q f = record { each = f; few = leb-true (length lines) 64 q }
    by false q f = absurd (let z : ◌≡◌ {A = ℕ} 0 1 = cc in omega arith)

pub fields_few : (rule : ℕ → Bool) (lines : List (List ℕ)) (fs : List Field) → fields_of rule lines ≡ gives fs → length fs ≤ 64
fields_few rule lines fs e =
    let m = each_of rule lines fs e in
    omega (arith, m.few, each-length rule lines fs m.each)

-- WHAT AN ANSWER SAYS

module _ (rule : ℕ → Bool) (head : List ℕ) (before after : List Spans) where
  pub stored-stand : (n : ℕ) → Stored rule head before after (Ok n) → FieldsStand rule head after n
  stored-stand n s =
      let lines = (lines_of head).others in
      let g = then-gives (fields_of rule lines) (λ fs. gives (length fs)) n (sym s.answer) in
      let m = each_of rule lines g.it g.first in
      let c : length g.it ≡ n = gives-once _ _ g.next in
      let l : length lines ≡ n = sym (each-length rule lines g.it m.each) ∙ c in
      let t = there rule head (line_run head + 2) lines (head-lines head) g.it m.each in
      let p : length (places_of head) ≡ n = places-length (line_run head + 2) lines ∙ l in
      let q : take n after ≡ places_of head = ap (take n) s.places ∙ take_at (places_of head) (drop (length (places_of head)) before) n p in
      record {
        answer = ap gives (ap (fields_at head) q ∙ t.fields) ∙ sym g.first;
        inside = rw q t.inside;
        stored = q;
        room = omega (arith, ap length s.places, length-append (places_of head) (drop (length (places_of head)) before), p);
        count = sym l;
        few = omega (arith, m.few);
      }

  pub stored_refused : (e : Refusal) → Stored rule head before after (Err e) → refused (number_of e) ≡ fields_of rule (lines_of head).others
  stored_refused e s = by (fields_of rule (lines_of head).others) s.answer
    where
      by : (o : Outcome (List Field)) → ◌≡◌ {A = Outcome ℕ} (refused (number_of e)) (then o (λ fs. gives (length fs))) → refused (number_of e) ≡ o
      by (refused m) x = cc
      by (gives fs) x = cc
