-- Laws of the places of fields in a lent list: storing one more, and the walk over lines.
-- Assumes nothing.
use mathlib.Core.Path.{◌≡◌, refl, sym, ap, ◌∙◌}
use mathlib.Core.Bool.{Bool, true, false, cond}
use mathlib.Core.List.{List, [], ◌∷◌, ◌++◌, append-nil, append_assoc}
use Rattle.std.proofs.Common.{Option, None, Some, Ok, Err}
use Prim.Native.Nat.{ℕ, suc, ◌+◌, ◌-◌, ◌≤◌, ◌<◌}
use native.Mathlib.Omega.{arith}
use native.Mathlib.Numerals.{add-one}
use lib.Dec.{leb, leb-zero, leb-suc-zero, leb-suc-suc}
use lib.ListN.{length, drop, set, get_or, length-append, length-drop}
use lib.Seq.{append_snoc, drop-cons, drop-drop, drop-append-add, set-append_seam}
use Rattle.octets.specs.declared.refusal.Refusal.TheVariants.{FieldLine}
use Rattle.http_head.specs.Lines.{lines_of, line_run}
use Rattle.http_head.specs.Fields.{Field, field_of, ahead, each_field, fields_in, spans_at, nowhere, places_from, places_of, Stored}
use Rattle.http_head.specs.declared.fields.Field.{Field as Spans}

-- one place more, behind those that are stored
store :
    (d p : List Spans) (n : ℕ) (x : Spans) → length p ≡ n → n < length d
    → set (p ++ drop n d) n x ≡ (p ++ x ∷ []) ++ drop (n + 1) d
store d p n x l h =
    ap (λ (t : List Spans). set (p ++ t) n x) (drop-cons d n nowhere h)
    ∙ ap (λ (k : ℕ). set (p ++ get_or d n nowhere ∷ drop (suc n) d) k x) (sym l)
    ∙ set-append_seam p (get_or d n nowhere) (drop (suc n) d) x
    ∙ sym (append_snoc p x (drop (suc n) d))
    ∙ ap (λ (k : ℕ). (p ++ x ∷ []) ++ drop k d) (sym (add-one n))

-- the fields of lines, one line at a time
module _ (rule : ℕ → Bool) where
  lines_end : (k : ℕ) → fields_in k rule [] ≡ Some []
  unfolding each_field
  lines_end k = rw (leb-zero k)

  module _ (l : List ℕ) (ls : List (List ℕ)) where
    lines-over : fields_in 0 rule (l ∷ ls) ≡ None
    lines-over = rw (leb-suc-zero (length ls))

    lines_next : (k : ℕ) → fields_in (suc k) rule (l ∷ ls) ≡ ahead (field_of rule l) (fields_in k rule ls)
    unfolding each_field
    lines_next k = rw (leb-suc-suc (length ls) k) (by (leb (length ls) k) (field_of rule l))
      where
        by : (t : Bool) (f : Option Field) → cond t (ahead f (each_field rule ls)) None ≡ ahead f (cond t (each_field rule ls) None)
        by true f = refl
        by false None = refl
        by false (Some f) = refl

-- fields behind those that are done
abbrev pub behind : List Field → Option (List Field) → Option (List Field)
behind d None = None
behind d (Some fs) = Some (d ++ fs)

behind-none : (o : Option (List Field)) → behind [] o ≡ o
behind-none None = refl
behind-none (Some fs) = refl

behind-one : (d : List Field) (f : Field) (o : Option (List Field)) → behind d (ahead (Some f) o) ≡ behind (d ++ (f ∷ [])) o
behind-one d f None = refl
behind-one d f (Some fs) = ap (λ (l : List Field). Some l) (sym (append_snoc d f fs))

-- a reader of a head's lines that has stored n fields, with the lines rest before it, of which the first starts at a place
pub record Standing (rule : ℕ → Bool) (head : List ℕ) (rest : List (List ℕ)) (at : ℕ) (d : List Spans) (n : ℕ) (out : List Spans) : Type 0 where
  pub fields : List Field
  pub spans : List Spans
  pub answer : fields_in 64 rule (lines_of head).others ≡ behind fields (fields_in (64 - n) rule rest)
  pub many : length fields ≡ n
  pub places : places_of head ≡ spans ++ places_from at rest
  pub told : length spans ≡ n
  pub stored : out ≡ spans ++ drop n d
  pub count : n ≤ 64
  pub room : 64 ≤ length d

pub start :
    (rule : ℕ → Bool) (head : List ℕ) (rest : List (List ℕ)) (at : ℕ) (d : List Spans) → (lines_of head).others ≡ rest → line_run head + 2 ≡ at
    → 64 ≤ length d → Standing rule head rest at d 0 d
start rule head rest at d e f h =
    record {
      fields = [];
      spans = [];
      answer = ap (fields_in 64 rule) e ∙ sym (behind-none (fields_in 64 rule rest));
      many = refl;
      places = rw (f, e);
      told = refl;
      stored = refl;
      count = omega arith;
      room = h;
    }

module _
    {rule : ℕ → Bool} {head : List ℕ} {rest : List (List ℕ)} {at : ℕ} {d : List Spans} {n : ℕ} {out : List Spans}
    (r : Standing rule head rest at d n out) where
  -- no line is left
  pub at_end : rest ≡ [] → Stored rule head d out (Ok n)
  unfolding places_from
  at_end e =
      let a : fields_in (64 - n) rule rest ≡ Some [] = ap (fields_in (64 - n) rule) e ∙ lines_end rule (64 - n) in
      let b : fields_in 64 rule (lines_of head).others ≡ Some r.fields =
      r.answer ∙ ap (behind r.fields) a ∙ ap (λ (fs : List Field). Some fs) (append-nil r.fields) in
      let p : places_of head ≡ r.spans = r.places ∙ ap (λ (ls : List (List ℕ)). r.spans ++ places_from at ls) e ∙ append-nil r.spans in
      record { answer = rw (b, r.many); places = r.stored ∙ rw (p, r.told) }

  pub long : length out ≡ length d
  long = ap length r.stored ∙ simp (length-append, length-drop) (omega (arith, r.told, r.count, r.room))

  behind-all : drop 64 out ≡ drop 64 d
  behind-all =
      let e : 64 ≡ length r.spans + (64 - n) = omega (arith, r.told, r.count) in
      let z : n + (64 - n) ≡ 64 = omega (arith, r.count) in
      ap (drop 64) r.stored ∙ ap (λ (k : ℕ). drop k (r.spans ++ drop n d)) e ∙ drop-append-add r.spans (drop n d) (64 - n)
      ∙ drop-drop (64 - n) n d ∙ ap (λ (k : ℕ). drop k d) z

  fault : fields_in (64 - n) rule rest ≡ None → Stored rule head d out (Err FieldLine)
  fault e =
      let b : fields_in 64 rule (lines_of head).others ≡ None = r.answer ∙ ap (behind r.fields) e in
      record { answer = rw b; places = (long, behind-all) }

  -- the line l is left, and the lines ls after it
  module _ (l : List ℕ) (ls : List (List ℕ)) (more : rest ≡ l ∷ ls) where
    -- one line too many
    pub too_many : n ≡ 64 → Stored rule head d out (Err FieldLine)
    too_many h =
        let e : 64 - n ≡ 0 = omega arith in
        fault (ap (λ (k : ℕ). fields_in k rule rest) e ∙ ap (fields_in 0 rule) more ∙ lines-over rule l ls)

    module _ (under : n ≡ 64 → ⊥) where
      one_line : fields_in (64 - n) rule rest ≡ ahead (field_of rule l) (fields_in (64 - (n + 1)) rule ls)
      one_line =
          let e : 64 - n ≡ suc (64 - (n + 1)) = omega (arith, r.count) in
          ap (λ (k : ℕ). fields_in k rule rest) e ∙ ap (fields_in (suc (64 - (n + 1))) rule) more ∙ lines_next rule l ls (64 - (n + 1))

      pub bad-line : field_of rule l ≡ None → Stored rule head d out (Err FieldLine)
      bad-line e = fault (one_line ∙ rw e)

      -- the place of the line's field is stored, and the next line starts at a place
      pub onward :
          (f : Field) → field_of rule l ≡ Some f → (next : ℕ) → next ≡ at + length l + 2
          → Standing rule head ls next d (n + 1) (set out n (spans_at at l))
      unfolding places_from
      onward f e next q =
          record {
            fields = r.fields ++ (f ∷ []);
            spans = r.spans ++ (spans_at at l ∷ []);
            answer =
                r.answer
                ∙ ap (behind r.fields) (one_line ∙ ap (λ (o : Option Field). ahead o (fields_in (64 - (n + 1)) rule ls)) e)
                ∙ behind-one r.fields f (fields_in (64 - (n + 1)) rule ls);
            many = length-append r.fields (f ∷ []) ∙ rw r.many;
            places =
                r.places
                ∙ ap (λ (ms : List (List ℕ)). r.spans ++ places_from at ms) more
                ∙ sym (append_assoc r.spans (spans_at at l ∷ []) (places_from (at + length l + 2) ls))
                ∙ ap (λ (m : ℕ). r.spans ++ (spans_at at l ∷ []) ++ places_from m ls) (sym q);
            told = length-append r.spans (spans_at at l ∷ []) ∙ rw r.told;
            stored =
                ap (λ (o : List Spans). set o n (spans_at at l)) r.stored
                ∙ store d r.spans n (spans_at at l) r.told (omega (arith, r.room, r.count));
            count = omega (arith, r.count);
            room = r.room;
          }
