-- A field line of the head: its field, as the reader of field lines places it.
-- Assumes nothing.
use Prim.Native.Nat.{ℕ, ◌+◌, ◌≤◌}
use mathlib.Core.Path.{◌≡◌, refl, sym, ap, ◌∙◌}
use mathlib.Core.List.{List}
use Rattle.std.proofs.Common.{Option, None, Some}
use native.Mathlib.Omega.{arith}
use lib.ListN.{length, take, drop, length-take, length-drop}
use Rattle.octets.specs.Kinds.{is_token}
use Rattle.http_head.specs.Fields.{Field, field_of, name_length, value_start, value_length, line_spans, spans_if, spans_of}
use Rattle.http_head.specs.Claims.{FieldStands}
use Rattle.http_head.specs.declared.fields.Field.{Field as Spans}
use Rattle.http_head.proofs.Claims.{fields-have-numbers}
use Rattle.response.specs.Head.{field_in}
use Rattle.response.specs.Seen.{see_of, seen_with}
use Rattle.response.specs.declared.fields.Seen.{Seen}

-- the value of a line's field stands where it is said to
module _ (line : List ℕ) (f : Field) (e : field_of is_token line ≡ Some f) where
  stands : FieldStands line f
  stands = fields-have-numbers is_token line f e

  pub value-length : length f.value ≡ value_length line
  value-length = ap length stands.value ∙ simp (length-take, length-drop) (omega (arith, stands.value_inside))

  pub value-stands : f.value ≡ take (length f.value) (drop (value_start line) line)
  value-stands = stands.value ∙ ap (λ (k : ℕ). take k (drop (value_start line) line)) (sym value-length)

  pub value_inside : value_start line + length f.value ≤ length line
  value_inside = omega (arith, stands.value_inside, value-length)

-- the reader says that the line has no field
pub unseen : (line : List ℕ) (at : ℕ) (seen : Seen) → None ≡ spans_of is_token line → None ≡ seen_with seen (field_in (record { start = at; bytes = line }))
unseen line at seen = by (field_of is_token line) refl
  where
    by : (o : Option Field) → field_of is_token line ≡ o → None ≡ spans_if o line → None ≡ seen_with seen (field_in (record { start = at; bytes = line }))
    by None p q = rw p
    by (Some f) p q = cc

-- .. or where the name and the value of its field stand
pub record Told (line : List ℕ) (x : Spans) : Type 0 where
  pub field : Field
  pub there : field_of is_token line ≡ Some field
  pub are : x ≡ line_spans line
  pub name_inside : x.name.start + x.name.len ≤ length line
  pub value_inside : x.value.start + x.value.len ≤ length line

pub some_is : {A : Type 0} {a b : A} → Some a ≡ Some b → a ≡ b
some_is e = cc

pub told : (line : List ℕ) (x : Spans) → Some x ≡ spans_of is_token line → Told line x
told line x = by (field_of is_token line) refl
  where
    by : (o : Option Field) → field_of is_token line ≡ o → Some x ≡ spans_if o line → Told line x
    by None p q = absurd (let z : ◌≡◌ {A = ℕ} 0 1 = cc in omega arith)
    by (Some f) p q =
        let s = stands line f p in
        let z = some_is q in
        record {
          field = f;
          there = p;
          are = z;
          name_inside = rw z (omega (arith, s.colon_inside));
          value_inside = rw z s.value_inside;
        }

pub seen-line :
    {line : List ℕ} {x : Spans} → Told line x → (at : ℕ) (seen r : Seen)
    → r ≡ see_of seen (take x.name.len (drop x.name.start line)) (record { start = at + x.value.start; len = x.value.len })
    → Some r ≡ seen_with seen (field_in (record { start = at; bytes = line }))
seen-line {line} {x} t at seen r e =
    let f = t.field in
    let name : take (name_length line) line ≡ f.name = sym (stands line f t.there).name in
    let len : value_length line ≡ length f.value = sym (value-length line f t.there) in
    rw (e, t.there, t.are, name, len)
