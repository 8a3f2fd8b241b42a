-- Field lines, and the places of fields in a lent list.
-- Assumes nothing.
use Rattle.std.specs.Prelude.{ℕ, ◌+◌, ◌≤◌, ◌<◌, ◌≡◌, Bool, cond, ◌&&◌, leb, ltb, Option, None, Some, Result, Ok, Err}
use Rattle.std.specs.Prelude.{List, [], ◌∷◌, ◌++◌, length, map, take, drop, get_or}
use Rattle.octets.specs.Outcome.{Outcome, gives, then, given}
use Rattle.octets.specs.Kinds.{is_blank, is_value}
use Rattle.octets.specs.Scan.{run, all_of, other}
use Rattle.octets.specs.Trim.{trimmed}
use Rattle.http_head.specs.Lines.{lines_of, line_run}
use Rattle.octets.specs.Refusal.{outcome}
use Rattle.octets.specs.declared.refusal.Refusal.{Refusal}
use Rattle.octets.specs.declared.span.Span.{Span}
use Rattle.http_head.specs.declared.fields.Field.{Field as Spans}

-- "a name, `:`, a value"
pub record Field : Type 0 where
  pub name : List ℕ
  pub value : List ℕ

-- "Names are one or more token bytes without `_`": the rule of a name's byte is is_name in a request, and is_token in a script's response,
-- where "`_` is allowed"
abbrev pub is_field_name : (ℕ → Bool) → List ℕ → Bool
is_field_name rule n = ltb 0 (length n) && all_of rule n

-- the field of a line whose first `:`, which is 58, stands at n: "Values lose spaces and tabs at both ends; what is left has only bytes 9,
-- 32 to 126 and 128 to 255."
abbrev pub field_with : (ℕ → Bool) → List ℕ → ℕ → Option Field
field_with rule line n =
    let name = take n line in
    let value = trimmed (drop (n + 1) line) in
    cond (ltb n (length line) && is_field_name rule name && all_of is_value value) (Some (record { name = name; value = value })) None

-- "A field line is a name, `:`, a value": how long the name is
abbrev pub name_length : List ℕ → ℕ
name_length line = run (other 58) line

-- "A line that begins with space or tab is refused": neither is a byte of a name.
unfoldable pub field_of : (ℕ → Bool) → List ℕ → Option Field
field_of rule line = field_with rule line (name_length line)

-- where the value starts: after the colon and the spaces and tabs that it loses. An empty value starts where these end, at the line's end.
abbrev pub value_start : List ℕ → ℕ
value_start line = let behind = name_length line + 1 in behind + run is_blank (drop behind line)

-- how long the value is
abbrev pub value_length : List ℕ → ℕ
value_length line = length (trimmed (drop (name_length line + 1) line))

-- a field before others, where all are there
abbrev pub ahead : Option Field → Option (List Field) → Option (List Field)
ahead None fs = None
ahead (Some f) None = None
ahead (Some f) (Some fs) = Some (f ∷ fs)

-- the fields of lines, where each line has one
unfoldable pub each_field : (ℕ → Bool) → List (List ℕ) → Option (List Field)
each_field rule [] = Some []
each_field rule (l ∷ ls) = ahead (field_of rule l) (each_field rule ls)

-- .. and they are at most k
abbrev pub fields_in : ℕ → (ℕ → Bool) → List (List ℕ) → Option (List Field)
fields_in k rule lines = cond (leb (length lines) k) (each_field rule lines) None

-- 15: "field line refused, or more than 64"
abbrev pub fields_of : (ℕ → Bool) → List (List ℕ) → Outcome (List Field)
fields_of rule lines = given (fields_in 64 rule lines) 15

-- where the field of a line stands in it: its name starts the line
abbrev pub line_spans : List ℕ → Spans
line_spans line =
    record {
      name = record { start = 0; len = name_length line };
      value = record { start = value_start line; len = value_length line };
    }

-- .. where the line has one
abbrev pub spans_if : Option Field → List ℕ → Option Spans
spans_if None line = None
spans_if (Some f) line = Some (line_spans line)

abbrev pub spans_of : (ℕ → Bool) → List ℕ → Option Spans
spans_of rule line = spans_if (field_of rule line) line

-- the same for a line that starts at a place in a head
abbrev pub spans_at : ℕ → List ℕ → Spans
spans_at at line =
    record {
      name = record { start = at; len = name_length line };
      value = record { start = at + value_start line; len = value_length line };
    }

-- .. and where the line ends there
abbrev pub place_if : Option Field → ℕ → List ℕ → Option (Spans × ℕ)
place_if None at line = None
place_if (Some f) at line = Some (spans_at at line, at + length line)

abbrev pub place_of : (ℕ → Bool) → List ℕ → ℕ → Option (Spans × ℕ)
place_of rule head at = let line = (lines_of (drop at head)).first in place_if (field_of rule line) at line

-- where the fields of lines stand, of which the first starts at a place. Two bytes, CR LF, stand between a line and the next
unfoldable pub places_from : ℕ → List (List ℕ) → List Spans
places_from at [] = []
places_from at (l ∷ ls) = spans_at at l ∷ places_from (at + length l + 2) ls

-- .. for each line of a head but the first
abbrev pub places_of : List ℕ → List Spans
places_of head = places_from (line_run head + 2) (lines_of head).others

-- what the code's answer says: how many fields there are
abbrev pub fields_outcome : Result ℕ Refusal → Outcome ℕ
fields_outcome = outcome (λ n. n)

-- a list with others at its front, and else as it was
abbrev pub with_front : List Spans → List Spans → List Spans
with_front before ps = ps ++ drop (length ps) before

-- the list before and after: the places are stored at its front, and else it is as it was; on 15 the first 64 may be any
abbrev pub StoredAs : List ℕ → List Spans → List Spans → Result ℕ Refusal → Type 0
StoredAs head before after (Ok n) = after ≡ with_front before (places_of head)
StoredAs head before after (Err e) = (length after ≡ length before) × (drop 64 after ≡ drop 64 before)

-- the answer r, and the list before and after, are those of the field lines of a head
pub record Stored (rule : ℕ → Bool) (head : List ℕ) (before after : List Spans) (r : Result ℕ Refusal) : Type 0 where
  pub answer : fields_outcome r ≡ then (fields_of rule (lines_of head).others) (λ fs. gives (length fs))
  pub places : StoredAs head before after r

-- THE FIELDS THAT STAND AT STORED PLACES

-- the bytes that stand at a place
abbrev pub part_at : List ℕ → Span → List ℕ
part_at head s = take s.len (drop s.start head)

-- the field that stands there
abbrev pub field_in : List ℕ → Spans → Field
field_in head f = record { name = part_at head f.name; value = part_at head f.value }

-- .. and so for each place
abbrev pub fields_at : List ℕ → List Spans → List Field
fields_at head ps = map (field_in head) ps

-- no place in a list
abbrev pub nowhere : Spans
nowhere = record { name = record { start = 0; len = 0 }; value = record { start = 0; len = 0 } }

-- the field with number k
abbrev pub field_at : List ℕ → List Spans → ℕ → Field
field_at head ps k = field_in head (get_or ps k nowhere)

-- the name and the value of a field lie in head
pub record InHead (head : List ℕ) (f : Spans) : Type 0 where
  pub name : f.name.start + f.name.len ≤ length head
  pub value : f.value.start + f.value.len ≤ length head

-- .. of the field with number k
abbrev pub Inside : List ℕ → List Spans → ℕ → Type 0
Inside head ps k = InHead head (get_or ps k nowhere)

-- .. and so for each
abbrev pub AllInside : List ℕ → List Spans → Type 0
AllInside head ps = (k : ℕ) → k < length ps → Inside head ps k
