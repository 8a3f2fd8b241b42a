-- The head of a script's output: its lines, their fields, and where it ends.
-- Assumes nothing.
use Rattle.std.specs.Prelude.{ℕ, ◌+◌, ◌-◌, cond, List, [], ◌∷◌, eqb, leb, length, take, get_or, Option, None, Some}
use Rattle.octets.specs.Outcome.{Outcome, given}
use Rattle.octets.specs.Kinds.{is_token}
use Rattle.octets.specs.Lists.{is_nil}
use Rattle.octets.specs.Parts.{parted}
use Rattle.http_head.specs.Fields.{Field, field_of, value_start}

-- "Lines end in LF, with or without one CR before it": a line is what stands before the LF, without one CR, which is 13, at its end
unfoldable pub bare_length : List ℕ → ℕ
bare_length f = cond (eqb (get_or f (length f - 1) 0) 13) (length f - 1) (length f)

abbrev pub bare : List ℕ → List ℕ
bare f = take (bare_length f) f

-- a line, without its end, and where it starts in the output
pub record Line : Type 0 where
  pub start : ℕ
  pub bytes : List ℕ

-- the lines before the empty line, and the place after the empty line's LF
pub record Lines : Type 0 where
  pub lines : List Line
  pub ends : ℕ

-- one line more before others
abbrev pub on_top : Line → Option Lines → Option Lines
on_top l None = None
on_top l (Some h) = Some (record { lines = l ∷ h.lines; ends = h.ends })

-- "the head ends with the first empty line": f is what stands from the place at on before the next LF, and fs is what stands behind that LF
-- up to the next, and so on. What no LF ends is no line.
unfoldable pub lines_from : ℕ → List ℕ → List (List ℕ) → Option Lines
lines_from at f [] = None
lines_from at f (g ∷ fs) =
    let next = at + length f + 1 in
    cond (is_nil (bare f)) (Some (record { lines = []; ends = next })) (on_top (record { start = at; bytes = bare f }) (lines_from next g fs))

-- .. of the bytes t, which start at the place at; LF is 10
abbrev pub lines_at : ℕ → List ℕ → Option Lines
lines_at at t = lines_from at (parted 10 t).first (parted 10 t).others

-- the bytes of a value, and where they start in the output
pub record Value : Type 0 where
  pub start : ℕ
  pub bytes : List ℕ

-- "a name, `:`, a value"
pub record Named : Type 0 where
  pub name : List ℕ
  pub value : Value

-- the field of a line, with the place of its value in the output
abbrev pub placed : Line → Option Field → Option Named
placed l None = None
placed l (Some f) =
    Some (record { name = f.name; value = record { start = l.start + value_start l.bytes; bytes = f.value } })

-- "field lines as above, but `_` is allowed": a name's bytes are token bytes
abbrev pub field_in : Line → Option Named
field_in l = placed l (field_of is_token l.bytes)

-- a field before others, where all are there
abbrev pub ahead : Option Named → Option (List Named) → Option (List Named)
ahead None fs = None
ahead (Some f) None = None
ahead (Some f) (Some fs) = Some (f ∷ fs)

-- the fields of lines, where each line has one
unfoldable pub fields_of : List Line → Option (List Named)
fields_of [] = Some []
fields_of (l ∷ ls) = ahead (field_in l) (fields_of ls)

-- the fields of the head, and where the body starts: the place after the empty line's LF
pub record Head : Type 0 where
  pub fields : List Named
  pub ends : ℕ

abbrev pub ends_at : ℕ → Option (List Named) → Option Head
ends_at n None = None
ends_at n (Some fs) = Some (record { fields = fs; ends = n })

-- .. where at most k lines stand before the empty line, and each is a field line
abbrev pub head_with : ℕ → Option Lines → Option Head
head_with k None = None
head_with k (Some h) = cond (leb (length h.lines) k) (ends_at h.ends (fields_of h.lines)) None

-- "the head ends with the first empty line, within 8,192 bytes, and has at most 64 lines before it; field lines as above, but `_` is
-- allowed. Else 24." The empty line's LF is among the first 8,192 bytes. A CR that does not belong to a line's end is no byte of a name or
-- of a value, so it is 24 too.
unfoldable pub head_of : List ℕ → Outcome Head
head_of s = given (head_with 64 (lines_at 0 (take 8192 s))) 24
