-- For the step that reads the head: what it keeps of the fields, one after the other.
-- Assumes nothing.
use Rattle.std.specs.Prelude.{ℕ, ◌+◌, ◌≤◌, Bool, true, false, cond, not, List, [], ◌∷◌, eqb, length, take, drop, Option, None, Some}
use Rattle.octets.specs.Text.{bytes}
use Rattle.octets.specs.Compare.{same_letters}
use Rattle.octets.specs.declared.span.Span.{Span}
use Rattle.response.specs.Head.{Value, Named, Head}
use Rattle.response.specs.declared.fields.Mark.{Mark}
use Rattle.response.specs.declared.fields.Mark.TheVariants.{Absent, Once, Twice}
use Rattle.response.specs.declared.fields.Seen.{Seen}
use Rattle.response.specs.declared.head.HeadPlace.{HeadPlace}

-- a field of the wanted name after what the mark tells
abbrev pub again : Mark → Span → Mark
again Absent value = Once value
again (Once p) value = Twice
again Twice value = Twice

-- a field after what the mark tells of the fields whose name is w
abbrev pub noted_of : List ℕ → Mark → List ℕ → Span → Mark
noted_of w m name value = cond (same_letters name w) (again m value) m

abbrev pub see_of : Seen → List ℕ → Span → Seen
see_of seen name value =
    record {
      content = noted_of (bytes "content-type") seen.content name value;
      location = noted_of (bytes "location") seen.location name value;
      status = noted_of (bytes "status") seen.status name value;
    }

-- where a value stands
abbrev pub place_of : Value → Span
place_of v = record { start = v.start; len = length v.bytes }

abbrev pub see_field : Seen → Named → Seen
see_field seen f = see_of seen f.name (place_of f.value)

abbrev pub seen_with : Seen → Option Named → Option Seen
seen_with seen None = None
seen_with seen (Some f) = Some (see_field seen f)

-- fields after what was seen
unfoldable pub seen_from : Seen → List Named → Seen
seen_from seen [] = seen
seen_from seen (f ∷ fs) = seen_from (see_field seen f) fs

abbrev pub none_seen : Seen
none_seen = record { content = Absent; location = Absent; status = Absent }

-- what is kept of a head, where n fields were seen before
abbrev pub seen_on : ℕ → Seen → Option Head → Option HeadPlace
seen_on n seen None = None
seen_on n seen (Some h) = Some (record { end = h.ends; fields = n + length h.fields; seen = seen_from seen h.fields })

abbrev pub seen_head : Option Head → Option HeadPlace
seen_head o = seen_on 0 none_seen o

-- the value that a mark tells, in the output s
abbrev pub value_at : List ℕ → Mark → Option Value
value_at s Absent = None
value_at s (Once p) = Some (record { start = p.start; bytes = take p.len (drop p.start s) })
value_at s Twice = None

-- .. and that it lies within s
abbrev pub MarkIn : List ℕ → Mark → Type 0
MarkIn s Absent = Unit {0}
MarkIn s (Once p) = p.start + p.len ≤ length s
MarkIn s Twice = Unit {0}

-- .. for each of the three
pub record SeenIn (s : List ℕ) (seen : Seen) : Type 0 where
  pub content : MarkIn s seen.content
  pub location : MarkIn s seen.location
  pub status : MarkIn s seen.status

-- a mark tells one field or none
abbrev pub not_twice : Mark → Bool
not_twice Absent = true
not_twice (Once p) = true
not_twice Twice = false

-- a value that a mark tells is not empty
abbrev pub mark_filled : Mark → Bool
mark_filled Absent = true
mark_filled (Once p) = not (eqb p.len 0)
mark_filled Twice = true

-- a mark tells one field
abbrev pub is_once : Mark → Bool
is_once Absent = false
is_once (Once p) = true
is_once Twice = false
