-- What is claimed of the head of a request: where it ends, its request line and its field lines.
-- Assumes nothing.
use Rattle.std.specs.Prelude.{ℕ, ◌+◌, ◌-◌, ◌≤◌, ◌<◌, ◌≡◌, Bool, true, ◌↔◌, List, [], ◌∷◌, ◌++◌, length, take, drop, Some, Ok, Err}
use Rattle.octets.specs.Outcome.{refused, gives}
use Rattle.octets.specs.Kinds.{one_of, is_value}
use Rattle.octets.specs.Scan.{all_of}
use Rattle.octets.specs.Lists.{All, Without, NoNul}
use Rattle.http_head.specs.Head.{head_of}
use Rattle.http_head.specs.Lines.{lines_of, line_run}
use Rattle.http_head.specs.RequestLine.{FirstLine, is_method, is_version, is_served, version_text}
use Rattle.http_head.specs.RequestLine.{request_line_of, line_places_of, line_outcome}
use Rattle.http_head.specs.Fields.{Field, is_field_name, field_of, fields_of, name_length, value_start, value_length}
use Rattle.http_head.specs.Fields.{Stored, places_of, field_at, fields_at, AllInside, part_at}
use Rattle.octets.specs.Refusal.{number_of}
use Rattle.octets.specs.declared.refusal.Refusal.{Refusal}
use Rattle.http_head.specs.declared.request_line.RequestLine.{RequestLine}
use Rattle.http_head.specs.declared.fields.Field.{Field as Spans}

-- THE HEAD

-- a head of n bytes lies in s and in the limit, and has its CR LF CR LF at its end
pub record HeadWithin (s : List ℕ) (n : ℕ) : Type 0 where
  pub last : 4 ≤ n
  pub limit : n ≤ 8192
  pub inside : n ≤ length s
  pub ends : take 4 (drop (n - 4) s) ≡ 13 ∷ 10 ∷ 13 ∷ 10 ∷ []

pub record HeadsHold : Type 0 where
  -- "The head ends with the first CR LF CR LF", "within the first 8,192 bytes"
  pub within : (s : List ℕ) (n : ℕ) → head_of s ≡ gives n → HeadWithin s n
  -- more bytes change no answer but 1
  pub keeps : (s t : List ℕ) → (head_of s ≡ refused 1 → ⊥) → head_of (s ++ t) ≡ head_of s
  -- a head cut short by one byte or more gives 1
  pub cut : (s : List ℕ) (n k : ℕ) → head_of s ≡ gives n → k < n → head_of (take k s) ≡ refused 1

-- the first line of a head is its bytes before the first CR LF
pub record FirstLineStands : Type 0 where
  pub within : (s : List ℕ) → line_run s ≤ length s
  pub first : (s : List ℕ) → (lines_of s).first ≡ take (line_run s) s

-- THE REQUEST LINE

-- "method, space, target, space, version, with exactly two spaces in it"; method and version have no NUL,
-- which would end a variable's value
pub record Reads (line : List ℕ) (f : FirstLine) : Type 0 where
  pub parts : line ≡ f.method ++ (32 ∷ (f.target ++ (32 ∷ f.version)))
  pub method : is_method f.method ≡ true
  pub target : Without 32 f.target
  pub version : is_version f.version ≡ true
  pub served : is_served f.version ≡ true
  pub method_no_nul : NoNul f.method
  pub version_no_nul : NoNul f.version

-- a request line is accepted exactly where it is made so
abbrev pub LineIsMade : Type 0
LineIsMade = (line : List ℕ) (f : FirstLine) → (request_line_of line ≡ gives f) ↔ Reads line f

-- the parts of a request line stand at the places that the answer tells
pub record LineStands (line : List ℕ) (l : RequestLine) : Type 0 where
  pub answer :
      gives (record { method = take l.method_len line; target = part_at line l.target; version = version_text l.minor })
      ≡ request_line_of line
  pub method_inside : l.method_len ≤ length line
  pub target_inside : l.target.start + l.target.len ≤ length line
  pub minor_is : l.minor ≤ 1

pub record LinesTold : Type 0 where
  pub accepts : (line : List ℕ) (l : RequestLine) → line_outcome (Ok l) ≡ line_places_of line → LineStands line l
  pub refuses : (line : List ℕ) (e : Refusal) → line_outcome (Err e) ≡ line_places_of line → refused (number_of e) ≡ request_line_of line

-- THE FIELD LINES

-- the name and the value of a line's field stand in it where its numbers say
pub record FieldStands (line : List ℕ) (f : Field) : Type 0 where
  pub name : f.name ≡ take (name_length line) line
  pub value : f.value ≡ take (value_length line) (drop (value_start line) line)
  pub colon_inside : name_length line + 1 ≤ length line
  pub value_inside : value_start line + value_length line ≤ length line

abbrev pub FieldsHaveNumbers : Type 0
FieldsHaveNumbers = (rule : ℕ → Bool) (line : List ℕ) (f : Field) → field_of rule line ≡ Some f → FieldStands line f

-- a field's name and value have only their bytes, and the value no NUL
pub record Clean (rule : ℕ → Bool) (f : Field) : Type 0 where
  pub name : is_field_name rule f.name ≡ true
  pub value : all_of is_value f.value ≡ true
  pub value_no_nul : NoNul f.value

-- .. and so for all fields of accepted lines, which are at most 64
pub record FieldsObey : Type 0 where
  pub clean : (rule : ℕ → Bool) (lines : List (List ℕ)) (fs : List Field) → fields_of rule lines ≡ gives fs → All (Clean rule) fs
  pub few : (rule : ℕ → Bool) (lines : List (List ℕ)) (fs : List Field) → fields_of rule lines ≡ gives fs → length fs ≤ 64

-- the fields of a head's lines are those that stand in it at the n places that are stored, in order
pub record FieldsStand (rule : ℕ → Bool) (head : List ℕ) (places : List Spans) (n : ℕ) : Type 0 where
  pub answer : gives (fields_at head (take n places)) ≡ fields_of rule (lines_of head).others
  pub inside : AllInside head (take n places)
  pub stored : take n places ≡ places_of head
  pub room : n ≤ length places
  pub count : n ≡ length (lines_of head).others
  pub few : n ≤ 64

pub record FieldsTold : Type 0 where
  pub accepts :
      (rule : ℕ → Bool) (head : List ℕ) (before after : List Spans) (n : ℕ) → Stored rule head before after (Ok n)
      → FieldsStand rule head after n
  pub refuses :
      (rule : ℕ → Bool) (head : List ℕ) (before after : List Spans) (e : Refusal) → Stored rule head before after (Err e)
      → refused (number_of e) ≡ fields_of rule (lines_of head).others

-- how many bytes field lines take at least, each with its colon and its CR LF
unfoldable pub fields_size : List Field → ℕ
fields_size [] = 0
fields_size (f ∷ fs) = length f.name + length f.value + 3 + fields_size fs

-- a head has its request line and its field lines in it: two spaces, eight bytes of version; a colon and a CR LF for each field
abbrev pub HeadHolds : Type 0
HeadHolds =
    (rule : ℕ → Bool) (head : List ℕ) (f : FirstLine) (fs : List Field) → Reads (lines_of head).first f
    → fields_of rule (lines_of head).others ≡ gives fs
    → (length f.version ≡ 8) × (length f.method + length f.target + 10 + fields_size fs ≤ length head)

-- stored fields, one after the other: the one with number k, and those after it
pub record FieldsInTurn : Type 0 where
  pub next :
      (head : List ℕ) (places : List Spans) (k : ℕ) → k < length places
      → fields_at head (drop k places) ≡ field_at head places k ∷ fields_at head (drop (k + 1) places)
  pub end : (head : List ℕ) (places : List Spans) (k : ℕ) → length places ≤ k → fields_at head (drop k places) ≡ []

-- no other number is given: 11 or 1 for the head, 12 or 13 for the request line, 15 for the field lines
pub record NumbersHold : Type 0 where
  pub head : (s : List ℕ) (n : ℕ) → head_of s ≡ refused n → one_of (1 ∷ 11 ∷ []) n ≡ true
  pub line : (line : List ℕ) (n : ℕ) → request_line_of line ≡ refused n → one_of (12 ∷ 13 ∷ []) n ≡ true
  pub fields : (rule : ℕ → Bool) (lines : List (List ℕ)) (n : ℕ) → fields_of rule lines ≡ refused n → n ≡ 15
