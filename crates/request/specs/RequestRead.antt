-- For the code that reads a request's head: what its answers say.
-- Assumes nothing.
use Rattle.std.specs.Prelude.{ℕ, ◌+◌, ◌-◌, ◌≤◌, ◌≡◌, List, length, take, drop, get_or, Option, None, Some, Result, Ok, Err}
use Rattle.octets.specs.Text.{bytes}
use Rattle.octets.specs.Outcome.{Outcome, gives, then}
use Rattle.octets.specs.Refusal.{outcome}
use Rattle.octets.specs.Kinds.{is_name}
use Rattle.octets.specs.Copy.{over}
use Rattle.http_head.specs.Lines.{lines_of, line_run}
use Rattle.http_head.specs.RequestLine.{FirstLine, request_line_of, version_text}
use Rattle.octets.specs.declared.refusal.Refusal.{Refusal}
use Rattle.octets.specs.declared.span.Span.{Span}
use Rattle.http_head.specs.Fields.{Field, fields_of, places_of, with_front, part_at, fields_at, AllInside}
use Rattle.http_head.specs.declared.fields.Field.{Field as Spans}
use Rattle.targets.specs.Escape.{decoded}
use Rattle.targets.specs.Target.{path_of, query_of, target_of}
use Rattle.request.specs.Named.{lowered, values_of, first_found}
use Rattle.request.specs.Request.{Request, rules_of, request_of}
use Rattle.request.specs.Rules.{found_of}
use Rattle.request.specs.declared.read.LinePlaces.{LinePlaces}
use Rattle.request.specs.declared.read.FieldPlaces.{FieldPlaces}
use Rattle.request.specs.declared.read.RequestPlaces.{RequestPlaces}

-- THE REQUEST LINE

-- a request line and the decoded path of its target: 12; 13; 14
pub record Start : Type 0 where
  pub first : FirstLine
  pub path : List ℕ

abbrev pub start_of : List ℕ → Outcome Start
start_of head =
    then (request_line_of (lines_of head).first) (λ first.
    then (target_of first.target) (λ target.
    gives (record { first = first; path = target.path })))

-- the second digit of a version, which is its eighth byte; 48 is the digit 0
abbrev pub minor_of : List ℕ → ℕ
minor_of version = get_or version 7 0 - 48

-- where the parts stand in a head: the line ends at the first CR LF, the method is its first bytes, and the target starts one after the
-- method's space
abbrev pub line_placed : List ℕ → Start → LinePlaces
line_placed head s =
    record {
      end = line_run head;
      method = length s.first.method;
      target = record { start = length s.first.method + 1; len = length s.first.target };
      minor = minor_of s.first.version;
      path = length (path_of s.first.target);
      decoded = length s.path;
    }

-- the target that stands there
abbrev pub target_in : List ℕ → LinePlaces → List ℕ
target_in head l = part_at head l.target

-- what the code's answer says
abbrev pub line_outcome : Result LinePlaces Refusal → Outcome LinePlaces
line_outcome = outcome (λ l. l)

-- the buffer before and after: the decoded path is written to its front, and else it is as it was; after a refusal it may be any
abbrev pub LineWritten : List ℕ → List ℕ → List ℕ → Result LinePlaces Refusal → Type 0
LineWritten head before after (Ok l) = after ≡ over before 0 (decoded (path_of (target_in head l)))
LineWritten head before after (Err e) = Unit {0}

pub record LineRead (head before after : List ℕ) (r : Result LinePlaces Refusal) : Type 0 where
  pub answer : line_outcome r ≡ then (start_of head) (λ s. gives (line_placed head s))
  pub buffer : LineWritten head before after r

-- THE FIELDS

-- fields, and the body length that they state: 15; 16; 17; 18
pub record Stating : Type 0 where
  pub fields : List Field
  pub body_length : ℕ

abbrev pub stating_of : List ℕ → List ℕ → Outcome Stating
stating_of head version =
    then (fields_of is_name (lines_of head).others) (λ fields.
    then (rules_of version (lowered fields)) (λ n.
    gives (record { fields = fields; body_length = n })))

-- how many they are, and where the first Content-Type's value stands in a head, by the places of its field lines
abbrev pub fields_placed : List ℕ → Stating → FieldPlaces
fields_placed head g =
    record {
      count = length g.fields;
      body = g.body_length;
      content_type = (found_of (bytes "content-type") head (places_of head)).first;
    }

-- what the code's answer says
abbrev pub rest_outcome : Result FieldPlaces Refusal → Outcome FieldPlaces
rest_outcome = outcome (λ f. f)

-- the list before and after: the place of each field is stored at its front, and else it is as it was; after a refusal it may be any
abbrev pub FieldsStored : List ℕ → List Spans → List Spans → Result FieldPlaces Refusal → Type 0
FieldsStored head before after (Ok f) = after ≡ with_front before (places_of head)
FieldsStored head before after (Err e) = Unit {0}

pub record FieldsRead (head version : List ℕ) (before after : List Spans) (r : Result FieldPlaces Refusal) : Type 0 where
  pub answer : rest_outcome r ≡ then (stating_of head version) (λ g. gives (fields_placed head g))
  pub places : FieldsStored head before after r

-- THE REQUEST

-- where a request's parts stand in its head
abbrev pub placed_in : List ℕ → Request → RequestPlaces
placed_in head q =
    record {
      line = line_placed head (record { first = q.first; path = q.path });
      fields = fields_placed head (record { fields = q.fields; body_length = q.body_length });
    }

-- what the code's answer says
abbrev pub reading_outcome : Result RequestPlaces Refusal → Outcome RequestPlaces
reading_outcome = outcome (λ r. r)

-- the list and the buffer before and after, as above
abbrev pub RequestStored : (head : List ℕ) (places places' : List Spans) (path path' : List ℕ) → Result RequestPlaces Refusal → Type 0
RequestStored head places places' path path' (Ok r) =
    (places' ≡ with_front places (places_of head)) × (path' ≡ over path 0 (decoded (path_of (target_in head r.line))))
RequestStored head places places' path path' (Err e) = Unit {0}

pub record RequestRead (head : List ℕ) (places places' : List Spans) (path path' : List ℕ) (r : Result RequestPlaces Refusal) : Type 0 where
  pub answer : reading_outcome r ≡ then (request_of head) (λ q. gives (placed_in head q))
  pub stored : RequestStored head places places' path path' r

-- WHAT STANDS AT THE PLACES

-- the line, the decoded path and the fields, by a head, the list of its fields' places and the buffer for its path
abbrev pub line_in : List ℕ → LinePlaces → FirstLine
line_in head l = record { method = take l.method head; target = target_in head l; version = version_text l.minor }

abbrev pub path_in : List ℕ → LinePlaces → List ℕ
path_in path l = take l.decoded path

abbrev pub fields_in : List ℕ → List Spans → FieldPlaces → List Field
fields_in head places f = fields_at head (take f.count places)

abbrev pub request_in : List ℕ → List Spans → List ℕ → LinePlaces → FieldPlaces → Request
request_in head places path l f =
    record { first = line_in head l; path = path_in path l; fields = fields_in head places f; body_length = f.body }

-- the part of a head that stands at a place, where there is one
abbrev pub part_if : List ℕ → Option Span → Option (List ℕ)
part_if head None = None
part_if head (Some s) = Some (part_at head s)

-- .. which lies in the head
abbrev pub PartInside : List ℕ → Option Span → Type 0
PartInside head None = Unit {0}
PartInside head (Some s) = s.start + s.len ≤ length head

-- what code that goes by the places must know of them
pub record LineKnown (head path : List ℕ) (l : LinePlaces) : Type 0 where
  pub method_inside : l.method ≤ length head
  pub target_inside : l.target.start + l.target.len ≤ length head
  pub minor_is : l.minor ≤ 1
  pub path_inside : l.path ≤ l.target.len
  pub query_is : query_of (target_in head l) ≡ drop (l.path + 1) (target_in head l)
  pub decoded_inside : l.decoded ≤ length path

pub record FieldsKnown (head : List ℕ) (places : List Spans) (f : FieldPlaces) : Type 0 where
  pub few : f.count ≤ 64
  pub room : f.count ≤ length places
  pub inside : AllInside head (take f.count places)
  pub type_is : first_found (values_of (bytes "content-type") (lowered (fields_in head places f))) ≡ part_if head f.content_type
  pub type_inside : PartInside head f.content_type
