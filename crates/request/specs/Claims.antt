-- What is claimed of the head of a request.
-- Assumes nothing.
use Rattle.std.specs.Prelude.{ℕ, ◌≤◌, ◌≡◌, true, List, [], ◌∷◌, length, Ok, Err}
use Rattle.octets.specs.Outcome.{refused, gives}
use Rattle.octets.specs.Kinds.{one_of, is_name}
use Rattle.octets.specs.Lists.{All}
use Rattle.http_head.specs.Lines.{lines_of}
use Rattle.http_head.specs.Fields.{fields_of}
use Rattle.http_head.specs.Claims.{Reads, Clean}
use Rattle.targets.specs.Target.{Target, target_of}
use Rattle.targets.specs.Claims.{Accepted}
use Rattle.request.specs.Named.{lowered}
use Rattle.request.specs.Request.{Request, rules_of, request_of}
use Rattle.request.specs.RequestRead.{request_in, LineKnown, FieldsKnown, RequestRead}
use Rattle.request.specs.declared.read.LinePlaces.{LinePlaces}
use Rattle.request.specs.declared.read.FieldPlaces.{FieldPlaces}
use Rattle.octets.specs.Refusal.{number_of}
use Rattle.octets.specs.declared.refusal.Refusal.{Refusal}
use Rattle.http_head.specs.declared.fields.Field.{Field as Spans}
use Rattle.request.specs.declared.read.RequestPlaces.{RequestPlaces}

-- the request with the head has just the parts that stand at the places, in the head and in the list and the buffer as the code
-- left them; and code may go by the places
pub record RequestStands (head : List ℕ) (places : List Spans) (path : List ℕ) (l : LinePlaces) (f : FieldPlaces) : Type 0 where
  pub answer : gives (request_in head places path l f) ≡ request_of head
  pub line : LineKnown head path l
  pub fields : FieldsKnown head places f

-- what the numbers of an answer say of the request; a refusal is the request's own
pub record RequestsTold : Type 0 where
  pub accepts :
      (head : List ℕ) (places places' : List Spans) (path path' : List ℕ) (r : RequestPlaces)
      → RequestRead head places places' path path' (Ok r)
      → RequestStands head places' path' r.line r.fields
  pub refuses :
      (head : List ℕ) (places places' : List Spans) (path path' : List ℕ) (e : Refusal) → RequestRead head places places' path path' (Err e)
      → refused (number_of e) ≡ request_of head

-- an accepted request: its line, its target and its field lines are accepted each by its own rules, and the rules over all fields hold
pub record Obeys (head : List ℕ) (q : Request) : Type 0 where
  pub line : Reads (lines_of head).first q.first
  pub target : Target
  pub target_read : target_of q.first.target ≡ gives target
  pub target_obeys : Accepted q.first.target target
  pub path : q.path ≡ target.path
  pub fields_read : fields_of is_name (lines_of head).others ≡ gives q.fields
  pub fields_obey : All (Clean is_name) q.fields
  pub fields_few : length q.fields ≤ 64
  pub rules : rules_of q.first.version (lowered q.fields) ≡ gives q.body_length

abbrev pub RequestsObey : Type 0
RequestsObey = (head : List ℕ) (q : Request) → request_of head ≡ gives q → Obeys head q

-- no other number is given: "12; 13; 14; 15; 16; 17; 18"
abbrev pub request_numbers : List ℕ
request_numbers = 12 ∷ 13 ∷ 14 ∷ 15 ∷ 16 ∷ 17 ∷ 18 ∷ []

abbrev pub NumbersHold : Type 0
NumbersHold = (head : List ℕ) (n : ℕ) → request_of head ≡ refused n → one_of request_numbers n ≡ true
