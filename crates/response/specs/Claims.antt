-- What is claimed of responses.
-- Assumes nothing.
use Rattle.std.specs.Prelude.{ℕ, suc, ◌+◌, ◌≤◌, ◌≡◌, Bool, true, cond, ◌||◌, List, [], ◌∷◌, eqb, length, take, drop, None, Some}
use Rattle.octets.specs.Text.{bytes}
use Rattle.octets.specs.Outcome.{Outcome, refused, gives, then}
use Rattle.octets.specs.Kinds.{one_of, within}
use Rattle.targets.specs.Target.{target_of}
use Rattle.response.specs.Head.{Value, Head, head_of}
use Rattle.response.specs.Location.{accepted}
use Rattle.response.specs.Table.{Script, serves, redirects, redirects_with_document, has_document, has_location, redirecting, table_of}
use Rattle.response.specs.Response.{named, first_value, is_there, response_of}
use Rattle.response.specs.declared.table.Answer.{Answer}
use Rattle.response.specs.declared.table.Action.{Action}
use Rattle.response.specs.declared.table.Action.TheVariants.{Serve, Redirect, RedirectDocument, Document}

abbrev pub how_many : List Bool → ℕ
how_many [] = 0
how_many (t ∷ ts) = cond t (suc (how_many ts)) (how_many ts)

-- how many rows of the table fit
abbrev pub rows_that_fit : Script → ℕ
rows_that_fit x = how_many (serves x ∷ redirects x ∷ redirects_with_document x ∷ has_document x ∷ [])

-- the row of an action
abbrev pub row_of : Action → Script → Bool
row_of Serve = serves
row_of Redirect = redirects
row_of RedirectDocument = redirects_with_document
row_of Document = has_document

-- the whole answer of a row: its action, its status, and the places of the Location and of the body as the output has them
abbrev pub row_answer : Script → Action → ℕ → Answer
row_answer x a t =
    record {
      action = a;
      status = t;
      location = record { start = x.location_start; len = x.location_length };
      body = record { start = x.body_start; len = x.body_length };
    }

-- the rows exclude each other, the row that fits gives the whole answer, and an answer is that of a row that fits
pub record TableHolds : Type 0 where
  pub exclude : (x : Script) → rows_that_fit x ≤ 1
  -- "serve that target", "0 for serving a target"
  pub serve : (x : Script) → serves x ≡ true → table_of x ≡ gives (row_answer x Serve 0)
  -- "redirect 302"
  pub redirect : (x : Script) → redirects x ≡ true → table_of x ≡ gives (row_answer x Redirect 302)
  -- "redirect with document", with the Status that the row asks for
  pub redirect_document :
      (x : Script) (n : ℕ) → redirects_with_document x ≡ true → x.status ≡ Some n → table_of x ≡ gives (row_answer x RedirectDocument n)
  -- "document, Status or 200"
  pub document_stated : (x : Script) (n : ℕ) → has_document x ≡ true → x.status ≡ Some n → table_of x ≡ gives (row_answer x Document n)
  pub document_200 : (x : Script) → has_document x ≡ true → x.status ≡ None → table_of x ≡ gives (row_answer x Document 200)
  -- "anything else | 25"
  pub else_25 : (x : Script) → rows_that_fit x ≡ 0 → table_of x ≡ refused 25
  pub row_fits : (x : Script) (a : Answer) → table_of x ≡ gives a → row_of a.action x ≡ true

-- with 24 and 25 the four actions cover every input: no other number is given
abbrev pub NumbersHold : Type 0
NumbersHold = (s : List ℕ) (n : ℕ) → response_of s ≡ refused n → one_of (24 ∷ 25 ∷ []) n ≡ true

-- "Then, or 25": where the head is right, no other number is given
abbrev pub ThenIs25 : Type 0
ThenIs25 = (s : List ℕ) (h : Head) (n : ℕ) → head_of s ≡ gives h → response_of s ≡ refused n → n ≡ 25

-- "0 for serving a target", "redirect 302", "Status 301, 302, 303, 307 or 308", "200 to 599"
abbrev pub status_fits : Action → ℕ → Bool
status_fits Serve n = eqb n 0
status_fits Redirect n = eqb n 302
status_fits RedirectDocument n = redirecting n
status_fits Document n = within 200 599 n

-- .. so a status is 0, or 200 to 599
pub record StatusHolds : Type 0 where
  pub fits : (s : List ℕ) (a : Answer) → response_of s ≡ gives a → status_fits a.action a.status ≡ true
  pub range : (s : List ℕ) (a : Answer) → response_of s ≡ gives a → eqb a.status 0 || within 200 599 a.status ≡ true

-- "document, Status or 200": without Status it is 200
abbrev pub DocumentIs200 : Type 0
DocumentIs200 =
    (s : List ℕ) (h : Head) (a : Answer) → head_of s ≡ gives h → named (bytes "status") h.fields ≡ [] → response_of s ≡ gives a
    → a.action ≡ Document → a.status ≡ 200

-- the bytes of the output at the place of the Location
abbrev pub location_in : List ℕ → Answer → List ℕ
location_in s a = take a.location.len (drop a.location.start s)

-- "serve that target": it obeys the target rules
abbrev pub ServedIsTarget : Type 0
ServedIsTarget = (s : List ℕ) (a : Answer) → response_of s ≡ gives a → a.action ≡ Serve → accepted (target_of (location_in s a)) ≡ true

-- an action tells whether the head has a Location
abbrev pub ActionTellsLocation : Type 0
ActionTellsLocation =
    (s : List ℕ) (h : Head) (a : Answer) → head_of s ≡ gives h → response_of s ≡ gives a
    → is_there (first_value (named (bytes "location") h.fields)) ≡ has_location a.action

-- "start and length of the Location value": its bytes stand there
abbrev pub LocationStands : Type 0
LocationStands =
    (s : List ℕ) (h : Head) (v : Value) (a : Answer) → head_of s ≡ gives h → first_value (named (bytes "location") h.fields) ≡ Some v
    → response_of s ≡ gives a → location_in s a ≡ v.bytes

-- .. "and of the body": the places lie within the output, and the body is the rest of it
pub record Within (s : List ℕ) (a : Answer) : Type 0 where
  pub location : a.location.start + a.location.len ≤ length s
  pub body : a.body.start + a.body.len ≡ length s

abbrev pub PlacesWithin : Type 0
PlacesWithin = (s : List ℕ) (a : Answer) → response_of s ≡ gives a → Within s a

-- all that an answer says but the length of the body
pub record Settled : Type 0 where
  pub action : Action
  pub status : ℕ
  pub location_start : ℕ
  pub location_length : ℕ
  pub body_start : ℕ

abbrev pub settled : Outcome Answer → Outcome Settled
settled o =
    then o
    (λ a.
    gives
    (record {
      action = a.action;
      status = a.status;
      location_start = a.location.start;
      location_length = a.location.len;
      body_start = a.body.start;
    }))

-- "The input is the script's whole output", and yet its first 8,193 bytes settle the refusal, the action, the status, the Location and
-- where the body starts, so that a server need not hold a whole document. The head lies in the first 8,192; "no body" needs one byte more,
-- for a body that starts behind them.
abbrev pub settling : ℕ
settling = 8193

abbrev pub StreamSettles : Type 0
StreamSettles = (s t : List ℕ) → take settling s ≡ take settling t → settled (response_of s) ≡ settled (response_of t)
