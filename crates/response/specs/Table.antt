-- The table of actions.
-- Assumes nothing.
use Rattle.std.specs.Prelude.{ℕ, ◌-◌, Bool, true, false, cond, not, ◌&&◌, List, [], ◌∷◌, eqb, length, Option, None, Some, Result}
use Rattle.octets.specs.Outcome.{Outcome, refused, gives}
use Rattle.octets.specs.Kinds.{one_of}
use Rattle.octets.specs.Refusal.{outcome}
use Rattle.octets.specs.declared.refusal.Refusal.{Refusal}
use Rattle.response.specs.Head.{Value}
use Rattle.response.specs.Location.{is_local}
use Rattle.response.specs.declared.table.Action.{Action}
use Rattle.response.specs.declared.table.Action.TheVariants.{Serve, Redirect, RedirectDocument, Document}
use Rattle.response.specs.declared.table.Answer.{Answer}

-- "The answer is the action, its status (0 for serving a target), and start and length of the Location value and of the body, the first two
-- 0 where there is no Location.": what the code's answer says
abbrev pub response_outcome : Result Answer Refusal → Outcome Answer
response_outcome = outcome (λ a. a)

-- where the Location leads: "no Location", "local Location", "other Location"
pub data Goes : Type 0 where
  nowhere : Goes
  local : Goes
  elsewhere : Goes

-- what the table looks at, and the places for the answer; typed: there is a Content-Type
pub record Script : Type 0 where
  pub goes : Goes
  pub location_start : ℕ
  pub location_length : ℕ
  pub status : Option ℕ
  pub typed : Bool
  pub fields : ℕ
  pub body_start : ℕ
  pub body_length : ℕ

abbrev pub script : Goes → ℕ → ℕ → Option ℕ → Bool → ℕ → ℕ → ℕ → Script
script goes start len status typed n body rest =
    record {
      goes = goes;
      location_start = start;
      location_length = len;
      status = status;
      typed = typed;
      fields = n;
      body_start = body;
      body_length = rest;
    }

abbrev pub no_location : Goes → Bool
no_location nowhere = true
no_location local = false
no_location elsewhere = false

abbrev pub local_location : Goes → Bool
local_location nowhere = false
local_location local = true
local_location elsewhere = false

abbrev pub other_location : Goes → Bool
other_location nowhere = false
other_location local = false
other_location elsewhere = true

abbrev pub no_status : Option ℕ → Bool
no_status None = true
no_status (Some n) = false

-- "301, 302, 303, 307 or 308"
unfoldable pub redirecting : ℕ → Bool
redirecting n = one_of (301 ∷ 302 ∷ 303 ∷ 307 ∷ 308 ∷ []) n

abbrev pub status_redirecting : Option ℕ → Bool
status_redirecting None = false
status_redirecting (Some n) = redirecting n

abbrev pub no_body : Script → Bool
no_body x = eqb x.body_length 0

-- The rows.

-- "local Location, no other field, no body": it is the only field
abbrev pub serves : Script → Bool
serves x = local_location x.goes && eqb x.fields 1 && no_body x

-- "other Location, no Status, no Content-Type, no body"
abbrev pub redirects : Script → Bool
redirects x = other_location x.goes && no_status x.status && not x.typed && no_body x

-- "other Location, Status 301, 302, 303, 307 or 308, Content-Type"
abbrev pub redirects_with_document : Script → Bool
redirects_with_document x = other_location x.goes && x.typed && status_redirecting x.status

-- "no Location, Content-Type"
abbrev pub has_document : Script → Bool
has_document x = no_location x.goes && x.typed

-- which actions have a Location: "no Location" stands in the row of a document alone
abbrev pub has_location : Action → Bool
has_location Serve = true
has_location Redirect = true
has_location RedirectDocument = true
has_location Document = false

-- "Status or" another
abbrev pub status_or : ℕ → Option ℕ → ℕ
status_or n None = n
status_or n (Some m) = m

abbrev pub answer_with : Script → Action → ℕ → Outcome Answer
answer_with x a t =
    gives
    (record {
      action = a;
      status = t;
      location = record { start = x.location_start; len = x.location_length };
      body = record { start = x.body_start; len = x.body_length };
    })

-- "serve that target", with "0 for serving a target", "redirect 302", "redirect with document", with its Status, "document, Status or 200"
abbrev pub status_for : Action → Script → ℕ
status_for Serve x = 0
status_for Redirect x = 302
status_for RedirectDocument x = status_or 0 x.status
status_for Document x = status_or 200 x.status

abbrev pub answer_for : Script → Action → Outcome Answer
answer_for x a = answer_with x a (status_for a x)

-- .. and "anything else | 25"
unfoldable pub table_of : Script → Outcome Answer
table_of x =
    cond (serves x) (answer_for x Serve)
    (cond (redirects x) (answer_for x Redirect)
    (cond (redirects_with_document x) (answer_for x RedirectDocument) (cond (has_document x) (answer_for x Document) (refused 25))))

abbrev pub goes_to : Option Value → Goes
goes_to None = nowhere
goes_to (Some v) = cond (is_local v.bytes) local elsewhere

abbrev pub start_or0 : Option Value → ℕ
start_or0 None = 0
start_or0 (Some v) = v.start

abbrev pub length_or0 : Option Value → ℕ
length_or0 None = 0
length_or0 (Some v) = length v.bytes

-- of an output s whose head has n fields and ends at a place, with its Location and its status
abbrev pub script_of : List ℕ → ℕ → ℕ → Bool → Option Value → Option ℕ → Script
script_of s ends n typed location status =
    script (goes_to location) (start_or0 location) (length_or0 location) status typed n ends (length s - ends)
