-- The numbers of oy_response.
-- Assumes nothing.
use Rattle.std.specs.Prelude.{ℕ, cond, List, [], ◌∷◌, eqb}
use Rattle.octets.specs.Outcome.{Outcome, refused, gives, then}
use Rattle.response.specs.declared.table.Answer.{Answer}
use Rattle.response.specs.declared.table.Action.{Action}
use Rattle.response.specs.declared.table.Action.TheVariants.{Serve, Redirect, RedirectDocument, Document}
use Rattle.editions.specs.Edition.{response_by}
use Rattle.editions.specs.declared.edition.Edition.{Edition}
use Rattle.editions.specs.declared.edition.Edition.TheVariants.{Rfc, Draft}

-- the editions in their order: RFC 3875, the draft of 1996. Another number names none: 20, "settings .. wrong"
abbrev pub edition_of : ℕ → Outcome Edition
edition_of n = cond (eqb n 0) (gives Rfc) (cond (eqb n 1) (gives Draft) (refused 20))

-- the rows of the table in their order: "serve that target", "redirect 302", "redirect with document", "document"
abbrev pub action_number : Action → ℕ
action_number Serve = 1
action_number Redirect = 2
action_number RedirectDocument = 3
action_number Document = 4

-- "The answer is the action, its status .., and start and length of the Location value and of the body"
abbrev pub answer_numbers : Answer → List ℕ
answer_numbers a =
    action_number a.action ∷ a.status ∷ a.location.start ∷ a.location.len ∷ a.body.start ∷ a.body.len ∷ []

-- "The response reader is now told the edition and the method": the edition's number is read before anything else
abbrev pub response_for : ℕ → List ℕ → List ℕ → Outcome Answer
response_for edition method script = then (edition_of edition) (λ e. response_by e method script)

abbrev pub response_gives : ℕ → List ℕ → List ℕ → Outcome (List ℕ)
response_gives edition method script = then (response_for edition method script) (λ a. gives (answer_numbers a))
