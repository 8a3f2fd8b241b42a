use borrow.Author.Rules.{rules}
use Rattle.request.proofs.RequestSteps.{no_line, no_fields, request-read}
use Rattle.request.proofs.read.read_request.Goals as goal

pub returns-in_err-line : goal.returns-in_err-line
returns-in_err-line c =
    let a = c.args in
    let r = no_line a.head.now a.places.now a.places.now a.path.now _ _ (c.in_err-line.ensures {u = tt}) in
    search rules

pub returns-in_err-fields : goal.returns-in_err-fields
returns-in_err-fields c =
    let a = c.args in
    let r = no_fields a.head.now a.places.now _ a.path.now _ _ (c.in_ok-line.ensures {u = tt}) _ (c.in_err-fields.ensures {u = tt}) in
    search rules

pub returns : goal.returns
returns c = request-read _ _ _ _ _ _ (c.in_ok-line.ensures {u = tt}) _ (c.in_ok-fields.ensures {u = tt})
