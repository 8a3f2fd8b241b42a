use mathlib.Core.Path.{sym, ◌∙◌}
use Rattle.response.proofs.Tables.{not-stated, other-status, redirect-status}
use Rattle.response.proofs.table.redirect_document.Goals as goal

pub returns-in_default : goal.returns-in_default
returns-in_default c = λ n. sym (not-stated c.args.location c.args.body n _ c.in_default.is)

pub returns-then-not-is_redirecting : goal.returns-then-not-is_redirecting
returns-then-not-is_redirecting c =
    λ n. sym (other-status c.args.location c.args.body n _ _ c.in-Some.is (sym c.is_redirecting.ensures ∙ c.if-not-is_redirecting.true))

pub returns : goal.returns
returns c =
    λ n. sym (redirect-status c.args.location c.args.body n _ _ c.in-Some.is (sym c.is_redirecting.ensures ∙ c.if-not-is_redirecting.false))
