use mathlib.Core.Path.{sym, ◌∙◌}
use Rattle.response.proofs.Tables.{stated, some-body, redirected}
use Rattle.response.proofs.table.redirect.Goals as goal
use Rattle.response.proofs.table.redirect.Goals.{then-is_some-via-then-is_some, then-is_some-via-else-is_some+then-body-ne0}

pub returns-then-is_some : goal.returns-then-is_some
returns-then-is_some c =
    λ n.
    rw c.if-typed.false
    (elim c.then-is_some.branch [
      | then-is_some-via-then-is_some w ↦ sym (stated c.args.location c.args.body n _ (sym c.is_some.ensures ∙ w.if-is_some.true))
      | then-is_some-via-else-is_some+then-body-ne0 w ↦ sym (some-body c.args.location c.args.body n c.args.code w.if-body-ne0.true)
    ])

pub returns : goal.returns
returns c =
    λ n.
    rw c.if-typed.false
    (sym (redirected c.args.location c.args.body n _ (sym c.is_some.ensures ∙ c.if-is_some.false) c.if-body-ne0.false))
