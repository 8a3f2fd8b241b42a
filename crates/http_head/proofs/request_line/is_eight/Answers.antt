use mathlib.Core.Path.{sym, ◌∙◌}
use borrow.Author.Tests.{ne_eqb}
use Rattle.octets.proofs.Compares.{other-lengths}
use Rattle.http_head.proofs.request_line.is_eight.Goals as goal

pub returns-else-s-eq8 : goal.returns-else-s-eq8
returns-else-s-eq8 c =
    let a = c.args in
    ne_eqb _ _ c.if-s-eq8.false ∙ sym (other-lengths a.s.now a.t.now (λ e. c.if-s-eq8.false (e ∙ c.told-t)))
