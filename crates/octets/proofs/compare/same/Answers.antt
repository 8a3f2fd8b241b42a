use mathlib.Core.Path.{sym, ◌∙◌}
use borrow.Author.Tests.{ne_eqb}
use Rattle.octets.proofs.Compares.{other-lengths}
use Rattle.octets.proofs.compare.same.Goals as goal

pub returns-else-a-b : goal.returns-else-a-b
returns-else-a-b c = ne_eqb _ _ c.if-a-b.false ∙ sym (other-lengths c.args.a.now c.args.b.now c.if-a-b.false)
