use mathlib.Core.Path.{sym, ◌∙◌}
use borrow.Author.Tests.{ne_eqb}
use Rattle.octets.proofs.Compares.{other_length}
use Rattle.octets.specs.Compare.{lower_of}
use Rattle.octets.proofs.compare.same_letters.Goals as goal

pub returns-else-a-b : goal.returns-else-a-b
returns-else-a-b c = ne_eqb _ _ c.if-a-b.false ∙ sym (other_length lower_of c.args.a.now c.args.b.now c.if-a-b.false)
