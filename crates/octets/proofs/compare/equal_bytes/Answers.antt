use mathlib.Core.Path.{sym, ◌∙◌}
use borrow.Author.Rules.{rules}
use Rattle.octets.proofs.Compares.{exactly}
use Rattle.octets.proofs.compare.equal_bytes.Goals as goal

pub returns : goal.returns
returns c = c.equal_by.ensures (λ x. x) (λ b r h e. search rules) ∙ sym (exactly c.args.a.now c.args.b.now)
