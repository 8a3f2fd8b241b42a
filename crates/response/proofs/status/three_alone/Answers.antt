use mathlib.Core.Path.{sym, ◌∙◌}
use borrow.Author.Tests.{eq-eqb, le-ltb}
use Rattle.response.proofs.Statuses.{too_short, more_bytes}
use native.Mathlib.Omega.{arith}
use Rattle.response.specs.Status.{three_alone}
use Rattle.response.proofs.status.three_alone.Goals as goal

pub returns-then-v-eq3 : goal.returns-then-v-eq3
unfolding three_alone
returns-then-v-eq3 c = rw (eq-eqb _ _ c.if-v-eq3.true)

pub returns-then-v-gt3 : goal.returns-then-v-gt3
returns-then-v-gt3 c = sym (more_bytes c.args.v.now c.if-v-eq3.false)

pub returns-else-v-gt3 : goal.returns-else-v-gt3
returns-else-v-gt3 c = le-ltb _ _ c.if-v-gt3.false ∙ sym (too_short c.args.v.now (omega arith))
