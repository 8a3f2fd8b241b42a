use native.Mathlib.Omega.{arith}
use borrow.Author.Rules.{rules}
use Rattle.octets.proofs.KindTable.{kind_at, number-some}
use Rattle.octets.proofs.kinds.is_kind.Goals as goal

pub nonzero_div-result : goal.nonzero_div-result
nonzero_div-result c = omega (arith, c.number.ensures, number-some c.args.kind)

pub returns : goal.returns
returns c = rw (c.number.ensures, c.kinds_of.ensures) (kind_at c.args.kind c.args.b (search rules))
