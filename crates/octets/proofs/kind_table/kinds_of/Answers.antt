use mathlib.Core.Path.{refl}
use Rattle.octets.specs.KindTable.{table}
use Rattle.octets.proofs.kind_table.kinds_of.Goals as goal

pub returns : goal.returns
unfolding table
returns c = refl
