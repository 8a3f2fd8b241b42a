use mathlib.Core.Path.{refl}
use Rattle.octets.proofs.Copies.{written}
use Rattle.octets.proofs.copy.put.Goals as goal

pub returns : goal.returns
returns c = record { ends = refl; holds = rw c.copy_from_slice.ensures.after (written _ _ _) }
