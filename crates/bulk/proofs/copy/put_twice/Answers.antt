use Prim.Native.Nat.{◌-◌}
use native.Mathlib.Omega.{arith}
use lib.ListN.{length}
use Rattle.octets.proofs.Copies.{and_again}
use Rattle.octets.proofs.Lists.{from}
use Rattle.bulk.proofs.copy.put_twice.Goals as goal

pub returns : goal.returns
returns g c =
    let s = c.args.src.now in
    let last = length s - g.row.N in
    and_again last g.row.N c.put_at_once.ensures (omega arith) c.requires.0 c.requires.1 _ _ (rw (from s last) at c.put_at_once-2.ensures)
