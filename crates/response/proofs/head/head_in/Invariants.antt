use Prim.Native.Nat.{◌-◌}
use lib.ListN.{length}
use Rattle.response.proofs.Heads.{Standing}
use Rattle.response.proofs.head.head_in.Given as goal

abbrev pub invariant-loop-at : goal.invariant-loop-at
invariant-loop-at l = Standing l.t l.n l.seen l.at

abbrev pub decreases-loop-at : goal.decreases-loop-at
decreases-loop-at l = length l.t - l.at
