use Prim.Native.Nat.{◌-◌}
use lib.ListN.{length}
use Rattle.http_head.specs.Head.{Passed}
use Rattle.http_head.proofs.head.leap.Given as goal

abbrev pub invariant-loop-i : goal.invariant-loop-i
invariant-loop-i l = Passed l.s 0 l.i

abbrev pub decreases-loop-i : goal.decreases-loop-i
decreases-loop-i l = length l.s - l.i
