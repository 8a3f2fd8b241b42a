use mathlib.Core.Path.{◌≡◌}
use Prim.Native.Nat.{◌+◌, ◌<◌}
use lib.ListN.{length}
use Rattle.octets.specs.Copy.{over}
use Rattle.octets.specs.Decimal.{decimal}
use Rattle.octets.proofs.decimal.write.Given as goal

abbrev pub invariant-loop-m : goal.invariant-loop-m
invariant-loop-m l = (l.i + 1 ≡ l.at + length (decimal l.m)) × (l.i < length l.out) × (length l.out ≡ length l.initial.out) × (over l.initial.out l.at (decimal l.n) ≡ over l.out l.at (decimal l.m))

abbrev pub decreases-loop-m : goal.decreases-loop-m
decreases-loop-m l = l.m
