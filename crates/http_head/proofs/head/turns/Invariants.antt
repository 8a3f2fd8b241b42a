use mathlib.Core.Path.{◌≡◌}
use mathlib.Core.Bool.{false}
use Prim.Native.Nat.{◌+◌}
use Rattle.http_head.specs.Head.{Passed}
use Rattle.http_head.proofs.head.turns.Given as goal

abbrev pub invariant-loop-k : goal.invariant-loop-k
invariant-loop-k l = l.hit ≡ false → Passed l.s l.i (l.i + l.k)
