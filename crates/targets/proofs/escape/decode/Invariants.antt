use mathlib.Core.Path.{◌≡◌}
use mathlib.Core.Bool.{true}
use Prim.Native.Nat.{◌+◌, ◌-◌, ◌≤◌}
use lib.ListN.{length, drop}
use Rattle.octets.specs.Copy.{over}
use Rattle.targets.specs.Escape.{escapes_right, decoded}
use Rattle.targets.proofs.escape.decode.Given as goal

abbrev pub invariant-loop-i : goal.invariant-loop-i
invariant-loop-i l =
    (l.i ≤ length l.s)
    × (l.n ≤ l.i)
    × (length l.out ≡ length l.initial.out)
    × (escapes_right (drop l.i l.s) ≡ true)
    × (l.n + length (decoded (drop l.i l.s)) ≡ length (decoded l.s))
    × (over l.initial.out 0 (decoded l.s) ≡ over l.out l.n (decoded (drop l.i l.s)))

abbrev pub decreases-loop-i : goal.decreases-loop-i
decreases-loop-i l = length l.s - l.i
