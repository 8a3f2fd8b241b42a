use mathlib.Core.Path.{◌≡◌}
use Prim.Native.Nat.{◌+◌, ◌≤◌}
use lib.ListN.{length, take, drop}
use Rattle.octets.specs.Trim.{kept}
use Rattle.octets.proofs.trim.kept_len.Given as goal

abbrev pub invariant-loop-n : goal.invariant-loop-n
invariant-loop-n l = (l.from + l.n ≤ length l.s) × (kept (drop l.from l.s) ≡ kept (take l.n (drop l.from l.s)))

abbrev pub decreases-loop-n : goal.decreases-loop-n
decreases-loop-n l = l.n
