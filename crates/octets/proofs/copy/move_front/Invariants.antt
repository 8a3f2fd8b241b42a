use mathlib.Core.Path.{◌≡◌}
use Prim.Native.Nat.{◌+◌, ◌≤◌}
use lib.ListN.{length, take, drop}
use Rattle.octets.specs.Copy.{over}
use Rattle.octets.proofs.copy.move_front.Given as goal

-- the first i bytes are moved
abbrev pub invariant-loop-i : goal.invariant-loop-i
invariant-loop-i l = (l.from + l.n ≤ length l.initial.buf) × (l.buf ≡ over l.initial.buf 0 (take l.i (drop l.from l.initial.buf)))
