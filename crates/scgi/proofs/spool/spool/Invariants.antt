use mathlib.Core.Path.{◌≡◌}
use Prim.Native.Nat.{◌-◌, ◌≤◌}
use lib.ListN.{length}
use Rattle.scgi.proofs.SpoolWalks.{Standing}
use Rattle.scgi.proofs.spool.spool.Given as goal

abbrev pub invariant-loop-next : goal.invariant-loop-next
invariant-loop-next l = (l.next ≤ length l.bytes) × (length l.lengths ≡ length l.initial.lengths) × Standing l.bytes l.initial.lengths l.next l.count l.lengths

abbrev pub decreases-loop-next : goal.decreases-loop-next
decreases-loop-next l = length l.bytes - l.next
