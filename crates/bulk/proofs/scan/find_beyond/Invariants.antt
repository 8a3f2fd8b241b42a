use mathlib.Core.Path.{◌≡◌}
use Prim.Native.Nat.{◌+◌, ◌≤◌}
use lib.ListN.{length, drop}
use Rattle.octets.specs.Scan.{run, other}
use Rattle.bulk.proofs.scan.find_beyond.Given as goal

abbrev pub invariant-loop : goal.invariant-loop
invariant-loop l = (l.i ≤ length l.s) × (l.from + run (other l.b) (drop l.from l.s) ≡ l.i + run (other l.b) (drop l.i l.s))
