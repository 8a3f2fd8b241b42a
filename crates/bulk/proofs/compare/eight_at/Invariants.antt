use mathlib.Core.Path.{◌≡◌}
use mathlib.Core.Bool.{◌&&◌}
use lib.ListN.{take, drop}
use Rattle.octets.specs.Compare.{same_bytes}
use Rattle.octets.proofs.Chunks.{left}
use Rattle.bulk.proofs.compare.eight_at.Given as goal

abbrev pub invariant-loop-k : goal.invariant-loop-k
invariant-loop-k l = same_bytes (take 8 (drop l.i l.s)) l.t ≡ l.ok && same_bytes (left l.s l.i 8 l.k) (drop l.k l.t)
