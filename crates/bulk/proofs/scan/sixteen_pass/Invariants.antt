use mathlib.Core.Path.{◌≡◌}
use mathlib.Core.Bool.{Bool, ◌&&◌}
use Prim.Native.Nat.{ℕ}
use lib.ListN.{take, drop}
use Rattle.octets.specs.Scan.{all_of, Tests}
use Rattle.octets.proofs.Chunks.{left}
use Rattle.bulk.proofs.scan.sixteen_pass.Given as goal

abbrev pub invariant-loop-k : goal.invariant-loop-k
invariant-loop-k g l = (p : ℕ → Bool) → Tests (goal.F-post g l.passes) p → all_of p (take 16 (drop l.i l.s)) ≡ l.good && all_of p (left l.s l.i 16 l.k)
