use mathlib.Core.Path.{◌≡◌}
use mathlib.Core.Bool.{Bool}
use Prim.Native.Nat.{ℕ, ◌+◌, ◌-◌, ◌≤◌}
use lib.ListN.{length, drop}
use Rattle.octets.specs.Scan.{run, Tests}
use Rattle.octets.proofs.scan.end_of.Given as goal

abbrev pub invariant-loop-i : goal.invariant-loop-i
invariant-loop-i g l =
    (l.i ≤ length l.s) × ((p : ℕ → Bool) → Tests (goal.F-post g l.passes) p → l.from + run p (drop l.from l.s) ≡ l.i + run p (drop l.i l.s))

abbrev pub decreases-loop-i : goal.decreases-loop-i
decreases-loop-i g l = length l.s - l.i

abbrev pub invariant-loop-k : goal.invariant-loop-k
invariant-loop-k g l =
    (p : ℕ → Bool) → Tests (goal.F-post g l.passes) p → l.from + run p (drop l.from l.s) ≡ l.i + l.k + run p (drop (l.i + l.k) l.s)

abbrev pub invariant-loop-k-2 : goal.invariant-loop-k-2
invariant-loop-k-2 g l =
    (p : ℕ → Bool) → Tests (goal.F-post g l.passes) p → l.from + run p (drop l.from l.s) ≡ l.k + run p (drop l.k l.s)
