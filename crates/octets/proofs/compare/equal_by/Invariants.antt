use mathlib.Core.List.{map}
use mathlib.Core.Path.{◌≡◌}
use mathlib.Core.Bool.{true}
use Prim.Native.Nat.{ℕ}
use lib.ListN.{drop}
use Rattle.octets.specs.Compare.{same_bytes, Gives}
use Rattle.octets.proofs.compare.equal_by.Given as goal

-- the bytes from i on are equal
abbrev pub invariant-loop-i : goal.invariant-loop-i
invariant-loop-i g l = (f : ℕ → ℕ) → Gives (goal.F-post g l.key) f → same_bytes (map f (drop l.i l.a)) (map f (drop l.i l.b)) ≡ true
