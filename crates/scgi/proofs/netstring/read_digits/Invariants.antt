use mathlib.Core.Path.{◌≡◌}
use Prim.Native.Nat.{◌+◌, ◌≤◌}
use lib.ListN.{drop}
use Rattle.scgi.specs.Digits.{digits_from}
use Rattle.scgi.proofs.netstring.read_digits.Given as goal

abbrev pub invariant-loop-b : goal.invariant-loop-b
invariant-loop-b l = (l.n ≤ l.v + 1) × (l.v ≤ 16384) × (digits_from l.count l.value l.s ≡ digits_from l.n l.v (drop l.b-index l.s))
