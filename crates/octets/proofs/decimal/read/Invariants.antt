use mathlib.Core.Path.{◌≡◌}
use Prim.Native.Nat.{◌≤◌, ◌<◌}
use lib.ListN.{length, drop}
use Rattle.octets.proofs.Decimals.{ten_to}
use Rattle.octets.specs.Decimal.{number_from, number_of}
use Rattle.octets.proofs.decimal.read.Given as goal

-- the bytes so far are the digits of v
abbrev pub invariant-loop-b : goal.invariant-loop-b
invariant-loop-b l = (length l.s ≤ 10) × (l.v < ten_to l.b-index) × (number_of l.s ≡ number_from l.v (drop l.b-index l.s))
