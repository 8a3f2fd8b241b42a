use Prim.Native.Nat.{◌+◌}
use mathlib.Core.Path.{◌≡◌}
use lib.ListN.{length, drop}
use Rattle.octets.specs.Copy.{over}
use Rattle.variables.proofs.FieldVariables.{in_name}
use Rattle.variables.proofs.field_variables.put_name.Given as goal

abbrev pub invariant-loop-i : goal.invariant-loop-i
invariant-loop-i l = (length l.out ≡ length l.initial.out) × (over l.out (l.at + l.i) (in_name (drop l.i l.name)) ≡ over l.initial.out l.at (in_name l.name))
