use mathlib.Core.Bool.{true}
use mathlib.Core.Path.{◌≡◌}
use Rattle.octets.specs.Lists.{different}
use Rattle.variables.specs.FieldVariables.{names_before}
use Rattle.variables.proofs.field_variables.names_repeat.Given as goal

abbrev pub invariant-loop-k : goal.invariant-loop-k
invariant-loop-k l = different (names_before l.fields.head.now l.fields.places.now l.k) ≡ true
