use Rattle.variables.specs.FieldVariables.{fields_bytes}
use Rattle.variables.proofs.Writers.{Left}
use Rattle.variables.proofs.FieldVariables.{variables_from}
use Rattle.variables.proofs.field_variables.put_fields.Given as goal

abbrev pub invariant-loop-k : goal.invariant-loop-k
invariant-loop-k l =
    let head = l.fields.head.now in
    let fs = l.fields.places.now in
    Left l.initial.w (fields_bytes head fs) l.w (variables_from head fs l.k)
