use Rattle.variables.specs.Fields.{added_by}
use Rattle.variables.specs.FieldVariables.{low_name, low_from, added_after}
use Rattle.variables.proofs.Writers.{Left}
use Rattle.variables.proofs.field_variables.put_later.Given as goal

abbrev pub invariant-loop-j : goal.invariant-loop-j
invariant-loop-j l =
    let head = l.fields.head.now in
    let fs = l.fields.places.now in
    Left l.initial.w (added_after head fs l.k) l.w (added_by (low_from head fs l.j) (low_name head fs l.k))
