use mathlib.Core.Path.{◌≡◌}
use Rattle.octets.specs.Lists.{is_in}
use Rattle.variables.specs.FieldVariables.{low_name, names_before}
use Rattle.variables.proofs.field_variables.seen_before.Given as goal

abbrev pub invariant-loop-j : goal.invariant-loop-j
invariant-loop-j l =
    let head = l.fields.head.now in
    let fs = l.fields.places.now in
    let x = low_name head fs l.k in
    is_in x (names_before head fs l.k) ≡ is_in x (names_before head fs l.j)
