use mathlib.Core.Path.{sym}
use Rattle.response.proofs.FieldPlaces.{Told, told, seen-line}
use native.Mathlib.Omega.{arith}
use Rattle.response.proofs.fields.line_step.Goals as goal
use Rattle.response.proofs.fields.line_step.Goals.{In_ok-field}

-- the field of the line
field : (c : In_ok-field) → Told c.args.line.now c.in_ok-field.field
field c = told _ _ (c.in_ok-field.ensures {u = tt})

pub overflow_add-value : goal.overflow_add-value
overflow_add-value c =
    let f = field (goal.at.overflow_add-value c).In_ok-field in
    omega (arith, f.name_inside, f.value_inside, c.requires)

pub of-requires : goal.of-requires
of-requires c = (field (goal.at.of-requires c).In_ok-field).name_inside

pub returns : goal.returns
returns c = seen-line (field (goal.at.returns c).In_ok-field) _ _ _ (rw (sym c.of.ensures.0) c.see.ensures)
