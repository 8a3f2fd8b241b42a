use Rattle.variables.specs.FieldVariables.{variable_if}
use Rattle.variables.proofs.Writers.{left-all, left-room, left-more, left-none}
use Rattle.variables.proofs.FieldVariables.{variables-start, variables-next, variables-end}
use Rattle.variables.proofs.field_variables.put_fields.Goals as goal

pub loop-k-init : goal.loop-k-init
loop-k-init c = rw (← variables-start _ _) (left-all _ _ c.requires.1)

pub put_new-requires : goal.put_new-requires
put_new-requires c =
    let f = c.args.fields in
    let t = c.loop-k-test.true in
    (t, c.requires.0, left-room (variable_if f.head.now f.places.now c.loop-k.k) _ (variables-next _ _ _ t) c.loop-k.invariant)

pub loop-k-preserved : goal.loop-k-preserved
loop-k-preserved c = left-more _ (variables-next _ _ _ c.loop-k-test.true) c.loop-k.invariant c.put_new.ensures

pub returns : goal.returns
returns c = left-none (variables-end _ _ _ c.loop-k-test.false) c.loop-k.invariant
