use Rattle.variables.specs.Fields.{separator}
use Rattle.variables.specs.FieldVariables.{low_name, added_at}
use Rattle.variables.specs.Writer.{Appended}
use Rattle.variables.proofs.Writers.{left-all, left-room, left-more, left-none}
use Rattle.variables.proofs.FieldVariables.{added_next, added-end}
use Rattle.variables.proofs.field_variables.put_later.Goals as goal

pub loop-j-init : goal.loop-j-init
loop-j-init c = left-all _ _ c.requires.1

pub put_added-requires : goal.put_added-requires
put_added-requires c =
    let f = c.args.fields in
    let x = low_name f.head.now f.places.now c.args.k in
    let t = c.loop-j-test.true in
    let room = left-room (added_at f.head.now f.places.now x (separator x) c.loop-j.j) _ (added_next _ _ _ _ t) c.loop-j.invariant in
    (t, rw (c.separator-between.ensures, c.name-name.ensures.0) room)

pub loop-j-preserved : goal.loop-j-preserved
loop-j-preserved c =
    let f = c.args.fields in
    let x = low_name f.head.now f.places.now c.args.k in
    let added : Appended c.loop-j.w c.put_added.new.w (added_at f.head.now f.places.now x (separator x) c.loop-j.j) =
    rw (c.separator-between.ensures, c.name-name.ensures.0) at c.put_added.ensures in
    left-more _ (added_next _ _ _ _ c.loop-j-test.true) c.loop-j.invariant added

pub returns : goal.returns
returns c = left-none (added-end _ _ _ _ c.loop-j-test.false) c.loop-j.invariant
