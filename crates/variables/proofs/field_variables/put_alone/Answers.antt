use mathlib.Core.List.{[], ◌∷◌, ◌++◌}
use Rattle.variables.specs.Variables.{http_name}
use Rattle.variables.specs.FieldVariables.{low_name}
use Rattle.variables.specs.Writer.{Appended}
use Rattle.variables.proofs.Writers.{and_then, room-left}
use Rattle.variables.proofs.field_variables.put_alone.Goals as goal
use Rattle.variables.proofs.field_variables.put_alone.Goals.{After-put_http_name}

-- the name and its NUL
named :
    (c : After-put_http_name)
    → (let f = c.args.fields in
    Appended c.args.w.now c.put_http_name.new.w (http_name (low_name f.head.now f.places.now c.args.k) ++ 0 ∷ []))
named c = rw c.name.ensures.0 at c.put_http_name.ensures

pub value-requires-2 : goal.value-requires-2
value-requires-2 c = rw c.value.ensures.0 (room-left _ _ c.requires.1 (named (goal.at.value-requires-2 c).After-put_http_name))

pub returns : goal.returns
returns c = and_then _ _ (named (goal.at.returns c).After-put_http_name) (rw c.value.ensures.0 at c.value-2.ensures)
