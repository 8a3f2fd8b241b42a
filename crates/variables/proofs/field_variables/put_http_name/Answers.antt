use mathlib.Core.Path.{refl}
use mathlib.Core.List.{[], ◌∷◌, ◌++◌, map}
use native.Mathlib.Omega.{arith}
use lib.ListN.{length-append, length-map}
use Rattle.octets.specs.Text.{bytes}
use Rattle.octets.specs.Compare.{lower_of}
use Rattle.variables.specs.Variables.{variable_byte}
use Rattle.variables.specs.Writer.{Fits}
use Rattle.variables.proofs.Writers.{and_then, room-left}
use Rattle.variables.proofs.field_variables.put_http_name.Goals as goal

pub put_name-w-requires : goal.put_name-w-requires
put_name-w-requires c = room-left (bytes "HTTP_") c.args.name.now (omega (arith, c.requires)) c.text.ensures

pub text-requires-2 : goal.text-requires-2
text-requires-2 c =
    let room : Fits c.text.new.self (c.args.name.now ++ 0 ∷ []) = room-left (bytes "HTTP_") (c.args.name.now ++ 0 ∷ []) (omega (arith, c.requires, length-append c.args.name.now (0 ∷ []))) c.text.ensures in
    omega (arith, room, length-append c.args.name.now (0 ∷ []), simp length-map at c.put_name-w.ensures.ends)

pub returns : goal.returns
returns c =
    let name = map variable_byte (map lower_of c.args.name.now) in
    and_then (bytes "HTTP_") (name ++ 0 ∷ []) c.text.ensures
    (and_then name (0 ∷ []) (record { same_buffer = refl; room = simp length-map (room-left (bytes "HTTP_") c.args.name.now (omega (arith, c.requires)) c.text.ensures); wrote = c.put_name-w.ensures }) c.text-2.ensures)
