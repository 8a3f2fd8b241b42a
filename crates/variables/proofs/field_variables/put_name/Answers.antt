use Prim.Native.Nat.{◌+◌, ◌<◌}
use mathlib.Core.Path.{◌≡◌, refl, ◌∙◌}
use native.Mathlib.Nat.{add-zero}
use native.Mathlib.Omega.{arith}
use lib.ListN.{length, length-set}
use Rattle.variables.proofs.FieldVariables.{name-next, name_done}
use Rattle.variables.proofs.field_variables.put_name.Goals as goal

pub loop-i-init : goal.loop-i-init
loop-i-init c = (refl, rw (add-zero _))

pub loop-i-preserved : goal.loop-i-preserved
loop-i-preserved c =
    let room : c.args.at + c.loop-i.i < length c.loop-i.out = omega (arith, c.requires) in
    (simp length-set c.loop-i.invariant.0, name-next _ _ _ _ _ c.loop-i-test.true room c.variable_byte.ensures ∙ c.loop-i.invariant.1)

pub returns : goal.returns
returns c =
    let e : c.loop-i.i ≡ length c.args.name.now = omega arith in
    rw e at (name_done _ _ _ _ _ e c.loop-i.invariant.1)
