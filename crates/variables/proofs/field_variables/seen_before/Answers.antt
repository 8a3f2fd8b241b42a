use Prim.Native.Nat.{◌-◌}
use mathlib.Core.Path.{◌≡◌, refl, sym, ◌∙◌}
use native.Mathlib.Omega.{arith}
use Rattle.octets.specs.Compare.{same_bytes}
use Rattle.octets.proofs.Compares.{same-turned}
use Rattle.variables.specs.FieldVariables.{low_name}
use Rattle.variables.proofs.FieldVariables.{seen_none, seen_down}
use Rattle.variables.proofs.field_variables.seen_before.Goals as goal
use Rattle.variables.proofs.field_variables.seen_before.Goals.{After-has_name}

-- what the comparison says of the two names
seen :
    (c : After-has_name)
    → (let f = c.args.fields in
    same_bytes (low_name f.head.now f.places.now c.args.k) (low_name f.head.now f.places.now (c.loop-j.j - 1)) ≡ c.has_name.result)
seen c = same-turned _ _ ∙ sym (c.has_name.ensures ∙ rw c.name-name.ensures.0)

pub loop-j-init : goal.loop-j-init
loop-j-init c = refl

pub returns-then-has_name : goal.returns-then-has_name
returns-then-has_name c =
    sym
    (c.loop-j.invariant
    ∙ seen_down _ _ _ _ c.loop-j-test.true
    ∙ rw (seen (goal.at.returns-then-has_name c).After-has_name ∙ c.if-has_name.true))

pub loop-j-preserved : goal.loop-j-preserved
loop-j-preserved c =
    c.loop-j.invariant
    ∙ seen_down _ _ _ _ c.loop-j-test.true
    ∙ rw (seen (goal.at.loop-j-preserved c).After-has_name ∙ c.if-has_name.false)

pub returns : goal.returns
returns c =
    let e : c.loop-j.j ≡ 0 = omega (arith, c.loop-j-test.false) in
    sym (c.loop-j.invariant ∙ rw e (seen_none _ _ _))
