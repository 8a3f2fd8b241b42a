use mathlib.Core.Path.{◌≡◌, sym, ap, ◌∙◌}
use Prim.Native.Nat.{◌+◌}
use native.Mathlib.Omega.{arith}
use lib.ListN.{drop, get_or}
use Rattle.octets.specs.Compare.{same_letters}
use Rattle.http_head.specs.Fields.{field_in, nowhere}
use Rattle.request.specs.Rules.{with_field, found_from}
use Rattle.request.specs.declared.rules.Found.{Found}
use Rattle.request.proofs.NamedFields.{found-next, found-end}
use Rattle.request.proofs.rules.named.Goals as goal
use Rattle.request.proofs.rules.named.Goals.{Joined-is_named, then-is_named, else-is_named}

-- whether the field has the name
told :
    (c : Joined-is_named)
    → (let a = c.args in
    same_letters (field_in a.fields.head.now (get_or a.fields.places.now c.loop-field.field-index nowhere)).name a.name.now ≡ c.is_named.result)
told c = sym c.is_named.ensures

-- what was found, with the field
seen :
    (c : Joined-is_named)
    → (let a = c.args in
    with_field a.name.now a.fields.head.now (get_or a.fields.places.now c.loop-field.field-index nowhere) c.loop-field.found ≡ c.if-is_named.found)
seen c =
    elim c.if-is_named.branch [
      | then-is_named w ↦
          rw (told c ∙ w.if-is_named.true)
          (sym (w.found-is ∙ ap (λ o. record { count = c.loop-field.found.count + 1; first = o }) w.or.ensures))
      | else-is_named w ↦ rw (told c ∙ w.if-is_named.false) (sym w.found-is)
    ]

pub loop-field-preserved : goal.loop-field-preserved
loop-field-preserved c =
    let a = c.args in
    let k = c.loop-field.field-index in (
      elim c.if-is_named.branch [
        | then-is_named w ↦ omega (arith, c.loop-field.invariant.0, ap (λ (f : Found). f.count) w.found-is)
        | else-is_named w ↦ omega (arith, c.loop-field.invariant.0, ap (λ (f : Found). f.count) w.found-is)
      ],
      c.loop-field.invariant.1
          ∙ found-next _ _ _ _ _ c.loop-field-test.true
          ∙ ap (λ f. found_from a.name.now a.fields.head.now f (drop (k + 1) a.fields.places.now)) (seen (goal.at.loop-field-preserved c).Joined-is_named),
    )

pub returns : goal.returns
returns c = sym (c.loop-field.invariant.1 ∙ found-end _ _ _ c.args.fields.places.now c.loop-field.field-index (omega arith))
