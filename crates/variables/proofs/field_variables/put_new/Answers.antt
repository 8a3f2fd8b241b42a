use mathlib.Core.Bool.{false}
use mathlib.Core.Path.{◌≡◌, sym, ◌∙◌}
use native.Mathlib.Omega.{arith}
use Rattle.octets.specs.Lists.{is_in}
use Rattle.variables.specs.Fields.{not_passed}
use Rattle.variables.specs.FieldVariables.{low_name, names_before}
use Rattle.variables.proofs.Writers.{appended_none}
use Rattle.variables.proofs.Repeats.{none-twice, new-up-to, if-alone}
use Rattle.variables.proofs.field_variables.put_new.Goals as goal
use Rattle.variables.proofs.field_variables.put_new.Goals.{After-not_passed, Joined-then-k-first, then-k-first-via-then-k-first, then-k-first-via-else-k-first+then-not-seen_before}

-- what the test says of the name
told :
    (c : After-not_passed)
    → (let f = c.args.fields in
    is_in (low_name f.head.now f.places.now c.args.k) not_passed ≡ c.not_passed.result)
told c = sym (c.not_passed.ensures ∙ rw c.name.ensures.0)

pub returns-then-not_passed : goal.returns-then-not_passed
returns-then-not_passed c =
    rw (told (goal.at.returns-then-not_passed c).After-not_passed ∙ c.if-not_passed.true) (appended_none _ (omega (arith, c.requires.2)))

pub put_alone-requires : goal.put_alone-requires
put_alone-requires c =
    let e = if-alone _ _ _ c.requires.0 (none-twice _ _ c.requires.1 c.in-None.is) (told (goal.at.put_alone-requires c).After-not_passed ∙ c.if-not_passed.false) in
    (c.requires.0, rw e at c.requires.2)

pub returns-in-None : goal.returns-in-None
returns-in-None c =
    rw (if-alone _ _ _ c.requires.0 (none-twice _ _ c.requires.1 c.in-None.is) (told (goal.at.returns-in-None c).After-not_passed ∙ c.if-not_passed.false)) c.put_alone.ensures

-- either way no field before has the name
new :
    (c : Joined-then-k-first)
    → (let f = c.args.fields in
    is_in (low_name f.head.now f.places.now c.args.k) (names_before f.head.now f.places.now c.args.k) ≡ false)
new c =
    elim c.then-k-first.branch [
      | then-k-first-via-then-k-first w ↦ new-up-to _ _ _ _ c.requires.1 c.in-Some.is w.if-k-first.true
      | then-k-first-via-else-k-first+then-not-seen_before w ↦ sym w.seen_before.ensures ∙ w.if-not-seen_before.true
    ]

pub put_field-requires : goal.put_field-requires
put_field-requires c =
    (c.requires.0, rw (told (goal.at.put_field-requires c).After-not_passed ∙ c.if-not_passed.false, new (goal.at.put_field-requires c).Joined-then-k-first) at c.requires.2)

pub returns-then-k-first : goal.returns-then-k-first
returns-then-k-first c =
    rw (told (goal.at.returns-then-k-first c).After-not_passed ∙ c.if-not_passed.false, new (goal.at.returns-then-k-first c).Joined-then-k-first) c.put_field.ensures

pub returns-else-not-seen_before : goal.returns-else-not-seen_before
returns-else-not-seen_before c =
    rw (told (goal.at.returns-else-not-seen_before c).After-not_passed ∙ c.if-not_passed.false, sym c.seen_before.ensures ∙ c.if-not-seen_before.false)
    (appended_none _ (omega (arith, c.requires.2)))
