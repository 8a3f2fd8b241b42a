use mathlib.Core.Path.{sym, ◌∙◌}
use Rattle.variables.proofs.Repeats.{differ-none, differ-next, repeats-at}
use Rattle.variables.proofs.field_variables.names_repeat.Goals as goal

pub loop-k-init : goal.loop-k-init
loop-k-init c = differ-none _ _

pub returns-then-seen_before : goal.returns-then-seen_before
returns-then-seen_before c =
    let seen = sym c.seen_before.ensures ∙ c.if-seen_before.true in
    ((sym (repeats-at _ _ _ c.loop-k-test.true seen), c.loop-k.invariant), (c.loop-k-test.true, seen))

pub loop-k-preserved : goal.loop-k-preserved
loop-k-preserved c = differ-next _ _ _ ∙ rw (sym c.seen_before.ensures ∙ c.if-seen_before.false, c.loop-k.invariant)
