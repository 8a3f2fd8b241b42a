use mathlib.Core.Path.{refl, sym, ◌∙◌}
use Rattle.http_head.proofs.Heads.{end_none, end-here, one_on, four-on}
use native.Mathlib.Omega.{arith}
use Rattle.http_head.proofs.head.first_end.Goals as goal

pub loop-i-preserved-then-s-i-gt13 : goal.loop-i-preserved-then-s-i-gt13
loop-i-preserved-then-s-i-gt13 c = four-on _ _ _ _ refl refl (omega arith) c.if-s-i-gt13.true 0 c.loop-i.invariant

pub returns-then-ends_head : goal.returns-then-ends_head
returns-then-ends_head c =
    sym (c.loop-i.invariant.same ∙ end-here _ _ (omega arith) (sym c.ends_head.ensures ∙ c.if-ends_head.true))

pub loop-i-preserved : goal.loop-i-preserved
loop-i-preserved c =
    one_on _ _ _ _ c.loop-i.invariant (omega arith) (sym c.ends_head.ensures ∙ c.if-ends_head.false) c.skip-i-in-loop-i.ensures

pub returns : goal.returns
returns c = sym (c.loop-i.invariant.same ∙ end_none _ _ (omega arith))
