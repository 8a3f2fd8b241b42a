use mathlib.Core.Path.{sym, ◌∙◌}
use native.Mathlib.Omega.{arith}
use borrow.Author.Tests.{eqb-false}
use Rattle.octets.proofs.Decimals.{ten_to, number-some}
use Rattle.octets.proofs.DecimalLoops.{ten-more, ten-most, no-digit, digit-tested, digit-more, number-end}
use Rattle.octets.proofs.decimal.read.Goals as goal

pub loop-b-init : goal.loop-b-init
unfolding ten_to
loop-b-init c =
    let some = eqb-false _ _ (sym c.is_empty.ensures ∙ c.if-is_empty.false) in
    (omega (arith, c.if-s-gt10.false), omega arith, number-some _ (omega (arith, some)) (omega (arith, c.if-s-gt10.false)))

pub returns-then-not-is_ascii_digit : goal.returns-then-not-is_ascii_digit
returns-then-not-is_ascii_digit c =
    let l = c.loop-b in
    sym (l.invariant.2 ∙ no-digit _ _ _ c.loop-b-test.true (sym (digit-tested _) ∙ sym c.is_ascii_digit.ensures.value ∙ c.if-not-is_ascii_digit.true))

pub overflow_mul-v : goal.overflow_mul-v
overflow_mul-v c =
    let l = c.loop-b in
    omega (arith, ten-most l.b-index l.v l.invariant.1 (omega arith))

pub overflow_add-v : goal.overflow_add-v
overflow_add-v c =
    let l = c.loop-b in
    omega (arith, ten-most l.b-index l.v l.invariant.1 (omega arith))

pub loop-b-preserved : goal.loop-b-preserved
loop-b-preserved c = (
  c.loop-b.invariant.0,
  ten-more _ _ _ c.loop-b.invariant.1 (omega (arith, c.if-not-is_ascii_digit.ensures.cases)),
  rw c.from.ensures (c.loop-b.invariant.2 ∙ digit-more _ _ _ c.loop-b-test.true (sym (digit-tested _) ∙ sym c.is_ascii_digit.ensures.value ∙ c.if-not-is_ascii_digit.false)),
)

pub returns : goal.returns
returns c = sym (c.loop-b.invariant.2 ∙ number-end _ _ _ c.loop-b-test.false)
