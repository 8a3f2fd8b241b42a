use native.Mathlib.Omega.{arith}
use mathlib.Core.Bool.{true}
use mathlib.Core.Logic.{inl, inr}
use mathlib.Core.Path.{◌≡◌, sym, ◌∙◌}
use lib.Seq.{length-take-le}
use Rattle.response.proofs.Statuses.{three-there, not_three, no-digits, low, high, right}
use Rattle.response.specs.Status.{three_alone}
use Rattle.response.proofs.status.status_code.Goals as goal
use Rattle.response.proofs.status.status_code.Goals.{Else-not-three_alone}

three : (c : Else-not-three_alone) → three_alone c.args.v.now ≡ true
three c = sym c.three_alone.ensures ∙ c.if-not-three_alone.false

pub returns-then-not-three_alone : goal.returns-then-not-three_alone
returns-then-not-three_alone c = sym (not_three _ (sym c.three_alone.ensures ∙ c.if-not-three_alone.true))

pub slice_bounds-read-end : goal.slice_bounds-read-end
slice_bounds-read-end c = sym (length-take-le 3 c.args.v.now (three-there _ (three c)))

pub returns-in_err-n : goal.returns-in_err-n
returns-in_err-n c =
    c.from_residual.ensures ∙ sym (no-digits _ (three (goal.at.returns-in_err-n c).Else-not-three_alone) (sym (c.in_err-n.ensures {u = tt})))

pub returns-then-n-lt200 : goal.returns-then-n-lt200
returns-then-n-lt200 c =
    let k = (goal.at.returns-then-n-lt200 c).Else-not-three_alone in
    let e = c.in_ok-n.ensures {u = tt} in
    elim c.then-n-lt200.either [ inl h ↦ sym (low _ (three k) _ (sym e) h) | inr h ↦ sym (high _ (three k) _ (sym e) (omega (arith, h.1))) ]

pub returns : goal.returns
returns c =
    let k = (goal.at.returns c).Else-not-three_alone in
    sym (right _ (three k) _ (sym (c.in_ok-n.ensures {u = tt})) (omega (arith, c.if-n-lt200.false)) (omega (arith, c.if-n-gt599.false)))
