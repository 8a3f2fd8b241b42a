use mathlib.Core.Path.{◌≡◌, sym, ◌∙◌}
use mathlib.Core.List.{List}
use Prim.Native.Nat.{ℕ, ◌-◌, ◌≤◌}
use lib.ListN.{take, drop}
use Rattle.response.proofs.LineEnds.{bare-le, part_length}
use Rattle.response.proofs.Heads.{at_end, unended, ends, too_many, bad-line, onward}
use native.Mathlib.Omega.{arith}
use Rattle.response.proofs.head.head_in.Goals as goal
use Rattle.response.proofs.head.head_in.Goals.{After-bare_end-l}

-- the line ends within the bytes
module _ (c : After-bare_end-l) where
  abbrev t : List ℕ
  t = c.args.t.now

  abbrev start : ℕ
  start = c.loop-at.at

  abbrev end : ℕ
  end = c.find-e.result

  starts : start ≤ end
  starts = omega (arith, c.find-e.ensures)

  line-ends : c.bare_end-l.result ≤ end
  line-ends =
      omega (arith, c.bare_end-l.ensures, bare-le (take (end - start) (drop start t)), part_length t start end starts (omega (arith, c.if-t-e.false)))

pub returns-then-t-e : goal.returns-then-t-e
returns-then-t-e c = sym (unended c.loop-at.invariant _ c.find-e.ensures c.if-t-e.true)

pub returns-then-l-at : goal.returns-then-l-at
returns-then-l-at c = sym (ends c.loop-at.invariant _ c.find-e.ensures c.if-t-e.false _ c.bare_end-l.ensures c.if-l-at.true)

pub returns-then-n-eq64 : goal.returns-then-n-eq64
returns-then-n-eq64 c = sym (too_many c.loop-at.invariant _ c.find-e.ensures c.if-t-e.false _ c.bare_end-l.ensures c.if-l-at.false (omega (arith, c.if-n-eq64.true, c.loop-at.invariant.count)))

pub slice_bounds-line_step-end : goal.slice_bounds-line_step-end
slice_bounds-line_step-end c = omega (arith, line-ends (goal.at.slice_bounds-line_step-end c).After-bare_end-l, c.if-t-e.false)

pub returns-in_err-seen : goal.returns-in_err-seen
returns-in_err-seen c =
    c.from_residual.ensures ∙ sym (bad-line c.loop-at.invariant _ c.find-e.ensures c.if-t-e.false _ c.bare_end-l.ensures c.if-l-at.false (c.in_err-seen.ensures {u = tt}))

pub loop-at-preserved : goal.loop-at-preserved
loop-at-preserved c =
    onward c.loop-at.invariant _ c.find-e.ensures c.if-t-e.false _ c.bare_end-l.ensures c.if-l-at.false (λ (e : c.loop-at.n ≡ 64). c.if-n-eq64.false (omega (arith, e, c.loop-at.invariant.count))) _ (c.in_ok-seen.ensures {u = tt})

pub returns : goal.returns
returns c = sym (at_end c.loop-at.invariant c.loop-at-test.false)
