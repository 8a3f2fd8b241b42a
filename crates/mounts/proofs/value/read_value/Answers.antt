use Prim.Native.Nat.{◌<◌}
use mathlib.Core.Path.{sym}
use native.Mathlib.Omega.{arith}
use lib.ListN.{length}
use Rattle.mounts.proofs.Values.{empty-pool, no-limit, inside, bad-number, above-limit, is-limit}
use Rattle.mounts.proofs.value.read_value.Goals as goal
use Rattle.mounts.proofs.value.read_value.Goals.{Else-len-v}

-- a `;` stands in the value
there : (c : Else-len-v) → c.find-len.result < length c.args.v.now
there c = inside _ _ c.find-len.ensures c.if-len-eq0.false c.if-len-v.false

pub returns-then-len-eq0 : goal.returns-then-len-eq0
returns-then-len-eq0 c = sym (empty-pool _ _ c.find-len.ensures c.if-len-eq0.true)

pub returns-then-len-v : goal.returns-then-len-v
returns-then-len-v c = sym (no-limit _ _ c.find-len.ensures c.if-len-eq0.false c.if-len-v.true)

pub overflow_add-len : goal.overflow_add-len
overflow_add-len c = omega (arith, there c)

pub slice_bounds-read-count : goal.slice_bounds-read-count
slice_bounds-read-count c = omega (arith, there c)

pub slice_bounds-read-start : goal.slice_bounds-read-start
slice_bounds-read-start c = omega (arith, there c)

pub returns-in_default : goal.returns-in_default
returns-in_default c = sym (bad-number _ _ c.find-len.ensures c.if-len-eq0.false c.if-len-v.false (sym c.in_default.ensures))

pub returns-then-limit-gt1048576 : goal.returns-then-limit-gt1048576
returns-then-limit-gt1048576 c =
    let n = c.in-Some.ensures in
    sym (above-limit _ _ c.find-len.ensures c.if-len-eq0.false c.if-len-v.false _ (sym n) (omega (arith, c.if-limit-gt1048576.true)))

pub returns : goal.returns
returns c =
    let n = c.in-Some.ensures in
    sym (is-limit _ _ c.find-len.ensures c.if-len-eq0.false c.if-len-v.false _ (sym n) (omega (arith, c.if-limit-gt1048576.false)))
