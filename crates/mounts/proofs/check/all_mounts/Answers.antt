use mathlib.Core.Path.{◌≡◌, sym, ap, ◌∙◌}
use mathlib.Core.Bool.{not}
use native.Mathlib.Omega.{arith}
use borrow.Author.Rules.{rules}
use Rattle.octets.specs.Outcome.{gives}
use Rattle.headers.specs.Block.{header_outcome, HeaderFound}
use Rattle.mounts.proofs.MountSteps.{found_at, start, Step, step, is_mount, always-header, no_more, bad-name, by-value}
use Rattle.mounts.proofs.check.all_mounts.Goals as goal
use Rattle.mounts.proofs.check.all_mounts.Goals.{After-unwrap-h, After-is_none}

-- the header that was found at i
found : (c : After-unwrap-h) → HeaderFound c.args.block.now c.loop-i.i (gives c.unwrap-h.result)
found c = found_at _ _ _ c.loop-i-test.true (sym (ap header_outcome c.unwrap-h.ensures) ∙ c.header_at.ensures)

header :
    (c : After-unwrap-h)
    → (let b = c.args.block.now in
    let h = c.unwrap-h.result in
    Step b h.value_end (is_mount b c.loop-i.i h.name_end h.value_end (found c).order))
header c = step c.loop-i.invariant.1 _ (found c)

-- whether it is a mount, where its name is one: by its value
mount-by :
    (c : After-is_none)
    → (let h = c.unwrap-h.result in
    is_mount c.args.block.now c.loop-i.i h.name_end h.value_end (found (goal.at.After-is_none c).After-unwrap-h).order ≡ not c.is_none.result)
mount-by c =
    by-value _ _ _ _ (found (goal.at.After-is_none c).After-unwrap-h).order c.if-block-i-ne47.false (λ e. c.if-block-h-eq47.false (omega (arith, e)))
    c.read_value.result c.read_value.ensures
    ∙ c.is_none.ensures

pub loop-i-init : goal.loop-i-init
loop-i-init c = (search rules, start _ c.requires)

pub unwrap-h-requires : goal.unwrap-h-requires
unwrap-h-requires c = always-header c.loop-i.invariant.1 c.header_at.result (found_at _ _ _ c.loop-i-test.true c.header_at.ensures)

pub overflow_sub-h : goal.overflow_sub-h
overflow_sub-h c = omega (arith, (found (goal.at.overflow_sub-h c).After-unwrap-h).order)

pub bounds-block-h : goal.bounds-block-h
bounds-block-h c = omega (arith, (found (goal.at.bounds-block-h c).After-unwrap-h).order)

pub returns-then-block-i-ne47 : goal.returns-then-block-i-ne47
returns-then-block-i-ne47 c =
    let k = (goal.at.returns-then-block-i-ne47 c).After-unwrap-h in
    sym ((header k).bad (bad-name _ _ _ _ (found k).order (λ e. search rules)))

pub overflow_add-h : goal.overflow_add-h
overflow_add-h c = omega (arith, (found (goal.at.overflow_add-h c).After-unwrap-h).order)

pub slice_bounds-read_value-count : goal.slice_bounds-read_value-count
slice_bounds-read_value-count c = omega (arith, (found (goal.at.slice_bounds-read_value-count c).After-unwrap-h).order)

pub slice_bounds-read_value-start : goal.slice_bounds-read_value-start
slice_bounds-read_value-start c = omega (arith, (found (goal.at.slice_bounds-read_value-start c).After-unwrap-h).order)

pub slice_bounds-read_value-end : goal.slice_bounds-read_value-end
slice_bounds-read_value-end c = omega (arith, (found (goal.at.slice_bounds-read_value-end c).After-unwrap-h).order)

pub returns-then-is_none : goal.returns-then-is_none
returns-then-is_none c =
    let k = goal.at.returns-then-is_none c in
    sym ((header k.After-unwrap-h).bad (mount-by k.After-is_none ∙ ap not c.if-is_none.true))

pub overflow_add-i : goal.overflow_add-i
overflow_add-i c = omega (arith, (found (goal.at.overflow_add-i c).After-unwrap-h).order)

pub loop-i-smaller : goal.loop-i-smaller
loop-i-smaller c = omega (arith, (found (goal.at.loop-i-smaller c).After-unwrap-h).order)

pub loop-i-preserved : goal.loop-i-preserved
loop-i-preserved c =
    let k = goal.at.loop-i-preserved c in
    (omega (arith, (found k.After-unwrap-h).order), (header k.After-unwrap-h).good (mount-by k.After-is_none ∙ ap not c.if-is_none.false))

pub returns : goal.returns
returns c = sym (no_more c.loop-i.invariant.1 c.loop-i-test.false)
