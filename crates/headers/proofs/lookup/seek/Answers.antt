use mathlib.Core.Path.{sym, ap, ◌∙◌}
use native.Mathlib.Omega.{arith}
use borrow.Author.Rules.{rules}
use Rattle.octets.specs.Outcome.{gives}
use Rattle.headers.proofs.Lookups.{start, Turn, turn, ended}
use Rattle.headers.proofs.Walks.{found_at, is-found}
use Rattle.headers.specs.Block.{HeaderFound, header_outcome}
use Rattle.headers.proofs.lookup.seek.Goals as goal
use Rattle.headers.proofs.lookup.seek.Goals.{After-unwrap-h}

-- the header that was found at i
found : (c : After-unwrap-h) → HeaderFound c.args.block.now c.loop-i.i (gives c.unwrap-h.result)
found c = found_at _ _ _ c.loop-i-test.true (sym (ap header_outcome c.unwrap-h.ensures) ∙ c.header_at.ensures)

header :
    (c : After-unwrap-h)
    → (let a = c.args in
    let h = c.unwrap-h.result in
    Turn a.block.now a.name.now c.loop-i.i h.name_end h.value_end)
header c = turn c.loop-i.invariant.1 _ (found c)

pub loop-i-init : goal.loop-i-init
loop-i-init c = (search rules, start _ _ c.requires)

pub unwrap-h-requires : goal.unwrap-h-requires
unwrap-h-requires c =
    let s = c.loop-i.invariant.1 in
    is-found _ _ s.hs s.rest c.header_at.result (found_at _ _ _ c.loop-i-test.true c.header_at.ensures)

pub slice_bounds-same-count : goal.slice_bounds-same-count
slice_bounds-same-count c = omega (arith, (found (goal.at.slice_bounds-same-count c).After-unwrap-h).order)

pub slice_bounds-same-start : goal.slice_bounds-same-start
slice_bounds-same-start c = omega (arith, (found (goal.at.slice_bounds-same-start c).After-unwrap-h).order)

pub slice_bounds-same-end : goal.slice_bounds-same-end
slice_bounds-same-end c = omega (arith, (found (goal.at.slice_bounds-same-end c).After-unwrap-h).order)

pub overflow_sub-result : goal.overflow_sub-result
overflow_sub-result c = omega (arith, (found (goal.at.overflow_sub-result c).After-unwrap-h).order)

pub returns-then-same : goal.returns-then-same
returns-then-same c = sym ((header (goal.at.returns-then-same c).After-unwrap-h).hit (sym c.same.ensures ∙ c.if-same.true))

pub overflow_add-i : goal.overflow_add-i
overflow_add-i c = omega (arith, (found (goal.at.overflow_add-i c).After-unwrap-h).order)

pub loop-i-smaller : goal.loop-i-smaller
loop-i-smaller c = omega (arith, (found (goal.at.loop-i-smaller c).After-unwrap-h).order)

pub loop-i-preserved : goal.loop-i-preserved
loop-i-preserved c =
    let a = (goal.at.loop-i-preserved c).After-unwrap-h in
    (omega (arith, (found a).order), (header a).miss (sym c.same.ensures ∙ c.if-same.false))

pub returns : goal.returns
returns c = sym (ended c.loop-i.invariant.1 c.loop-i-test.false)
