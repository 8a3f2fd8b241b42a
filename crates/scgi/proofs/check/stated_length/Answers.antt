use mathlib.Core.Path.{◌≡◌, sym, ap, ◌∙◌}
use native.Mathlib.Omega.{arith}
use Rattle.std.proofs.lemmas.Bool.Decides.{nat_tests}
use lib.ListN.{length-take}
use Rattle.octets.specs.Outcome.{gives}
use Rattle.headers.specs.Block.{HeaderFound, header_outcome}
use Rattle.scgi.proofs.CheckSteps.{states-none, states-first, first-found, first-is, first_states, given-or}
use Rattle.scgi.specs.Check.{stated_in}
use Rattle.scgi.proofs.check.stated_length.Goals as goal
use Rattle.scgi.proofs.check.stated_length.Goals.{After-unwrap-name_end}

-- the first header
found : (c : After-unwrap-name_end) → HeaderFound c.args.block.now 0 (gives c.unwrap-name_end.result)
found c =
    rw (ap header_outcome c.unwrap-name_end.ensures) at
    (first-found c.args.block.now c.requires c.header_at.result c.header_at.ensures (grind (arith, nat_tests)))

-- what it states
says :
    (c : After-unwrap-name_end)
    → (let b = c.args.block.now in
    let h = c.unwrap-name_end.result in
    stated_in b ≡ first_states b h.name_end h.value_end)
says c = states-first _ c.requires _ _ (found c)

pub returns-then-is_empty : goal.returns-then-is_empty
returns-then-is_empty c = sym (states-none c.args.block.now c.requires (grind (arith, nat_tests)))

pub unwrap-name_end-requires : goal.unwrap-name_end-requires
unwrap-name_end-requires c =
    first-is c.args.block.now c.requires _
    (first-found c.args.block.now c.requires c.header_at.result c.header_at.ensures (grind (arith, nat_tests)))

pub slice_bounds-same-end : goal.slice_bounds-same-end
slice_bounds-same-end c = simp length-take (omega (arith, (found (goal.at.slice_bounds-same-end c).After-unwrap-name_end).order))

pub returns-then-not-same : goal.returns-then-not-same
returns-then-not-same c =
    sym (says (goal.at.returns-then-not-same c).After-unwrap-name_end ∙ rw (sym c.same.ensures ∙ c.if-not-same.true))

pub overflow_add-start : goal.overflow_add-start
overflow_add-start c = omega (arith, (found (goal.at.overflow_add-start c).After-unwrap-name_end).order)

pub slice_bounds-read-count : goal.slice_bounds-read-count
slice_bounds-read-count c = omega (arith, (found (goal.at.slice_bounds-read-count c).After-unwrap-name_end).order)

pub slice_bounds-read-start : goal.slice_bounds-read-start
slice_bounds-read-start c = omega (arith, (found (goal.at.slice_bounds-read-start c).After-unwrap-name_end).order)

pub slice_bounds-read-end : goal.slice_bounds-read-end
slice_bounds-read-end c = omega (arith, (found (goal.at.slice_bounds-read-end c).After-unwrap-name_end).order)

pub returns : goal.returns
returns c =
    rw c.ok_or.ensures.value
    (given-or c.read.result _
    ∙ rw c.read.ensures (sym (says (goal.at.returns c).After-unwrap-name_end ∙ rw (sym c.same.ensures ∙ c.if-not-same.false))))
