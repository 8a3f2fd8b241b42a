use mathlib.Core.Path.{sym}
use native.Mathlib.Omega.{arith}
use borrow.Author.Rules.{rules}
use Rattle.octets.specs.Outcome.{gives}
use Rattle.headers.proofs.NamePlaces.{start, more, unheaded, none-stored, all-counted, all-stored}
use Rattle.headers.proofs.Walks.{found_at}
use Rattle.headers.specs.Block.{HeaderFound}
use Rattle.headers.proofs.names.store_names.Goals as goal
use Rattle.headers.proofs.names.store_names.Goals.{In_ok-h}

-- the header that was found at i
found : (c : In_ok-h) → HeaderFound c.args.block.now c.loop-i.i (gives c.in_ok-h.h)
found c = found_at _ _ _ c.loop-i-test.true c.in_ok-h.ensures

pub loop-i-init : goal.loop-i-init
loop-i-init c = (search rules, start _ _)

pub returns-in_err-h : goal.returns-in_err-h
returns-in_err-h c =
    let e = c.in_err-h.ensures in
    let s = c.loop-i.invariant.1 in
    let f = found_at _ _ _ c.loop-i-test.true e in
    record { count = rw (unheaded s _ f) (search rules); size = s.size; stored = none-stored s _ f }

pub overflow_sub-h : goal.overflow_sub-h
overflow_sub-h c = omega (arith, (found (goal.at.overflow_sub-h c).In_ok-h).order)

pub overflow_add-i : goal.overflow_add-i
overflow_add-i c = omega (arith, (found (goal.at.overflow_add-i c).In_ok-h).order)

pub loop-i-smaller : goal.loop-i-smaller
loop-i-smaller c = omega (arith, (found (goal.at.loop-i-smaller c).In_ok-h).order)

pub loop-i-preserved : goal.loop-i-preserved
loop-i-preserved c =
    let f = found (goal.at.loop-i-preserved c).In_ok-h in
    (omega (arith, f.order), more c.loop-i.invariant.1 _ _ f c.store_place.ensures)

pub returns : goal.returns
returns c =
    let s = c.loop-i.invariant.1 in
    record { count = sym (all-counted s c.loop-i-test.false); size = s.size; stored = all-stored s c.loop-i-test.false }
