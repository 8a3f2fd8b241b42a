use mathlib.Core.Path.{◌≡◌, sym, ap, ◌∙◌}
use Prim.Native.Nat.{◌-◌}
use native.Mathlib.Omega.{arith}
use lib.ListN.{length, take, drop, get_or}
use Rattle.octets.specs.Lists.{is_in}
use Rattle.octets.specs.Outcome.{gives}
use Rattle.headers.specs.Lookup.{part_in}
use Rattle.headers.specs.Names.{nowhere}
use Rattle.headers.proofs.NamePlaces.{parts, known, from-inside, differ-told, differ-end}
use Rattle.headers.proofs.names.Names.differ.Goals as goal
use Rattle.headers.proofs.names.Names.differ.Goals.{After-stands}

-- whether the first of the names that are left stands again
again :
    (c : After-stands)
    → (let b = c.args.self.block.now in
    let ps = c.loop-left.left.now in
    is_in (part_in b (get_or ps 0 nowhere)) (parts b (take (length ps - 1) (drop 1 ps))) ≡ c.stands.result)
again c = sym (c.stands.ensures ∙ rw c.of.ensures.0)

pub loop-left-init : goal.loop-left-init
loop-left-init c =
    let k = known _ _ c.args.self.held in
    (k.inside, k.answer)

pub stands-requires : goal.stands-requires
stands-requires c = from-inside _ _ _ c.loop-left.invariant.0

pub returns-then-stands : goal.returns-then-stands
returns-then-stands c =
    let a = again (goal.at.returns-then-stands c).After-stands in
    c.loop-left.invariant.1 ∙ ap gives (differ-told _ _ _ c.in-len1-up.len_at_least (a ∙ c.if-stands.true))

pub loop-left-preserved : goal.loop-left-preserved
loop-left-preserved c =
    let a = again (goal.at.loop-left-preserved c).After-stands in (
      from-inside _ _ _ c.loop-left.invariant.0,
      c.loop-left.invariant.1 ∙ ap gives (differ-told _ _ _ c.in-len1-up.len_at_least (a ∙ c.if-stands.false)),
    )

pub returns : goal.returns
returns c = c.loop-left.invariant.1 ∙ ap gives (differ-end c.args.self.block.now c.loop-left.left.now 0 (omega arith))
