use mathlib.Core.Path.{◌≡◌, sym, ◌∙◌}
use Prim.Native.Nat.{◌-◌, ◌%◌}
use lib.ListN.{drop, get_or}
use Rattle.octets.specs.Lists.{is_in}
use Rattle.headers.specs.Lookup.{part_in}
use Rattle.headers.specs.Names.{nowhere}
use Rattle.headers.proofs.NamePlaces.{parts, known, from, from-inside}
use Rattle.headers.proofs.Nearests.{length_at, begun, walked, hit, miss}
use Rattle.headers.proofs.names.Names.differ_by_length.Goals as goal
use Rattle.headers.proofs.names.Names.differ_by_length.Goals.{After-stands}

-- whether the name before k stands again
seen :
    (c : After-stands)
    → (let b = c.args.self.block.now in
    let ps = c.args.self.places.now in
    let k = c.loop-k.k - 1 in
    is_in (part_in b (get_or ps k nowhere)) (parts b (drop (get_or c.loop-k.nearest (length_at ps k % 128) 0) ps)) ≡ c.stands.result)
seen c = sym (c.stands.ensures ∙ rw (c.name.ensures.value, from c.args.self.places.now _))

pub loop-k-init : goal.loop-k-init
loop-k-init c = begun _ _

pub stands-requires : goal.stands-requires
stands-requires c = from-inside _ _ _ (known _ _ c.args.self.held).inside

pub returns-then-stands : goal.returns-then-stands
returns-then-stands c =
    hit c.args.self.held c.loop-k.invariant c.loop-k-test.true (seen (goal.at.returns-then-stands c).After-stands ∙ c.if-stands.true)

pub loop-k-preserved : goal.loop-k-preserved
loop-k-preserved c =
    miss c.args.self.held c.loop-k.invariant c.loop-k-test.true (seen (goal.at.loop-k-preserved c).After-stands ∙ c.if-stands.false)

pub returns : goal.returns
returns c = walked c.args.self.held c.loop-k.invariant c.loop-k-test.false
