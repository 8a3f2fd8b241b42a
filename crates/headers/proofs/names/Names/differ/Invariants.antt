use mathlib.Core.Path.{◌≡◌}
use lib.ListN.{length}
use Rattle.octets.specs.Lists.{different}
use Rattle.octets.specs.Outcome.{gives, then}
use Rattle.headers.specs.Block.{names, parsed}
use Rattle.headers.specs.Names.{AllInside}
use Rattle.headers.proofs.NamePlaces.{parts}
use Rattle.headers.proofs.names.Names.differ.Given as goal

abbrev pub invariant-loop-left : goal.invariant-loop-left
invariant-loop-left l =
    AllInside l.self.block.now l.left
    × (then (parsed l.self.block.now) (λ hs. gives (different (names hs))) ≡ gives (different (parts l.self.block.now l.left)))

abbrev pub decreases-loop-left : goal.decreases-loop-left
decreases-loop-left l = length l.left
