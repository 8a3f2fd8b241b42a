use Rattle.std.proofs.Common.{rules, tests}
use Rattle.std.proofs.lemmas.Iterator.{YieldsList-from_slice}
use Rattle.std.proofs.lemmas.Iterator.Adapters.{serves_from_places}
use Rattle.std.proofs.lemmas.Iterator.Search.{any_from_yields_List}
use mathlib.Core.Path.{◌∙◌}
use Rattle.octets.specs.Compare.{same_bytes}
use Rattle.headers.specs.Lookup.{part_in}
use Rattle.headers.proofs.NamePlaces.{inside-item, any-in}
use Rattle.headers.proofs.names.stands.Goals as goal

pub any-requires-clause-callable : goal.any-requires-clause-callable
any-requires-clause-callable c =
    let ps = c.args.places.now in
    serves_from_places (YieldsList-from_slice ps cc) (λ x q k. search (rules, tests))
    (λ x k h e.
    let i = inside-item c.args.block.now ps k x.now c.requires h e in
    search (rules, i))

pub returns : goal.returns
returns c =
    let ps = c.args.places.now in
    any_from_yields_List (λ p. same_bytes (part_in c.args.block.now p) c.args.name.now) _ _ _ c.any.ensures.ran (YieldsList-from_slice ps cc) (λ x b q k. search (rules, tests))
    ∙ any-in c.args.name.now c.args.block.now ps
