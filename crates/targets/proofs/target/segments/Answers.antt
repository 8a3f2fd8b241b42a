use Rattle.std.proofs.Common.{rules}
use mathlib.Core.Bool.{not}
use mathlib.Core.Path.{◌∙◌}
use lib.Dec.{eqb}
use Rattle.std.proofs.lemmas.Iterator.Search.{all_from_yields_List}
use Rattle.std.proofs.lemmas.Iterator.Splits.{YieldsList-from_slice_split}
use Rattle.octets.proofs.Tests.{tests}
use Rattle.targets.specs.Target.{is_dots}
use Rattle.targets.proofs.Iterated.{segments-listed}
use Rattle.targets.proofs.target.segments.Goals as goal

pub returns : goal.returns
returns c =
    let l = c.args.p.now in
    all_from_yields_List (λ s. not (is_dots s)) _ _ _ c.all.ensures.ran
    (YieldsList-from_slice_split _ (λ b. eqb b 47) l c.split.ensures.rest c.split.ensures.done c.split.ensures.closure (λ x r q k. search (rules, tests)))
    (λ x b q k. search (rules, tests))
    ∙ segments-listed l
