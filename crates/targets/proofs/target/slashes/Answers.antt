use Rattle.std.proofs.Common.{rules}
use mathlib.Core.Path.{◌∙◌}
use lib.Dec.{eqb}
use Rattle.std.proofs.lemmas.Iterator.{YieldsList-from_slice}
use Rattle.std.proofs.lemmas.Iterator.Consumers.{YieldsList-from_filter, count_from_yields_List}
use Rattle.octets.proofs.Tests.{tests}
use Rattle.targets.proofs.Iterated.{counted}
use Rattle.targets.proofs.target.slashes.Goals as goal

pub returns : goal.returns
returns c =
    let s = YieldsList-from_slice c.args.s.now cc in
    count_from_yields_List c.filter.result _ c.count.ensures.ran
    (YieldsList-from_filter _ (λ b. eqb b 47) s c.filter.ensures.closure (λ x b q k. search (rules, tests)))
    ∙ counted 47 c.args.s.now
