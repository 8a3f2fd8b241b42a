use Rattle.std.proofs.Common.{rules}
use mathlib.Core.Path.{◌∙◌}
use Rattle.std.proofs.lemmas.Iterator.{YieldsList-from_slice}
use Rattle.std.proofs.lemmas.Iterator.Search.{all_from_yields_List}
use Rattle.octets.proofs.Tests.{tests}
use Rattle.octets.proofs.Alls.{all-listed}
use Rattle.response.specs.Location.{is_visible}
use Rattle.response.proofs.location.all_visible.Goals as goal

pub returns : goal.returns
returns c =
    all_from_yields_List is_visible _ _ _ c.all.ensures.ran (YieldsList-from_slice c.args.s.now cc) (λ x b q k. search (rules, tests))
    ∙ all-listed is_visible c.args.s.now
