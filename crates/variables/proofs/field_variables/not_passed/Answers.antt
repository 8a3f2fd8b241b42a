use Rattle.std.proofs.Common.{rules, tests}
use Rattle.std.proofs.lemmas.Iterator.{YieldsList-from_slice}
use Rattle.std.proofs.lemmas.Iterator.Search.{any_from_yields_List}
use Rattle.octets.specs.Compare.{same_letters, lower_of}
use Rattle.octets.specs.Lists.{is_in}
use Rattle.variables.proofs.field_variables.not_passed.Goals as goal

pub returns : goal.returns
unfolding lower_of is_in
returns c = any_from_yields_List (λ x. same_letters c.args.name.now x.now) _ _ _ c.any.ensures.ran (YieldsList-from_slice _ c.iter.ensures.rest) (λ x b q k. search (rules, tests))
