use Rattle.std.proofs.Common.{rules}
use mathlib.Core.Path.{◌∙◌}
use Rattle.std.proofs.lemmas.Iterator.{YieldsList-from_range}
use Rattle.std.proofs.lemmas.Iterator.Search.{all_from_yields_List}
use native.Mathlib.Omega.{arith}
use lib.ListN.{length, drop, get_or}
use Prim.Native.Nat.{◌+◌}
use Rattle.targets.specs.Escape.{escape_right}
use Rattle.targets.proofs.Escapes.{escapes-listed}
use Rattle.targets.proofs.escape.escapes.Goals as goal

pub returns : goal.returns
returns c =
    let t = c.args.t.now in
    all_from_yields_List (λ i. escape_right (get_or t i 0) (drop (i + 1) t)) _ _ _ c.all.ensures.ran
    (YieldsList-from_range 0 (length t) (length t) (cc) (omega arith))
    (λ x b q k. search rules)
    ∙ escapes-listed t
