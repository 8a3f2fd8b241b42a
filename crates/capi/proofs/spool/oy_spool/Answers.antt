use mathlib.Core.Path.{◌∙◌}
use Rattle.std.proofs.Common.{arith}
use Rattle.capi.proofs.Spools.{told}
use Rattle.capi.proofs.spool.oy_spool.Goals as goal

pub returns : goal.returns
returns c = told _ _ _ (omega arith) _ _ _ c.spool-spooled.ensures _ _ _ c.ending_number-ending.ensures (c.from-refusal.ensures ∙ c.number.ensures) c.give.ensures
