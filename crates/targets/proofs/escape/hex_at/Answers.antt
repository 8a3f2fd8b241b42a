use mathlib.Core.Path.{sym, ap, ◌∙◌}
use lib.ListN.{get_or-eq_default}
use borrow.Author.Tests.{le-ltb}
use Rattle.octets.specs.Kinds.{is_hex}
use Rattle.targets.proofs.Escapes.{not-hex}
use Rattle.targets.proofs.escape.hex_at.Goals as goal

pub returns-else-i-t : goal.returns-else-i-t
returns-else-i-t c = le-ltb _ _ c.if-i-t.false ∙ sym (ap is_hex (get_or-eq_default c.args.t.now 0 c.if-i-t.false) ∙ not-hex)
