use mathlib.Core.Path.{sym, ◌∙◌}
use borrow.Author.Tests.{le-leb}
use Rattle.http_head.proofs.LineCuts.{ends-all, ends-here}
use Rattle.http_head.proofs.lines.is_line_end.Goals as goal

pub returns-then-s-i : goal.returns-then-s-i
returns-then-s-i c = le-leb _ _ c.if-s-i.true ∙ sym (ends-all _ _ c.if-s-i.true)

pub returns-else-s-i : goal.returns-else-s-i
returns-else-s-i c = c.ends_line.ensures ∙ sym (ends-here _ _ c.if-s-i.false)
