use mathlib.Core.Path.{sym, ◌∙◌}
use Rattle.http_head.proofs.Requests.{version-0, version-1, other-number, other-shape}
use Rattle.http_head.proofs.request_line.minor_version.Goals as goal

pub returns-then-is_eight : goal.returns-then-is_eight
returns-then-is_eight c = sym (version-0 _ (sym c.is_eight.ensures ∙ c.if-is_eight.true))

pub returns-then-is_eight-2 : goal.returns-then-is_eight-2
returns-then-is_eight-2 c = sym (version-1 _ (sym c.is_eight-2.ensures ∙ c.if-is_eight-2.true))

pub returns-then-is_version : goal.returns-then-is_version
returns-then-is_version c =
    sym (other-number _ (sym c.is_eight.ensures ∙ c.if-is_eight.false) (sym c.is_eight-2.ensures ∙ c.if-is_eight-2.false) (sym c.is_version.ensures ∙ c.if-is_version.true))

pub returns : goal.returns
returns c = sym (other-shape _ (sym c.is_version.ensures ∙ c.if-is_version.false))
