use mathlib.Core.Path.{sym, ap, ◌∙◌}
use Rattle.octets.specs.Outcome.{given}
use Rattle.http_head.specs.Head.{head_outcome}
use Rattle.octets.proofs.Outcomes.{or_refused}
use Rattle.http_head.proofs.Heads.{under-limit, over-limit}
use Rattle.http_head.proofs.head.head_end.Goals as goal

pub returns-then-s-lt8192 : goal.returns-then-s-lt8192
returns-then-s-lt8192 c =
    ap head_outcome c.ok_or.ensures.value ∙ or_refused c.first_end.result _
    ∙ ap (λ o. given o 1) c.first_end.ensures
    ∙ sym (under-limit _ c.if-s-lt8192.true)

pub returns : goal.returns
returns c =
    ap head_outcome c.ok_or-2.ensures.value ∙ or_refused c.first_end-2.result _
    ∙ ap (λ o. given o 11) c.first_end-2.ensures
    ∙ sym (over-limit _ c.if-s-lt8192.false)
