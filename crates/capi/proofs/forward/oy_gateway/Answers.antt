use Rattle.std.proofs.Common.{arith}
use Rattle.capi.proofs.Forwards.{due, no_room}
use Rattle.capi.proofs.forward.oy_gateway.Goals as goal

pub returns-then-answer-lt4 : goal.returns-then-answer-lt4
returns-then-answer-lt4 c =
    no_room _ _ _ _ _ _ (omega arith) _ (rw (c.refused.ensures, c.unwrap_or.ensures, c.err.ensures.value) (due _ _ _ _ _ _ _ c.step.ensures))
