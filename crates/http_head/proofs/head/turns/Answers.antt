use Rattle.http_head.proofs.Heads.{turn_on}
use native.Mathlib.Omega.{arith}
use Rattle.http_head.proofs.head.turns.Goals as goal

pub loop-k-preserved : goal.loop-k-preserved
loop-k-preserved c = turn_on c.args.s.now c.args.i c.loop-k.k c.loop-k.hit (omega (arith, c.requires)) c.loop-k.invariant
