use Rattle.http_head.proofs.Heads.{pass-four, pass-eight, pass-twelve, pass-sixteen}
use native.Mathlib.Omega.{arith}
use Rattle.http_head.proofs.head.skip.Goals as goal

pub returns-then-s-i-le13-2 : goal.returns-then-s-i-le13-2
returns-then-s-i-le13-2 c = pass-four _ _ _ (omega arith) c.loop-i.invariant (omega arith)

pub returns-then-s-i-le13-3 : goal.returns-then-s-i-le13-3
returns-then-s-i-le13-3 c = pass-eight _ _ _ (omega arith) c.loop-i.invariant (omega arith) (omega arith)

pub returns-then-s-i-le13-4 : goal.returns-then-s-i-le13-4
returns-then-s-i-le13-4 c = pass-twelve _ _ _ (omega arith) c.loop-i.invariant (omega arith) (omega arith) (omega arith)

pub loop-i-preserved : goal.loop-i-preserved
loop-i-preserved c = pass-sixteen _ _ _ (omega arith) c.loop-i.invariant (omega arith) (omega arith) (omega arith) (omega arith)
