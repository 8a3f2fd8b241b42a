use Rattle.octets.proofs.Chunks.{same_start, same_more, same_end}
use native.Mathlib.Omega.{arith}
use Rattle.bulk.proofs.compare.eight_at.Goals as goal

pub loop-k-init : goal.loop-k-init
loop-k-init c = same_start c.args.s.now c.args.t.now c.args.i 8 (omega arith)

pub loop-k-preserved : goal.loop-k-preserved
loop-k-preserved c =
    same_more c.args.s.now c.args.t.now c.args.i 8 (omega arith) c.loop-k.k c.loop-k.ok (omega arith) (omega arith) c.loop-k.invariant

pub returns : goal.returns
returns c =
    same_end c.args.s.now c.args.t.now c.args.i 8 (omega arith) c.loop-k.k c.loop-k.ok (omega arith) c.loop-k.invariant
