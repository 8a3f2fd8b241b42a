use mathlib.Core.Path.{sym, ◌∙◌}
use native.Mathlib.Omega.{arith}
use Rattle.octets.proofs.Chunks.{run-chunk}
use Rattle.bulk.proofs.scan.skip.Goals as goal

pub loop-i-preserved : goal.loop-i-preserved
loop-i-preserved g c = (
  omega arith,
  λ p t. omega (arith, run-chunk p c.args.s.now c.loop-i.i 16 (omega arith) (sym (c.sixteen_pass.ensures p t) ∙ c.if-sixteen_pass.true), c.loop-i.invariant.1 p t),
)
