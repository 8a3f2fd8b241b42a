use native.Mathlib.Omega.{arith}
use borrow.Author.Rules.{rules}
use Rattle.octets.proofs.Chunks.{all-start, all-more, all-end}
use Rattle.bulk.proofs.scan.sixteen_pass.Goals as goal

pub loop-k-init : goal.loop-k-init
loop-k-init g c = λ p t. all-start p c.args.s.now c.args.i 16

pub loop-k-preserved : goal.loop-k-preserved
loop-k-preserved g c = λ p t.
    let a = c.args in
    all-more p a.s.now a.i 16 c.loop-k.k c.loop-k.good (omega arith) (omega arith) (c.loop-k.invariant p t) (t _ _ (search rules) c.passes-good.ensures)

pub returns : goal.returns
returns g c = λ p t.
    let a = c.args in
    all-end p a.s.now a.i 16 c.loop-k.k c.loop-k.good (omega arith) (c.loop-k.invariant p t)
