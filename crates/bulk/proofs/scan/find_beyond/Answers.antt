use mathlib.Core.Path.{sym, ◌∙◌}
use native.Mathlib.Omega.{arith}
use borrow.Author.Rules.{rules}
use Rattle.octets.specs.Scan.{other}
use Rattle.octets.proofs.Chunks.{run-chunk}
use Rattle.bulk.proofs.scan.find_beyond.Goals as goal

pub loop-preserved : goal.loop-preserved
loop-preserved c =
    let p = other c.args.b in
    let pass = sym (c.sixteen_pass.ensures p (λ x r h g. search rules)) ∙ c.if-not-sixteen_pass.false in
    (omega arith, omega (arith, run-chunk p c.args.s.now c.loop.i 16 (omega arith) pass, c.loop.invariant.1))
