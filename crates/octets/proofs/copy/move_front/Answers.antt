use mathlib.Core.Path.{sym}
use native.Mathlib.Nat.{sub-zero}
use native.Mathlib.Omega.{arith}
use Rattle.octets.proofs.Copies.{over-nil, moved-next, front-stays}
use Rattle.octets.proofs.copy.move_front.Goals as goal

pub returns-then-from-eq0 : goal.returns-then-from-eq0
returns-then-from-eq0 c =
    let a = c.args in
    rw (c.if-from-eq0.true, sub-zero a.to) (front-stays a.buf.now a.to c.requires.1)

pub loop-i-init : goal.loop-i-init
loop-i-init c = (omega (arith, c.requires), sym (over-nil c.args.buf.now 0))

pub loop-i-preserved : goal.loop-i-preserved
loop-i-preserved c =
    let a = c.args in
    (c.loop-i.invariant.0, rw c.loop-i.invariant.1 (moved-next a.buf.now a.from c.loop-i.i (omega arith)))
