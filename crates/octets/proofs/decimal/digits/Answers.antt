use mathlib.Core.Path.{ap}
use native.Mathlib.Omega.{arith}
use lib.ListN.{length, length-append}
use Rattle.octets.proofs.Decimals.{decimal-one, decimal-more}
use Rattle.octets.proofs.decimal.digits.Goals as goal

pub loop-m-init : goal.loop-m-init
loop-m-init c = omega arith

pub loop-m-smaller : goal.loop-m-smaller
loop-m-smaller c = omega arith

pub loop-m-preserved : goal.loop-m-preserved
loop-m-preserved c =
    let m = c.loop-m.m in
    omega (arith, simp length-append at (ap length (decimal-more c.loop-m.m c.loop-m-test.true)))

pub returns : goal.returns
returns c = omega (arith, ap length (decimal-one c.loop-m.m (omega arith)))
