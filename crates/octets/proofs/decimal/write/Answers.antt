use mathlib.Core.Path.{refl, sym, ap, ◌∙◌}
use Prim.Native.Nat.{◌+◌, ◌/◌}
use native.Mathlib.Omega.{arith}
use lib.ListN.{length-set}
use Rattle.octets.proofs.DecimalLoops.{digit-written, first-written}
use Rattle.octets.proofs.Decimals.{decimal-some, decimal-longer}
use Rattle.octets.proofs.decimal.write.Goals as goal

pub overflow_sub-i : goal.overflow_sub-i
overflow_sub-i c = omega (arith, c.digits.ensures, decimal-some c.args.n)

pub loop-m-init : goal.loop-m-init
loop-m-init c = (omega (arith, c.digits.ensures, decimal-some c.args.n), omega (arith, c.digits.ensures, decimal-some c.args.n), refl, refl)

pub overflow_sub-i-in-loop-m : goal.overflow_sub-i-in-loop-m
overflow_sub-i-in-loop-m c = omega (arith, decimal-longer c.loop-m.m c.loop-m-test.true, decimal-some (c.loop-m.m / 10))

pub loop-m-smaller : goal.loop-m-smaller
loop-m-smaller c = omega arith

pub loop-m-preserved : goal.loop-m-preserved
loop-m-preserved c =
    let longer = decimal-longer c.loop-m.m c.loop-m-test.true in
    let some = decimal-some (c.loop-m.m / 10) in (
      omega arith,
      simp length-set (omega arith),
      simp length-set c.loop-m.invariant.2,
      c.loop-m.invariant.3 ∙ digit-written _ _ _ _ c.loop-m.invariant.0 c.loop-m.invariant.1 c.loop-m-test.true,
    )

pub returns : goal.returns
returns c =
    record {
      ends = ap (◌+◌ _) c.digits.ensures;
      holds = first-written _ _ _ _ c.loop-m.invariant.0 c.loop-m.invariant.1 (omega arith) ∙ sym c.loop-m.invariant.3;
    }
