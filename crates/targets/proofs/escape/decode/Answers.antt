use mathlib.Core.Path.{sym, ap, ◌∙◌}
use Prim.Native.Nat.{◌<◌}
use lib.ListN.{length, length-set}
use Rattle.octets.specs.Copy.{over}
use Rattle.octets.proofs.Copies.{over-nil, first_then}
use Rattle.targets.proofs.Escapes.{decoded-none}
use native.Mathlib.Omega.{arith}
use Rattle.targets.proofs.escape.decode.Goals as goal

pub loop-i-preserved : goal.loop-i-preserved
loop-i-preserved c =
    let w = c.decode_at-byte.ensures in
    let room : c.loop-i.n < length c.loop-i.out = omega arith in (
      w.inside,
      omega arith,
      simp length-set c.loop-i.invariant.2,
      w.right,
      omega (arith, ap length w.one),
      c.loop-i.invariant.5 ∙ ap (over c.loop-i.out c.loop-i.n) w.one ∙ first_then _ _ _ _ room,
    )

pub returns : goal.returns
returns c =
    let z = decoded-none c.args.s.now c.loop-i.i c.loop-i-test.false in
    record {
      ends = omega (arith, ap length z);
      holds = sym (c.loop-i.invariant.5 ∙ ap (over c.loop-i.out c.loop-i.n) z ∙ over-nil c.loop-i.out c.loop-i.n);
    }
