use mathlib.Core.Path.{refl, sym}
use Prim.Native.Nat.{◌+◌, ◌-◌, ◌≤◌}
use lib.ListN.{length}
use Rattle.octets.proofs.Copies.{over-nil, chunk-then, and_again}
use Rattle.octets.proofs.Lists.{part, from}
use borrow.Author.Rules.{rules}
use native.Mathlib.Omega.{arith}
use Rattle.bulk.proofs.copy.put_chunks.Goals as goal

pub loop-i-init : goal.loop-i-init
loop-i-init c = (search rules, refl, record { ends = refl; holds = sym (over-nil _ _) })

pub loop-i-smaller : goal.loop-i-smaller
loop-i-smaller c = omega arith

pub loop-i-preserved : goal.loop-i-preserved
loop-i-preserved c =
    let a = c.args in
    let room : c.loop-i.i + 16 ≤ length a.src.now = omega (arith, c.requires.0) in
    (room, search rules, chunk-then a.src.now c.loop-i.i c.loop-i.invariant.2 c.requires.1 _ _ 16 room (rw (part a.src.now c.loop-i.i 16) at c.put_at_once.ensures))

pub returns : goal.returns
returns c =
    let a = c.args in
    and_again (length a.src.now - 16) c.loop-i.i c.loop-i.invariant.2 (omega arith) c.loop-i.invariant.0 c.requires.1 _ _ (rw (from a.src.now (length a.src.now - 16)) at c.put_at_once-2.ensures)
