use native.Mathlib.Omega.{arith}
use mathlib.Core.List.{◌++◌}
use Prim.Native.Nat.{◌+◌, ◌≤◌}
use lib.ListN.{length, length-append}
use Rattle.octets.proofs.Copies.{and_then}
use Rattle.octets.proofs.Decimals.{decimal-short}
use Rattle.scgi.proofs.WriteSteps.{has_room, size_is}
use Rattle.scgi.specs.Grammar.{netstring}
use Rattle.scgi.proofs.write.write_parts.Goals as goal
use Rattle.scgi.proofs.write.write_parts.Goals.{After-digits, Else-out-size}

-- the size that is computed is small
small : (c : After-digits) → c.digits.result + 2 + length c.args.block.now + length c.args.body.now ≤ 1114112
small c = omega (arith, decimal-short (length c.args.block.now), c.digits.ensures, c.requires.0, c.requires.1)

-- the output has room for it
room : (c : Else-out-size) → length (netstring c.args.block.now ++ c.args.body.now) ≤ length c.args.out.now
room c = omega (arith, size_is c.args.block.now c.args.body.now, c.digits.ensures)

pub overflow_add-size : goal.overflow_add-size
overflow_add-size c = omega (arith, small c)

pub overflow_add-size-2 : goal.overflow_add-size-2
overflow_add-size-2 c = omega (arith, small c)

pub overflow_add-size-3 : goal.overflow_add-size-3
overflow_add-size-3 c = omega (arith, small c)

pub returns : goal.returns
returns c =
    let a = c.args in
    has_room (netstring a.block.now ++ a.body.now) a.out.now _ _ (room (goal.at.returns c).Else-out-size)
    (and_then c.put_netstring-at.ensures (omega (arith, room (goal.at.returns c).Else-out-size, length-append (netstring a.block.now) a.body.now)) _ _ _ c.put.ensures)
