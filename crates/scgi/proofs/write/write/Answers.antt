use mathlib.Core.Path.{sym}
use borrow.Author.Rules.{rules}
use native.Mathlib.Omega.{arith}
use Rattle.scgi.proofs.Checks.{check-bound}
use Rattle.scgi.proofs.WriteSteps.{left_alone, too_large, block_refused, other_length, only-room}
use Rattle.scgi.proofs.write.write.Goals as goal

pub returns-then-block-gt16384 : goal.returns-then-block-gt16384
returns-then-block-gt16384 c =
    let a = c.args in
    left_alone a.block.now a.body.now a.out.now _ (too_large a.block.now a.body.now a.out.now c.if-block-gt16384.true)

pub returns-in_err-n : goal.returns-in_err-n
returns-in_err-n c =
    let a = c.args in
    let e = c.in_err-n.ensures in
    search (rules, left_alone a.block.now a.body.now a.out.now _ (block_refused a.block.now a.body.now a.out.now c.if-block-gt16384.false _ (sym e)))

pub returns-then-body-n : goal.returns-then-body-n
returns-then-body-n c =
    let a = c.args in
    let e = c.in_ok-n.ensures in
    left_alone a.block.now a.body.now a.out.now _ (other_length a.block.now a.body.now a.out.now c.if-block-gt16384.false _ (sym e) c.if-body-n.true)

pub write_parts-requires : goal.write_parts-requires
write_parts-requires c =
    let e = c.in_ok-n.ensures in
    (omega (arith, c.if-block-gt16384.false), omega (arith, check-bound _ _ (sym e), c.if-body-n.false))

pub returns : goal.returns
returns c =
    let a = c.args in
    let e = c.in_ok-n.ensures in
    rw (only-room a.block.now a.body.now a.out.now c.if-block-gt16384.false _ (sym e) c.if-body-n.false) c.write_parts.ensures
