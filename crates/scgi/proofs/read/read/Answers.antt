use mathlib.Core.Path.{sym}
use native.Mathlib.Omega.{arith}
use borrow.Author.Rules.{rules}
use Rattle.scgi.proofs.Checks.{check-bound}
use Rattle.scgi.proofs.Lengths.{length-bounds}
use Rattle.scgi.proofs.ReadSteps.{no_length, no_comma, other_comma, block_refused, short_body, whole_request}
use Rattle.scgi.proofs.read.read.Goals as goal

pub returns-in_err-len : goal.returns-in_err-len
returns-in_err-len c =
    let e = c.in_err-len.ensures in
    rw (no_length _ _ (sym e)) (search rules)

pub overflow_add-comma : goal.overflow_add-comma
overflow_add-comma c =
    let e = c.in_ok-len.ensures in
    omega (arith, length-bounds _ _ (sym e))

pub returns-then-s-comma : goal.returns-then-s-comma
returns-then-s-comma c =
    let e = c.in_ok-len.ensures in
    sym (no_comma _ _ (sym e) (omega (arith, c.if-s-comma.true)))

pub returns-then-s-comma-ne44 : goal.returns-then-s-comma-ne44
returns-then-s-comma-ne44 c =
    let e = c.in_ok-len.ensures in
    sym (other_comma _ _ (sym e) (omega (arith, c.if-s-comma.false)) c.if-s-comma-ne44.true)

pub returns-in_err-n : goal.returns-in_err-n
returns-in_err-n c =
    let e = c.in_ok-len.ensures in
    let k = c.in_err-n.ensures in
    rw (block_refused c.args.s.now _ (sym e) (omega (arith, c.if-s-comma.false)) c.if-s-comma-ne44.false _ (rw c.of.ensures.0 at (sym k))) (search rules)

pub overflow_add-used-2 : goal.overflow_add-used-2
overflow_add-used-2 c =
    let e = c.in_ok-n.ensures in
    omega (arith, check-bound _ _ (sym e))

pub returns-then-s-used : goal.returns-then-s-used
returns-then-s-used c =
    let e = c.in_ok-len.ensures in
    let k = c.in_ok-n.ensures in
    sym (short_body _ _ (sym e) (omega (arith, c.if-s-comma.false)) c.if-s-comma-ne44.false _ (rw c.of.ensures.0 at (sym k)) (omega (arith, c.if-s-used.true)))

pub returns : goal.returns
returns c =
    let e = c.in_ok-len.ensures in
    let k = c.in_ok-n.ensures in
    sym (whole_request _ _ (sym e) (omega (arith, c.if-s-comma.false)) c.if-s-comma-ne44.false _ (rw c.of.ensures.0 at (sym k)) (omega (arith, c.if-s-used.false)))
