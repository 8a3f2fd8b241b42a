use mathlib.Core.Path.{sym}
use borrow.Author.Rules.{rules}
use native.Mathlib.Omega.{arith}
use Rattle.scgi.proofs.DigitRuns.{digits-within}
use Rattle.scgi.proofs.LengthDigits.{length-digits}
use Rattle.scgi.proofs.netstring.read_length.Goals as goal

pub returns-in_err-count : goal.returns-in_err-count
returns-in_err-count c =
    let e = c.in_err-count.ensures in
    rw (length-digits c.args.s.now, sym e) (search rules)

pub returns-then-not-colon : goal.returns-then-not-colon
returns-then-not-colon c =
    let d = c.in_ok-count.ensures in
    let k = c.if-not-colon.true in
    rw (length-digits c.args.s.now, sym d, k)

pub overflow_add-result : goal.overflow_add-result
overflow_add-result c =
    let w = digits-within _ 0 0 _ (omega arith) (omega arith) (sym c.in_ok-count.ensures) in
    omega (arith, w.few, w.small)

pub returns : goal.returns
returns c =
    let d = c.in_ok-count.ensures in
    let k = c.if-not-colon.false in
    rw (length-digits c.args.s.now, sym d, k)
