use mathlib.Core.Path.{sym, ap, ◌∙◌}
use native.Mathlib.Omega.{arith}
use borrow.Author.Rules.{rules}
use Rattle.octets.specs.Outcome.{gives}
use Rattle.headers.proofs.Claims.{names-held}
use Rattle.scgi.proofs.CheckSteps.{no-count, equal-names, other-names}
use Rattle.scgi.proofs.check.check_block.Goals as goal

pub returns-in_err-n : goal.returns-in_err-n
returns-in_err-n c =
    let f = c.in_err-n.ensures in
    rw (no-count _ _ (sym f.count)) (search rules)

pub new-stored-requires : goal.new-stored-requires
new-stored-requires c =
    let f = c.in_ok-n.ensures in
    names-held _ _ _ _ _ f (sym f.count) (omega (arith, c.if-n-gt32.false))

pub returns-then-not-differ : goal.returns-then-not-differ
returns-then-not-differ c =
    let f = c.in_ok-n.ensures in
    let d = rw c.new-stored.ensures.block at c.differ.ensures in
    sym (equal-names _ _ (sym f.count) (omega (arith, c.if-n-gt32.false)) (d ∙ ap gives c.if-not-differ.true))

pub returns : goal.returns
returns c =
    let f = c.in_ok-n.ensures in
    let d = rw c.new-stored.ensures.block at c.differ.ensures in
    let r = rw c.new-stored.ensures.block at c.check_rest.ensures in
    r ∙ sym (other-names _ _ (sym f.count) (omega (arith, c.if-n-gt32.false)) (d ∙ ap gives c.if-not-differ.false))
