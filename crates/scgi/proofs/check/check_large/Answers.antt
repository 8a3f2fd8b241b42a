use mathlib.Core.Path.{sym, ap, ◌∙◌}
use native.Mathlib.Omega.{arith}
use Rattle.octets.specs.Outcome.{gives}
use Rattle.headers.proofs.Claims.{names-held}
use Rattle.scgi.proofs.CheckSteps.{too_many, equal-names, other-names}
use Rattle.scgi.proofs.check.check_large.Goals as goal

pub returns-then-n-gt128 : goal.returns-then-n-gt128
returns-then-n-gt128 c = sym (too_many _ _ c.requires c.if-n-gt128.true)

pub new-stored-requires : goal.new-stored-requires
new-stored-requires c = names-held _ _ _ _ _ c.store_names.ensures c.requires (omega (arith, c.if-n-gt128.false))

pub returns-then-not-differ_by_length : goal.returns-then-not-differ_by_length
returns-then-not-differ_by_length c =
    let d = rw c.new-stored.ensures.block at c.differ_by_length.ensures in
    sym (equal-names _ _ c.requires c.if-n-gt128.false (d ∙ ap gives c.if-not-differ_by_length.true))

pub returns : goal.returns
returns c =
    let d = rw c.new-stored.ensures.block at c.differ_by_length.ensures in
    let r = rw c.new-stored.ensures.block at c.check_rest.ensures in
    r ∙ sym (other-names _ _ c.requires c.if-n-gt128.false (d ∙ ap gives c.if-not-differ_by_length.false))
