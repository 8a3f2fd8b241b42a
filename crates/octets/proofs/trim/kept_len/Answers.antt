use mathlib.Core.Path.{sym, ap, ◌∙◌}
use native.Mathlib.Omega.{arith}
use lib.ListN.{drop}
use Rattle.octets.specs.Trim.{kept}
use Rattle.octets.proofs.Lists.{from}
use Rattle.octets.proofs.Trims.{last-blank, last-kept, kept-take}
use Rattle.octets.proofs.trim.kept_len.Goals as goal

pub loop-n-init : goal.loop-n-init
loop-n-init c = (omega arith, sym (ap kept (from c.args.s.now c.args.from)))

pub loop-n-preserved : goal.loop-n-preserved
loop-n-preserved c =
    (omega arith, c.loop-n.invariant.1 ∙ last-blank _ _ _ c.loop-n-test.true c.loop-n.invariant.0 (sym c.is_blank.ensures ∙ c.if-is_blank.true))

pub returns-else-is_blank : goal.returns-else-is_blank
returns-else-is_blank c =
    sym (c.loop-n.invariant.1 ∙ last-kept _ _ _ c.loop-n-test.true c.loop-n.invariant.0 (sym c.is_blank.ensures ∙ c.if-is_blank.false))

pub returns-after-loop-n : goal.returns-after-loop-n
returns-after-loop-n c =
    omega (arith, kept-take c.loop-n.n (drop c.args.from c.args.s.now), c.loop-n.invariant.1)
