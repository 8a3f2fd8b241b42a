use mathlib.Core.Path.{sym}
use Rattle.headers.proofs.Claims.{places-inside}
use Rattle.scgi.proofs.CheckSteps.{scgi-at}
use Rattle.scgi.proofs.check.has_scgi.Goals as goal

pub returns-in_default : goal.returns-in_default
returns-in_default c =
    let s = c.in_default.ensures in
    scgi-at c.args.stored.block.now c.requires _ (sym s)

pub of-requires : goal.of-requires
of-requires c =
    let s = c.in-Some.ensures in
    places-inside.of_one _ _ _ (sym s)

pub returns : goal.returns
returns c =
    let s = c.in-Some.ensures in
    rw (c.same.ensures, c.of.ensures.0) (scgi-at c.args.stored.block.now c.requires _ (sym s))
