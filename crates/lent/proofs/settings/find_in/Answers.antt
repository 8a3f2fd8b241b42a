use mathlib.Core.Path.{◌≡◌, sym}
use borrow.Author.Rules.{rules}
use Rattle.std.proofs.Common.{None}
use Rattle.lent.proofs.SettingSteps.{well-named, no-fact, fact-at}
use Rattle.lent.proofs.settings.find_in.Goals as goal

pub returns-in_err-seek : goal.returns-in_err-seek
returns-in_err-seek c =
    let e = c.in_err-seek.ensures in
    let z : c.from_residual.result ≡ None = search rules in
    rw z (no-fact _ (well-named _ _ c.args.block.held) _ (sym e))

pub returns : goal.returns
returns c =
    let e = c.in_ok-seek.ensures in
    fact-at _ (well-named _ _ c.args.block.held) _ _ (sym e) _ c.filled.ensures
