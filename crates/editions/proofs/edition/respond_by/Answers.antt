use mathlib.Core.Path.{sym, ◌∙◌}
use Rattle.std.proofs.Common.{rules}
use Rattle.editions.proofs.Editions.{kept, not-kept, refusals-stay}
use Rattle.editions.proofs.edition.respond_by.Goals as goal

pub returns-in_err-answer : goal.returns-in_err-answer
returns-in_err-answer c =
    let x = c.args in
    rw (refusals-stay x.edition x.method.now x.s.now _ (sym (c.in_err-answer.ensures {u = tt}))) (search rules)

pub returns-then-not-is_allowed : goal.returns-then-not-is_allowed
returns-then-not-is_allowed c =
    let answers = sym (c.in_ok-answer.ensures {u = tt}) in
    sym (not-kept c.args.edition c.args.method.now c.args.s.now _ answers (sym c.is_allowed.ensures ∙ c.if-not-is_allowed.true))

pub returns : goal.returns
returns c =
    let answers = sym (c.in_ok-answer.ensures {u = tt}) in
    sym (kept c.args.edition c.args.method.now c.args.s.now _ answers (sym c.is_allowed.ensures ∙ c.if-not-is_allowed.false))
