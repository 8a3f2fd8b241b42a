use mathlib.Core.Path.{sym, ◌∙◌}
use Rattle.std.proofs.Common.{rules}
use Rattle.response.proofs.RespondSteps.{Got, got, no-head, ends-in, all_in, twice, judged-is}
use Rattle.response.proofs.respond.respond.Goals as goal
use Rattle.response.proofs.respond.respond.Goals.{In_ok-place}

found : (c : In_ok-place) → Got c.args.s.now c.in_ok-place.place
found c = got _ _ (sym c.head.ensures ∙ (c.in_ok-place.ensures {u = tt}).ok_part)

pub returns-in_err-place : goal.returns-in_err-place
returns-in_err-place c =
    let none = (c.in_err-place.ensures {u = tt}).ok_part in
    let is = rw none at (c.in_err-place.ensures {u = tt}).value in
    rw (no-head c.args.s.now (sym c.head.ensures ∙ none)) (search rules)

pub returns-then-not-each_once : goal.returns-then-not-each_once
returns-then-not-each_once c = sym (twice (found (goal.at.returns-then-not-each_once c).In_ok-place) (sym c.each_once.ensures ∙ c.if-not-each_once.true))

pub judge-requires : goal.judge-requires
judge-requires c = let k = found (goal.at.judge-requires c).In_ok-place in (ends-in k, all_in k)

pub returns : goal.returns
returns c = c.judge.ensures ∙ sym (judged-is (found (goal.at.returns c).In_ok-place) (sym c.each_once.ensures ∙ c.if-not-each_once.false))
