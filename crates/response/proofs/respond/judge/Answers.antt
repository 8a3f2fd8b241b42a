use mathlib.Core.Path.{◌≡◌, sym, ap, ◌∙◌}
use mathlib.Core.Bool.{Bool, true, ◌&&◌}
use Rattle.std.proofs.Common.{rules}
use Rattle.response.specs.Seen.{value_at}
use Rattle.response.specs.Location.{filled, location_right}
use Rattle.response.specs.Table.{script_of, table_of}
use Rattle.response.proofs.Seens.{filled-mark, there-mark}
use Rattle.response.proofs.RespondSteps.{bad-status, in_table}
use Rattle.response.proofs.respond.judge.Goals as goal
use Rattle.response.proofs.respond.judge.Goals.{Else-not-location_right}

content-there : (c : Else-not-location_right) → (let x = c.args in filled (value_at x.s.now x.place.seen.content) ≡ true)
content-there c =
    filled-mark c.args.s.now c.args.place.seen.content c.requires.1.content ∙ sym c.is_filled.ensures ∙ c.if-not-is_filled.false

location-there :
    (c : Else-not-location_right)
    → (let x = c.args in
    filled (value_at x.s.now x.place.seen.location) && location_right (value_at x.s.now x.place.seen.location) ≡ true)
location-there c = sym c.location_right.ensures ∙ c.if-not-location_right.false

pub returns-in_err-code : goal.returns-in_err-code
returns-in_err-code c =
    let x = c.args in
    let k = (goal.at.returns-in_err-code c).Else-not-location_right in
    rw (bad-status x.s.now x.place.end x.place.fields (value_at x.s.now x.place.seen.content) (value_at x.s.now x.place.seen.location) (value_at x.s.now x.place.seen.status) (content-there k) (location-there k) _ (sym (c.in_err-code.ensures {u = tt})))
    (search rules)

pub returns : goal.returns
returns c =
    let x = c.args in
    let k = (goal.at.returns c).Else-not-location_right in
    c.table_row.ensures
    ∙ ap (λ (y : Bool). table_of (script_of x.s.now x.place.end x.place.fields y (value_at x.s.now x.place.seen.location) c.in_ok-code.code)) (c.is_once.ensures ∙ sym (there-mark x.s.now x.place.seen.content))
    ∙ sym (in_table x.s.now x.place.end x.place.fields (value_at x.s.now x.place.seen.content) (value_at x.s.now x.place.seen.location) (value_at x.s.now x.place.seen.status) (content-there k) (location-there k) _ (sym (c.in_ok-code.ensures {u = tt})))
