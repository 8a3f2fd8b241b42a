use mathlib.Core.Bool.{true}
use mathlib.Core.Path.{◌≡◌, sym, ◌∙◌}
use borrow.Author.Rules.{rules}
use Rattle.octets.specs.Text.{bytes}
use Rattle.octets.specs.Outcome.{gives}
use Rattle.http_head.specs.Fields.{fields_at}
use Rattle.http_head.specs.RequestLine.{version_text}
use Rattle.request.specs.Named.{lowered, values_of}
use Rattle.request.specs.Request.{host_right, stated_by}
use Rattle.request.proofs.RuleSteps.{bad-host, unstated, two-types, is-coded, passes, types, codings}
use Rattle.request.proofs.rules.check_rules.Goals as goal
use Rattle.request.proofs.rules.check_rules.Goals.{Else-not-host_right, In_ok-body}

-- Host is right, where the test was passed
host : (c : Else-not-host_right) → (let a = c.args in host_right (version_text a.minor) (lowered (fields_at a.fields.head.now a.fields.places.now)) ≡ true)
host c = sym c.host_right.ensures ∙ c.if-not-host_right.false

-- the stated length
stated :
    (c : In_ok-body)
    → (let a = c.args.fields in
    stated_by (values_of (bytes "content-length") (lowered (fields_at a.head.now a.places.now))) ≡ gives c.in_ok-body.body)
stated c =
    let e = c.in_ok-body.ensures in
    sym e

pub returns-then-not-host_right : goal.returns-then-not-host_right
returns-then-not-host_right c = bad-host _ _ _ (sym c.host_right.ensures ∙ c.if-not-host_right.true)

pub returns-in_err-body : goal.returns-in_err-body
returns-in_err-body c =
    let e = c.in_err-body.ensures in
    rw (sym (unstated _ _ _ (host (goal.at.returns-in_err-body c).Else-not-host_right) _ (sym e))) (search rules)

pub returns-then-types-gt1 : goal.returns-then-types-gt1
returns-then-types-gt1 c =
    two-types _ _ _ (host (goal.at.returns-then-types-gt1 c).Else-not-host_right) _ (stated (goal.at.returns-then-types-gt1 c).In_ok-body) (types _ _ c.args.fields.inside c.named-types.ensures) c.if-types-gt1.true

pub returns-then-codings-gt0 : goal.returns-then-codings-gt0
returns-then-codings-gt0 c =
    let i = c.args.fields.inside in
    is-coded _ _ _ (host (goal.at.returns-then-codings-gt0 c).Else-not-host_right) _ (stated (goal.at.returns-then-codings-gt0 c).In_ok-body) (types _ _ i c.named-types.ensures) c.if-types-gt1.false (codings _ _ i c.named-codings.ensures) c.if-codings-gt0.true

pub returns : goal.returns
returns c =
    let i = c.args.fields.inside in
    passes _ _ _ (host (goal.at.returns c).Else-not-host_right) _ (stated (goal.at.returns c).In_ok-body) (types _ _ i c.named-types.ensures) c.if-types-gt1.false (codings _ _ i c.named-codings.ensures) c.if-codings-gt0.false c.named-types.ensures
