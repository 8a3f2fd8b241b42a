use mathlib.Core.Path.{sym, ap, ◌∙◌}
use native.Mathlib.Omega.{arith}
use Rattle.octets.specs.Decimal.{number_of}
use Rattle.octets.specs.Outcome.{given}
use Rattle.octets.specs.Text.{bytes}
use Rattle.http_head.specs.Fields.{fields_at}
use Rattle.octets.proofs.Outcomes.{or_refused}
use Rattle.request.specs.Named.{lowered, values_of}
use Rattle.request.specs.Rules.{stated_outcome}
use Rattle.request.proofs.NamedFields.{FoundIn}
use Rattle.request.proofs.RuleSteps.{lengths, states-none, states-two, states-one, value-inside}
use Rattle.request.proofs.rules.content_length.Goals as goal
use Rattle.request.proofs.rules.content_length.Goals.{After-named-lengths}

-- the fields that were found
found :
    (c : After-named-lengths)
    → (let a = c.args.fields in
    FoundIn a.head.now (values_of (bytes "content-length") (lowered (fields_at a.head.now a.places.now))) c.named-lengths.result)
found c = lengths _ _ c.args.fields.inside c.named-lengths.ensures

pub returns-in_default : goal.returns-in_default
returns-in_default c = sym (states-none _ (found (goal.at.returns-in_default c).After-named-lengths) c.in_default.is)

pub returns-then-lengths-gt1 : goal.returns-then-lengths-gt1
returns-then-lengths-gt1 c = sym (states-two _ (found (goal.at.returns-then-lengths-gt1 c).After-named-lengths) (omega (arith, c.if-lengths-gt1.true)))

pub of-requires : goal.of-requires
of-requires c = value-inside _ c.in-Some.is (found (goal.at.of-requires c).After-named-lengths)

pub returns : goal.returns
returns c =
    ap stated_outcome c.ok_or.ensures.value ∙ or_refused c.read.result _
    ∙ ap (λ o. given o 17) (c.read.ensures ∙ ap number_of c.of.ensures.0)
    ∙ sym (states-one _ c.in-Some.is _ (found (goal.at.returns c).After-named-lengths) (omega (arith, c.if-lengths-gt1.false)))
