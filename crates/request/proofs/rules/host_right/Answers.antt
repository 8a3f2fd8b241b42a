use Rattle.request.proofs.RuleSteps.{hosts, host-one, host-few}
use Rattle.request.proofs.rules.host_right.Goals as goal

pub returns-then-minor-eq1 : goal.returns-then-minor-eq1
returns-then-minor-eq1 c = host-one _ (hosts _ _ c.args.fields.inside c.named-hosts.ensures) _ c.if-minor-eq1.true

pub returns : goal.returns
returns c = host-few _ (hosts _ _ c.args.fields.inside c.named-hosts.ensures) _ c.if-minor-eq1.false
