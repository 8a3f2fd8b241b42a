use mathlib.Core.Path.{sym, ap, ◌∙◌}
use Rattle.std.proofs.Common.{Some}
use Rattle.lent.proofs.SettingSteps.{value_inside, no-port-value, other-port, is-port}
use Rattle.lent.specs.Places.{ValueFound}
use Rattle.lent.specs.Settings.{is_port}
use Rattle.octets.specs.Text.{bytes}
use Rattle.lent.proofs.settings.find_port.Goals as goal
use Rattle.lent.proofs.settings.find_port.Goals.{In_ok-port}

-- the value that was found
found : (c : In_ok-port) → ValueFound c.args.facts.block.now c.args.site.block.now (bytes "SERVER_PORT") (Some c.in_ok-port.port)
found c = c.in_ok-port.ensures {u = tt}

pub returns-in_err-port : goal.returns-in_err-port
returns-in_err-port c =
    let e = c.in_err-port.ensures in
    rw c.from_residual.ensures (no-port-value _ _ e)

pub value-requires : goal.value-requires
value-requires c = value_inside _ _ _ _ (found (goal.at.value-requires c).In_ok-port).place

pub returns-then-not-is_port : goal.returns-then-not-is_port
returns-then-not-is_port c =
    other-port _ _ _ (found (goal.at.returns-then-not-is_port c).In_ok-port) (sym (sym (c.if-not-is_port.true) ∙ c.is_port.ensures ∙ ap is_port c.value.ensures.0))

pub returns : goal.returns
returns c =
    is-port _ _ _ (found (goal.at.returns c).In_ok-port) (sym (sym (c.if-not-is_port.false) ∙ c.is_port.ensures ∙ ap is_port c.value.ensures.0))
