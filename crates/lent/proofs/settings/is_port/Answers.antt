use mathlib.Core.Path.{◌≡◌, sym, ap}
use mathlib.Core.Bool.{false}
use mathlib.Core.List.{[], ◌∷◌}
use borrow.Author.Rules.{rules}
use Rattle.mounts.specs.Mounts.{begins}
use Rattle.lent.specs.Settings.{is_port, port_number}
use Rattle.lent.proofs.settings.is_port.Goals as goal
use Rattle.lent.proofs.settings.is_port.Goals.{Then-not-starts_with}

-- no leading zero
no-zero : (c : Then-not-starts_with) → begins (48 ∷ []) c.args.v.now ≡ false
unfolding begins
no-zero c = search rules

pub returns-then-not-starts_with : goal.returns-then-not-starts_with
returns-then-not-starts_with c =
    let p : is_port c.args.v.now ≡ port_number c.read.result = rw (no-zero (goal.at.returns-then-not-starts_with c).Then-not-starts_with) (ap port_number (sym c.read.ensures)) in
    rw p (search rules)

pub returns-else-not-starts_with : goal.returns-else-not-starts_with
unfolding begins
returns-else-not-starts_with c = search rules
