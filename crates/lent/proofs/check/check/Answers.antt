use mathlib.Core.Path.{◌≡◌}
use native.Mathlib.Omega.{arith}
use borrow.Author.Rules.{rules}
use Rattle.lent.proofs.CheckSteps.{refusal, always-room, done}
use Rattle.lent.proofs.check.check.Goals as goal

pub returns-in-Ok : goal.returns-in-Ok
returns-in-Ok c = (rw c.in-Ok.is at c.check_with.ensures).answer.1

pub returns-in-Err-Breach : goal.returns-in-Err-Breach
returns-in-Err-Breach c =
    let e = c.in-Err-Breach.ensures in
    (rw c.in-Err-Breach.field-0-is at e).answer.1

pub returns-in-Err-Full : goal.returns-in-Err-Full
returns-in-Err-Full c =
    let z : c.or.result ≡ refusal c.check_with-in-Err-Full.result = search rules in
    let f = c.check_with-in-Err-Full.ensures in
    done _ _ _ _ _ f (λ e. always-room _ _ _ _ (rw e at f) (omega arith)) _ z
