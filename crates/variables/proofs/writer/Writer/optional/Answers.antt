use native.Mathlib.Omega.{arith}
use Rattle.variables.proofs.Writers.{appended_none}
use Rattle.variables.proofs.writer.Writer.optional.Goals as goal

pub returns-in_default : goal.returns-in_default
returns-in_default c = rw c.in_default.is (appended_none _ (omega (arith, c.requires)))
