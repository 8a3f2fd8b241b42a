use native.Mathlib.Omega.{arith}
use lib.ListN.{length-replicate}
use Rattle.gateway.proofs.step.step_with.Goals as goal

pub whole_as_slice-step_by : goal.whole_as_slice-step_by
whole_as_slice-step_by g c = omega (arith, c.requires.1)

pub step_by-requires : goal.step_by-requires
step_by-requires g c = simp length-replicate c.requires.0
