-- `spool::empty_window` meets its contract.
-- Assumes nothing.
use Rattle.std.proofs.Common.{ℕ}
use Rattle.std.proofs.lemmas.List.{length-replicate}
use Rattle.spool.proofs.empty_window.Goals as goal

pub returns : goal.returns
returns c = length-replicate {0} {A = ℕ} 1114112 0
