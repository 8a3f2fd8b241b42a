-- What is held lies in the window.
use Rattle.std.proofs.Common.{◌≡◌, ◌≤◌, length}
use Rattle.spool.proofs.read_spool.Given as goal

abbrev pub invariant-loop : goal.invariant-loop
invariant-loop g l = (l.held ≤ 1114112) × (length l.window ≡ 1114112)
