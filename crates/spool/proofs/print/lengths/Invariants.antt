-- Each line takes 21 bytes of the text at most.
use Rattle.std.proofs.Common.{◌*◌, ◌≤◌, ◌≡◌, length}
use Rattle.spool.proofs.print.lengths.Given as goal

abbrev pub invariant-loop-n : goal.invariant-loop-n
invariant-loop-n g l = (length l.text ≡ 21504) × (l.at ≤ 21 * l.n-index)
