-- Each claim of specs/Claims.antt, proved.
-- Assumes nothing.
use Rattle.targets.specs.Claims.{TargetsObey, TargetsTold, NumbersHold}
use Rattle.targets.proofs.TargetsAccepted as TargetsAccepted
use Rattle.targets.proofs.Numbers as Numbers

pub targets-obey : TargetsObey
targets-obey = TargetsAccepted.accepted

pub targets-told : TargetsTold
targets-told = record { accepts = TargetsAccepted.told; refuses = TargetsAccepted.refused-told }

pub numbers-hold : NumbersHold
numbers-hold = Numbers.numbers-hold
