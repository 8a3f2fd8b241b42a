-- Which number a target can give.
-- Assumes nothing.
use mathlib.Core.Path.{refl}
use Rattle.octets.specs.Scan.{count}
use Rattle.octets.proofs.Refusals.{not_refused, only-number, refuses-need}
use Rattle.targets.specs.Escape.{decoded}
use Rattle.targets.specs.Target.{path_of, raw_right, decoded_right, target_of}
use Rattle.targets.specs.Claims.{NumbersHold}

pub numbers-hold : NumbersHold
unfolding target_of
numbers-hold t n e =
    only-number n 14
    (refuses-need (raw_right t) 14 refl
    (refuses-need (decoded_right (count 47 (path_of t)) (decoded (path_of t))) 14 refl not_refused))
    e
