-- Each claim of specs/Claims.antt, proved. Crates above cite this file and no other of this folder.
-- Assumes nothing.
use Rattle.editions.specs.Claims.{RfcIsAsBefore, DraftExactly, RefusalsStay, NumbersHold, StreamSettles}
use Rattle.editions.proofs.Editions as Editions

pub rfc-is-as-before : RfcIsAsBefore
rfc-is-as-before = Editions.rfc-is-as-before

pub draft-exactly : DraftExactly
draft-exactly = Editions.draft-exactly

pub refusals-stay : RefusalsStay
refusals-stay = Editions.refusals-stay

pub numbers-hold : NumbersHold
numbers-hold = Editions.numbers-hold

pub stream-settles : StreamSettles
stream-settles = Editions.stream-settles
