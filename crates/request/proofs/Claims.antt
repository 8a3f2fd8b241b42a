-- Each claim of specs/Claims.antt, proved.
-- Assumes nothing.
use Rattle.request.specs.Claims.{RequestsTold, RequestsObey, NumbersHold}
use Rattle.request.proofs.Requests as Requests

pub requests-told : RequestsTold
requests-told = record { accepts = Requests.accepts; refuses = Requests.refuses }

pub requests-obey : RequestsObey
requests-obey = Requests.obeys

pub numbers-hold : NumbersHold
numbers-hold = Requests.numbers-hold
