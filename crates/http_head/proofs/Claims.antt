-- Each claim of specs/Claims.antt, proved.
-- Assumes nothing.
use Rattle.http_head.specs.Claims.{
  HeadsHold,
  FirstLineStands,
  LineIsMade,
  LinesTold,
  FieldsHaveNumbers,
  FieldsObey,
  FieldsTold,
  HeadHolds,
  FieldsInTurn,
  NumbersHold,
}
use Rattle.http_head.proofs.Heads as Heads
use Rattle.http_head.proofs.LineCuts as LineCuts
use Rattle.http_head.proofs.Requests as Requests
use Rattle.http_head.proofs.FieldLines as FieldLines
use Rattle.http_head.proofs.FieldPlaces as FieldPlaces
use Rattle.http_head.proofs.Sizes as Sizes
use Rattle.http_head.proofs.Numbers as Numbers

pub heads-hold : HeadsHold
heads-hold = record { within = Heads.head-within; keeps = Heads.head-keeps; cut = Heads.head-cut }

pub first-line-stands : FirstLineStands
first-line-stands = record { within = LineCuts.line-le; first = LineCuts.first-line }

pub line-is-made : LineIsMade
line-is-made line f = (Requests.line_read line f, Requests.line_made line f)

pub lines-told : LinesTold
lines-told = record { accepts = Requests.line-stands; refuses = Requests.line_refused }

pub fields-have-numbers : FieldsHaveNumbers
fields-have-numbers = FieldLines.field-stands

pub fields_obey : FieldsObey
fields_obey = record { clean = FieldLines.fields-clean; few = FieldPlaces.fields_few }

pub fields_told : FieldsTold
fields_told = record { accepts = FieldPlaces.stored-stand; refuses = FieldPlaces.stored_refused }

pub head-holds : HeadHolds
head-holds = Sizes.head-holds

pub fields-in-turn : FieldsInTurn
fields-in-turn = record { next = FieldPlaces.fields-next; end = FieldPlaces.fields-end }

pub numbers-hold : NumbersHold
numbers-hold = Numbers.numbers-hold
