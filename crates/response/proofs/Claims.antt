-- Each claim of specs/Claims.antt, proved. Crates above cite this file and no other of this folder.
-- Assumes nothing.
use Rattle.response.specs.Claims.{TableHolds, NumbersHold, ThenIs25, StatusHolds, DocumentIs200, ServedIsTarget, ActionTellsLocation, LocationStands, PlacesWithin, StreamSettles}
use Rattle.response.proofs.Answers as Answers
use Rattle.response.proofs.Numbers as Numbers
use Rattle.response.proofs.Rows as Rows
use Rattle.response.proofs.Streams as Streams

pub table-holds : TableHolds
table-holds =
    record {
      exclude = Answers.exclude;
      serve = Rows.serve;
      redirect = Rows.redirect;
      redirect_document = Rows.redirect_document;
      document_stated = Rows.document_stated;
      document_200 = Rows.document_200;
      else_25 = Answers.no_row;
      row_fits = λ x a e. (Answers.in_row x a e).fits;
    }

pub numbers-hold : NumbersHold
numbers-hold = Numbers.numbers-hold

pub then-is-25 : ThenIs25
then-is-25 = Numbers.then-is-25

pub status-holds : StatusHolds
status-holds =
    record {
      fits = λ s a e. Answers.status-fits s a (Answers.answered s a e);
      range = λ s a e. Answers.fits-range a.action a.status (Answers.status-fits s a (Answers.answered s a e));
    }

pub document-is-200 : DocumentIs200
document-is-200 s h a p q e act = Answers.no-status s h a p q (Answers.answered s a e) act

pub served-is-target : ServedIsTarget
served-is-target s a e act = Answers.served s a (Answers.answered s a e) act

pub action-tells-location : ActionTellsLocation
action-tells-location s h a p e = Answers.tells-location s h a p (Answers.answered s a e)

pub location-stands : LocationStands
location-stands s h v a p q e = Answers.location-stands s h v a p q (Answers.answered s a e)

pub places-within : PlacesWithin
places-within s a e = Answers.places s a (Answers.answered s a e)

pub stream-settles : StreamSettles
stream-settles = Streams.stream-settles
