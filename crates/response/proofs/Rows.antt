-- The rows of the table: the one that fits gives the whole answer.
-- Assumes nothing.
use Prim.Native.Nat.{ℕ}
use mathlib.Core.Path.{◌≡◌, ap, ◌∙◌}
use mathlib.Core.Bool.{Bool, true, false, cond, not, ◌&&◌, false≢true}
use Rattle.std.proofs.Common.{None, Some}
use lib.Dec.{eqb}
use Rattle.octets.specs.Outcome.{refused, gives}
use Rattle.response.specs.Table.{
  Goes,
  nowhere,
  local,
  elsewhere,
  Script,
  local_location,
  other_location,
  no_location,
  no_status,
  status_redirecting,
  no_body,
  serves,
  redirects,
  redirects_with_document,
  has_document,
  status_or,
  answer_with,
  answer_for,
  table_of,
}
use Rattle.response.specs.Claims.{row_answer}
use Rattle.response.specs.declared.table.Action.TheVariants.{Serve, Redirect, RedirectDocument, Document}

-- the table over what its rows look at: where the Location leads, and whether there is one field, no body, no Status, a Content-Type and a
-- Status of a redirect with document
module _ {A : Type 0} (w x y z e : A) where
  abbrev rows : Goes → Bool → Bool → Bool → Bool → Bool → A
  rows g one nb ns c sr =
      cond (local_location g && one && nb) w
      (cond (other_location g && ns && not c && nb) x (cond (other_location g && c && sr) y (cond (no_location g && c) z e)))

  second : (g : Goes) (one nb ns c sr : Bool) → other_location g && ns && not c && nb ≡ true → rows g one nb ns c sr ≡ x
  second nowhere one nb ns c sr h = absurd (false≢true h)
  second local one nb ns c sr h = absurd (false≢true h)
  second elsewhere one nb ns c sr h = rw h

  third : (g : Goes) (one nb ns c sr : Bool) → other_location g && c && sr ≡ true → rows g one nb ns c sr ≡ y
  third nowhere one nb ns c sr h = absurd (false≢true h)
  third local one nb ns c sr h = absurd (false≢true h)
  third elsewhere one nb ns false sr h = absurd (false≢true h)
  third elsewhere one nb true true sr h = rw h
  third elsewhere one nb false true sr h = rw h

  fourth : (g : Goes) (one nb ns c sr : Bool) → no_location g && c ≡ true → rows g one nb ns c sr ≡ z
  fourth nowhere one nb ns c sr h = rw h
  fourth local one nb ns c sr h = absurd (false≢true h)
  fourth elsewhere one nb ns c sr h = absurd (false≢true h)

module _ (x : Script) where
  pub serve : serves x ≡ true → table_of x ≡ gives (row_answer x Serve 0)
  unfolding table_of
  serve h = rw h

  pub redirect : redirects x ≡ true → table_of x ≡ gives (row_answer x Redirect 302)
  unfolding table_of
  redirect =
      second (answer_for x Serve) (answer_for x Redirect) (answer_for x RedirectDocument) (answer_for x Document) (refused 25)
      x.goes (eqb x.fields 1) (no_body x) (no_status x.status) x.typed (status_redirecting x.status)

  pub redirect_document : (n : ℕ) → redirects_with_document x ≡ true → x.status ≡ Some n → table_of x ≡ gives (row_answer x RedirectDocument n)
  unfolding table_of
  redirect_document n h e =
      third (answer_for x Serve) (answer_for x Redirect) (answer_for x RedirectDocument) (answer_for x Document) (refused 25)
      x.goes (eqb x.fields 1) (no_body x) (no_status x.status) x.typed (status_redirecting x.status) h
      ∙ ap (λ t. answer_with x RedirectDocument (status_or 0 t)) e

  fits : has_document x ≡ true → table_of x ≡ answer_for x Document
  unfolding table_of
  fits =
      fourth (answer_for x Serve) (answer_for x Redirect) (answer_for x RedirectDocument) (answer_for x Document) (refused 25)
      x.goes (eqb x.fields 1) (no_body x) (no_status x.status) x.typed (status_redirecting x.status)

  pub document_stated : (n : ℕ) → has_document x ≡ true → x.status ≡ Some n → table_of x ≡ gives (row_answer x Document n)
  document_stated n h e = fits h ∙ ap (λ t. answer_with x Document (status_or 200 t)) e

  pub document_200 : has_document x ≡ true → x.status ≡ None → table_of x ≡ gives (row_answer x Document 200)
  document_200 h e = fits h ∙ ap (λ t. answer_with x Document (status_or 200 t)) e
