-- Which numbers a response is refused with: 24 of the head, and 25 of what is asked then.
-- Assumes nothing.
use Prim.Native.Nat.{ℕ}
use mathlib.Core.Path.{refl, sym, ap, ◌∙◌}
use mathlib.Core.Bool.{Bool, true, false, cond, ◌&&◌}
use mathlib.Core.List.{List, [], ◌∷◌}
use Rattle.std.proofs.Common.{Option, None, Some}
use lib.ListN.{take}
use Rattle.octets.specs.Text.{bytes}
use Rattle.octets.specs.Outcome.{Outcome, refused, then}
use Rattle.octets.specs.Scan.{all_of}
use Rattle.octets.proofs.Refusals.{Refuses, with_number, not_refused, number-of, only-number, refuses-within, refuses-then, refuses-need, refuses-given}
use Rattle.response.specs.Head.{Value, Head, head_with, lines_at, head_of}
use Rattle.response.specs.Status.{status_of, stated_in}
use Rattle.response.specs.Location.{filled, location_right}
use Rattle.response.specs.Table.{Script, serves, redirects, redirects_with_document, has_document, answer_for, table_of}
use Rattle.response.specs.Response.{named, each_once, first_value, judged_head, response_of}
use Rattle.response.specs.Claims.{NumbersHold, ThenIs25}
use Rattle.response.specs.declared.table.Action.TheVariants.{Serve, Redirect, RedirectDocument, Document}

table-25 : (x : Script) → Refuses (25 ∷ []) (table_of x)
unfolding table_of
table-25 x = by (serves x) (redirects x) (redirects_with_document x) (has_document x)
  where
    by :
        (p q r d : Bool)
        → Refuses (25 ∷ [])
        (cond p (answer_for x Serve)
        (cond q (answer_for x Redirect) (cond r (answer_for x RedirectDocument) (cond d (answer_for x Document) (refused 25)))))
    by true q r d = not_refused
    by false true r d = not_refused
    by false false true d = not_refused
    by false false false true = not_refused
    by false false false false = with_number refl

stated-25 : (o : Option Value) → Refuses (25 ∷ []) (stated_in o)
stated-25 None = not_refused
stated-25 (Some v) = refuses-then (refuses-given (status_of v.bytes) 25 refl) (λ n. not_refused)

judged-25 : (s : List ℕ) (h : Head) → Refuses (25 ∷ []) (judged_head s h)
judged-25 s h =
    let fs = h.fields in
    let l = first_value (named (bytes "location") fs) in
    refuses-need (each_once fs) 25 refl
    (refuses-need (filled (first_value (named (bytes "content-type") fs))) 25 refl
    (refuses-need (filled l && location_right l) 25 refl
    (refuses-then (stated-25 (first_value (named (bytes "status") fs))) (λ t. table-25 _))))

pub then-is-25 : ThenIs25
unfolding response_of
then-is-25 s h n p e = only-number n 25 (judged-25 s h) (sym (ap (λ (o : Outcome Head). then o (judged_head s)) p) ∙ e)

pub numbers-hold : NumbersHold
unfolding response_of head_of all_of
numbers-hold s n e =
    number-of {ns = 24 ∷ 25 ∷ []} n
    (refuses-then (refuses-given (head_with 64 (lines_at 0 (take 8192 s))) 24 refl)
    (λ h. refuses-within (25 ∷ []) refl (judged_head s h) (λ m. number-of m (judged-25 s h))))
    e
