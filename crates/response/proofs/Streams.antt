-- The first 8,193 bytes of an output settle all of its answer but the length of the body.
-- Assumes nothing.
use Prim.Native.Nat.{ℕ, ◌-◌, ◌≤◌}
use mathlib.Core.Path.{◌≡◌, refl, sym, ap, ◌∙◌}
use mathlib.Core.Bool.{Bool, true, false, cond, not, ◌&&◌}
use mathlib.Core.List.{List}
use Rattle.std.proofs.Common.{Option}
use native.Mathlib.Omega.{arith}
use lib.Dec.{eqb}
use lib.ListN.{length, take, length-take}
use lib.Seq.{take-take}
use borrow.Author.Tests.{eq-eqb, ne_eqb, eqb-true, eqb-false}
use Rattle.octets.specs.Text.{bytes}
use Rattle.octets.specs.Outcome.{Outcome, refused, gives, then, need}
use Rattle.response.specs.Head.{Head, head_of}
use Rattle.response.specs.Status.{stated_in}
use Rattle.response.specs.Location.{filled, location_right}
use Rattle.response.specs.Table.{
  Goes,
  local_location,
  other_location,
  no_location,
  no_status,
  status_redirecting,
  script,
  answer_for,
  table_of,
  goes_to,
  start_or0,
  length_or0,
}
use Rattle.response.specs.Response.{named, each_once, first_value, is_there, judged_head, response_of}
use Rattle.response.specs.Claims.{settled, settling, StreamSettles}
use Rattle.response.specs.declared.table.Answer.{Answer}
use Rattle.response.specs.declared.table.Action.TheVariants.{Serve, Redirect, RedirectDocument, Document}
use Rattle.response.proofs.Lies.{front-in}

-- steps before that do not look at the body
need-settles : (t : Bool) (n : ℕ) (o p : Outcome Answer) → settled o ≡ settled p → settled (need t n o) ≡ settled (need t n p)
need-settles true n o p e = e
need-settles false n o p e = refl

then-settles :
    {A : Type 0} (o : Outcome A) (f g : A → Outcome Answer) → ((a : A) → o ≡ gives a → settled (f a) ≡ settled (g a)) → settled (then o f) ≡ settled (then o g)
then-settles (refused n) f g h = refl
then-settles (gives a) f g h = h a refl

-- the table looks at the body's length only for whether it is 0
table-settles :
    (g : Goes) (a l : ℕ) (t : Option ℕ) (c : Bool) (n b r r' : ℕ) → eqb r 0 ≡ eqb r' 0
    → settled (table_of (script g a l t c n b r)) ≡ settled (table_of (script g a l t c n b r'))
unfolding table_of
table-settles g a l t c n b r r' e =
    rw e
    (by (local_location g && eqb n 1 && eqb r' 0) (other_location g && no_status t && not c && eqb r' 0) (other_location g && c && status_redirecting t) (no_location g && c))
  where
    by :
        (p q x d : Bool)
        → (let y = script g a l t c n b r in
        let z = script g a l t c n b r' in
        settled (cond p (answer_for y Serve) (cond q (answer_for y Redirect) (cond x (answer_for y RedirectDocument) (cond d (answer_for y Document) (refused 25)))))
        ≡ settled (cond p (answer_for z Serve) (cond q (answer_for z Redirect) (cond x (answer_for z RedirectDocument) (cond d (answer_for z Document) (refused 25))))))
    by true q x d = refl
    by false true x d = refl
    by false false true d = refl
    by false false false true = refl
    by false false false false = refl

-- a head ends within 8,192 bytes, so the first 8,193 tell whether a byte stands behind it
module _ (s : List ℕ) where
  abbrev front : List ℕ
  front = take settling s

  body_there : (k : ℕ) → k ≤ 8192 → eqb (length s - k) 0 ≡ eqb (length front - k) 0
  body_there k h = by (eqb (length front - k) 0) refl
    where
      by : (t : Bool) → eqb (length front - k) 0 ≡ t → eqb (length s - k) 0 ≡ t
      by true e = eq-eqb (length s - k) 0 (omega (arith, eqb-true (length front - k) 0 e, length-take settling s))
      by false e = ne_eqb (length s - k) 0 (λ z. eqb-false (length front - k) 0 e (omega (arith, length-take settling s)))

  same_head : head_of front ≡ head_of s
  unfolding head_of
  same_head = rw (take-take 8192 settling s (omega arith))

  front-settles : settled (response_of s) ≡ settled (response_of front)
  unfolding response_of
  front-settles =
      then-settles (head_of s) (judged_head s) (judged_head front)
      (λ h e.
      let fs = h.fields in
      let c = first_value (named (bytes "content-type") fs) in
      let l = first_value (named (bytes "location") fs) in
      let t = first_value (named (bytes "status") fs) in
      need-settles (each_once fs) 25 _ _
      (need-settles (filled c) 25 _ _
      (need-settles (filled l && location_right l) 25 _ _
      (then-settles (stated_in t) _ _
      (λ x p.
      table-settles (goes_to l) (start_or0 l) (length_or0 l) x (is_there c) (length fs) h.ends (length s - h.ends) (length front - h.ends)
      (body_there h.ends (omega (arith, (front-in s h e).ends, length-take 8192 s))))))))
      ∙ ap (λ (o : Outcome Head). settled (then o (judged_head front))) (sym same_head)

pub stream-settles : StreamSettles
stream-settles s t e = front-settles s ∙ ap (λ (x : List ℕ). settled (response_of x)) e ∙ sym (front-settles t)
