-- The two editions beside 01's reading: what is accepted, which numbers are given, and what the front of an output settles.
-- Assumes nothing.
use Prim.Native.Nat.{ℕ}
use mathlib.Core.Path.{◌≡◌, refl, sym, ap, ◌∙◌}
use mathlib.Core.Bool.{Bool, true, false, not, ◌||◌}
use mathlib.Core.Logic.{◌⊎◌, inl, inr}
use mathlib.Core.List.{List, [], ◌∷◌}
use Rattle.octets.specs.Outcome.{Outcome, refused, gives, then, need}
use Rattle.octets.specs.Scan.{all_of}
use Rattle.octets.proofs.Bools.{or-true}
use Rattle.octets.proofs.Outcomes.{then-gives, need-gives}
use Rattle.octets.proofs.Refusals.{number-of, refuses-within, refuses-then, refuses-need, not_refused}
use Rattle.response.specs.Head.{Head, head_of}
use Rattle.response.specs.Table.{has_location}
use Rattle.response.specs.declared.table.Answer.{Answer}
use Rattle.response.specs.Response.{judged_head, response_of}
use Rattle.response.specs.Claims.{Settled, settled}
use Rattle.response.specs.declared.table.Action.{Action}
use Rattle.response.proofs.Claims as Response
use Rattle.editions.specs.Edition.{may_redirect, located, allowed, response_by}
use Rattle.editions.specs.Claims.{RfcIsAsBefore, located_in, DraftExactly, RefusalsStay, NumbersHold, StreamSettles}
use Rattle.editions.specs.declared.edition.Edition.{Edition}
use Rattle.editions.specs.declared.edition.Edition.TheVariants.{Rfc, Draft}

pub rfc-is-as-before : RfcIsAsBefore
unfolding response_by response_of
rfc-is-as-before m s = refl

-- An answer's action tells whether there is a Location, so the edition can judge the answer.

module _ (e : Edition) (m : List ℕ) where
  abbrev judge : Answer → Outcome Answer
  judge a = need (allowed e m (has_location a.action)) 25 (gives a)

  either-25 : (t : Bool) → need {A = Answer} t 25 (refused 25) ≡ refused 25
  either-25 true = refl
  either-25 false = refl

  -- o is what 01 makes of the head h
  judged : (s : List ℕ) (h : Head) (o : Outcome Answer) → head_of s ≡ gives h → response_of s ≡ o → need (allowed e m (located h)) 25 o ≡ then o judge
  judged s h (refused n) p q =
      let z : n ≡ 25 = Response.then-is-25 s h n p q in
      rw z (either-25 (allowed e m (located h)))
  judged s h (gives a) p q = ap (λ (l : Bool). need (allowed e m l) 25 (gives a)) (Response.action-tells-location s h a p q)

  by-action : (s : List ℕ) → response_by e m s ≡ then (response_of s) judge
  unfolding response_by response_of
  by-action s = by (head_of s) refl
    where
      by : (o : Outcome Head) → head_of s ≡ o → then o (λ h. need (allowed e m (located h)) 25 (judged_head s h)) ≡ then (then o (judged_head s)) judge
      by (refused n) p = refl
      by (gives h) p = judged s h (judged_head s h) p (ap (λ (o : Outcome Head). then o (judged_head s)) p)

  -- where 01 gives an answer
  module _ (s : List ℕ) (a : Answer) (is : response_of s ≡ gives a) where
    judged-is : response_by e m s ≡ judge a
    judged-is = by-action s ∙ ap (λ (o : Outcome Answer). then o judge) is

    pub kept : allowed e m (has_location a.action) ≡ true → response_by e m s ≡ gives a
    kept t = judged-is ∙ rw t

    pub not-kept : allowed e m (has_location a.action) ≡ false → response_by e m s ≡ refused 25
    not-kept t = judged-is ∙ rw t

pub refusals-stay : RefusalsStay
refusals-stay e m s n q = by-action e m s ∙ ap (λ (o : Outcome Answer). then o (judge e m)) q

pub numbers-hold : NumbersHold
unfolding all_of
numbers-hold e m s n q =
    let two : List ℕ = 24 ∷ 25 ∷ [] in
    number-of {ns = two} n
    (refuses-then (refuses-within {ns = two} two refl (response_of s) (Response.numbers-hold s))
    (λ a. refuses-need (allowed e m (has_location a.action)) 25 refl not_refused))
    (sym (by-action e m s) ∙ q)

-- The draft beside RFC 3875.

module _ (m s : List ℕ) (a : Answer) where
  abbrev Free : Type 0
  Free = (located_in (head_of s) ≡ false) ⊎ (may_redirect m ≡ true)

  to-rfc : response_by Draft m s ≡ gives a → (response_by Rfc m s ≡ gives a) × Free
  unfolding response_by
  to-rfc q =
      let g = then-gives (head_of s) (λ h. need (allowed Draft m (located h)) 25 (judged_head s h)) a q in
      let n = need-gives (allowed Draft m (located g.it)) 25 (judged_head s g.it) a g.next in
      (rw g.first n.1, rw g.first (by (located g.it) n.0))
    where
      by : (l : Bool) → not l || may_redirect m ≡ true → (l ≡ false) ⊎ (may_redirect m ≡ true)
      by true t = inr t
      by false t = inl refl

  to-draft : (response_by Rfc m s ≡ gives a) × Free → response_by Draft m s ≡ gives a
  unfolding response_by
  to-draft (q, t) =
      let g = then-gives (head_of s) (judged_head s) a q in
      let l : allowed Draft m (located g.it) ≡ true = by g.it g.first t in
      rw (g.first, l) g.next
    where
      by : (h : Head) → head_of s ≡ gives h → Free → allowed Draft m (located h) ≡ true
      by h p (inl f) = let z : located h ≡ false = sym (ap located_in p) ∙ f in rw z
      by h p (inr y) = rw y (or-true (not (located h)))

pub draft-exactly : DraftExactly
draft-exactly m s a = (to-rfc m s a, to-draft m s a)

-- The front of an output.

module _ (f : Action → Bool) where
  settled-judge : (o : Outcome Answer) → settled (then o (λ a. need (f a.action) 25 (gives a))) ≡ then (settled o) (λ z. need (f z.action) 25 (gives z))
  settled-judge (refused n) = refl
  settled-judge (gives a) = by (f a.action) refl
    where
      by : (t : Bool) → f a.action ≡ t → settled (need (f a.action) 25 (gives a)) ≡ then (settled (gives a)) (λ z. need (f z.action) 25 (gives z))
      by true p = rw p
      by false p = rw p

pub stream-settles : StreamSettles
stream-settles e m s t q =
    let f : Action → Bool = λ x. allowed e m (has_location x) in
    let same = Response.stream-settles s t q in
    ap settled (by-action e m s) ∙ settled-judge f (response_of s)
    ∙ ap (λ (o : Outcome Settled). then o (λ z. need (f z.action) 25 (gives z))) same
    ∙ sym (settled-judge f (response_of t)) ∙ sym (ap settled (by-action e m t))
