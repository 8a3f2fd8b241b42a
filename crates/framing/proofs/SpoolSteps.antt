-- One request of a spool after the other, for any reader that frames.
-- Assumes nothing.
use Prim.Native.Nat.{ℕ, zero, suc, ◌+◌, ◌-◌, ◌≤◌, ◌<◌}
use Prim.{absurd}
use mathlib.Core.Path.{◌≡◌, refl, ap, ◌∙◌}
use mathlib.Core.Bool.{Bool, true, false, cond}
use mathlib.Core.List.{List, [], ◌∷◌, ◌++◌}
use native.Mathlib.Nat.{sub-zero}
use native.Mathlib.Omega.{arith}
use lib.Dec.{eqb}
use lib.ListN.{length, drop, length-append, length-drop}
use lib.Seq.{drop-append-le, drop-drop}
use borrow.Author.Tests.{ne_eqb, eqb-true}
use Rattle.octets.specs.Outcome.{Outcome, refused, gives}
use Rattle.framing.specs.Spool.{Reader, Spool, whole, cut, refused_by, full, ended, before, behind, after_read, spool_in, spool_of, total}
use Rattle.framing.specs.Claims.{Frames, SpoolGoesOn}

module _ (read : Reader) (F : Frames read) where
  -- any two fuels above the bytes give the same
  fuel : (f g room : ℕ) (s : List ℕ) → length s < f → length s < g → spool_in read f room s ≡ spool_in read g room s
  unfolding spool_in
  fuel zero g room s h k = absurd (omega arith)
  fuel (suc f) zero room s h k = absurd (omega arith)
  fuel (suc f) (suc g) room [] h k = refl
  fuel (suc f) (suc g) room (b ∷ s) h k = by (read (b ∷ s)) refl room (fuel f g)
    where
      by :
          (o : Outcome ℕ) → read (b ∷ s) ≡ o → (room : ℕ)
          → ((room : ℕ) (t : List ℕ) → length t < f → length t < g → spool_in read f room t ≡ spool_in read g room t)
          → after_read o room (λ left u. spool_in read f left (drop u (b ∷ s))) ≡ after_read o room (λ left u. spool_in read g left (drop u (b ∷ s)))
      by (refused n) e room ih = refl
      by (gives u) e zero ih = refl
      by (gives u) e (suc room) ih =
          let w = F.within (b ∷ s) u e in
          let l : length (drop u (b ∷ s)) ≡ suc (length s) - u = length-drop u (b ∷ s) in
          ap (before u) (ih room (drop u (b ∷ s)) (omega (arith, w.0)) (omega (arith, w.0)))

  -- the first request of a spool that is not empty
  step : (room : ℕ) (s : List ℕ) → 0 < length s → spool_of read room s ≡ after_read (read s) room (λ left u. spool_in read (length s) left (drop u s))
  unfolding spool_of spool_in
  step room [] h = absurd (omega arith)
  step room (b ∷ s) h = refl

  pub at_end : (room : ℕ) → spool_of read room [] ≡ ended whole
  unfolding spool_of spool_in
  at_end room = refl

  module _ (s : List ℕ) (h : 0 < length s) where
    pub at_cut : (room : ℕ) → read s ≡ refused 1 → spool_of read room s ≡ ended cut
    at_cut room e = step room s h ∙ rw e

    pub at-refused : (room n : ℕ) → read s ≡ refused n → (n ≡ 1 → ⊥) → spool_of read room s ≡ ended (refused_by n)
    at-refused room n e q = step room s h ∙ rw (e, ne_eqb n 1 q)

    pub at-full : (u : ℕ) → read s ≡ gives u → spool_of read 0 s ≡ ended full
    at-full u e = step 0 s h ∙ rw e

    pub onward : (room u : ℕ) → read s ≡ gives u → spool_of read (suc room) s ≡ before u (spool_of read room (drop u s))
    unfolding spool_of
    onward room u e =
        let w = F.within s u e in
        let l : length (drop u s) ≡ length s - u = length-drop u s in
        step (suc room) s h ∙ rw e (ap (before u) (fuel (length s) (suc (length (drop u s))) room (drop u s) (omega (arith, w.0)) (omega arith)))

  -- Going on with more bytes and more room.

  GoesOn : ℕ → List ℕ → List ℕ → ℕ → List ℕ → Type 0
  GoesOn more t found room s = spool_of read (room + more) (s ++ t) ≡ behind found (spool_of read (room + more - length found) (drop (total found) s ++ t))

  none_found : (more : ℕ) (t : List ℕ) (room : ℕ) (s : List ℕ) → GoesOn more t [] room s
  unfolding GoesOn total
  none_found more t room s = rw (sub-zero (room + more))

  one_found :
      (more : ℕ) (t : List ℕ) (room u : ℕ) (found s : List ℕ) → 0 < length s → read s ≡ gives u → GoesOn more t found room (drop u s)
      → GoesOn more t (u ∷ found) (suc room) s
  unfolding GoesOn total
  one_found more t room u found s h e ih =
      let w = F.within s u e in
      let a : suc room + more ≡ suc (room + more) = omega arith in
      let b : suc (room + more) - suc (length found) ≡ room + more - length found = omega arith in
      let d : drop u (s ++ t) ≡ drop u s ++ t = drop-append-le u s t w.1 in
      let l : 0 < length (s ++ t) = simp length-append (omega arith) in
      rw a (onward (s ++ t) l (room + more) u (F.more s t u e) ∙ rw (d, b) (ap (before u) ih ∙ rw (drop-drop (total found) u s)))

  goes-on-in : (f : ℕ) (s t : List ℕ) (room more : ℕ) → length s < f → GoesOn more t (spool_in read f room s).lengths room s
  unfolding spool_in
  goes-on-in zero s t room more h = absurd (omega arith)
  goes-on-in (suc f) [] t room more h = none_found more t room []
  goes-on-in (suc f) (b ∷ s) t room more h = by (read (b ∷ s)) refl room (λ room s. goes-on-in f s t room more)
    where
      by :
          (o : Outcome ℕ) → read (b ∷ s) ≡ o → (room : ℕ)
          → ((room : ℕ) (s : List ℕ) → length s < f → GoesOn more t (spool_in read f room s).lengths room s)
          → GoesOn more t (after_read o room (λ left u. spool_in read f left (drop u (b ∷ s)))).lengths room (b ∷ s)
      by (refused n) e room ih = by_number (eqb n 1)
        where
          by_number : (q : Bool) → GoesOn more t (cond q (ended cut) (ended (refused_by n))).lengths room (b ∷ s)
          by_number true = none_found more t room (b ∷ s)
          by_number false = none_found more t room (b ∷ s)
      by (gives u) e zero ih = none_found more t zero (b ∷ s)
      by (gives u) e (suc room) ih =
          let w = F.within (b ∷ s) u e in
          let l : length (drop u (b ∷ s)) ≡ suc (length s) - u = length-drop u (b ∷ s) in
          one_found more t room u (spool_in read f room (drop u (b ∷ s))).lengths (b ∷ s) (omega arith) e (ih room (drop u (b ∷ s)) (omega (arith, w.0)))

pub spool-goes-on : (read : Reader) → Frames read → SpoolGoesOn read
unfolding spool_of GoesOn
spool-goes-on read F s t room more = goes-on-in read F (suc (length s)) s t room more (omega arith)

-- What is left behind the requests that were found: bytes that the reader takes for a cut request, or none.
pub record LeftOver (read : Reader) (s : List ℕ) (p : Spool) : Type 0 where
  pub at_cut : p.ending ≡ cut → read (drop (total p.lengths) s) ≡ refused 1
  pub at_whole : p.ending ≡ whole → drop (total p.lengths) s ≡ []

module _ (read : Reader) (F : Frames read) where
  one-passed : (s : List ℕ) (u : ℕ) (p : Spool) → LeftOver read (drop u s) p → LeftOver read s (before u p)
  unfolding total
  one-passed s u p r =
      record {
        at_cut = λ e. rw (← drop-drop (total p.lengths) u s) (r.at_cut e);
        at_whole = λ e. rw (← drop-drop (total p.lengths) u s) (r.at_whole e);
      }

  left_in : (f : ℕ) (s : List ℕ) (room : ℕ) → length s < f → LeftOver read s (spool_in read f room s)
  unfolding spool_in total
  left_in zero s room h = absurd (omega arith)
  left_in (suc f) [] room h = record { at_cut = λ e. cc; at_whole = λ e. refl }
  left_in (suc f) (b ∷ s) room h = by (read (b ∷ s)) refl room (left_in f)
    where
      by :
          (o : Outcome ℕ) → read (b ∷ s) ≡ o → (room : ℕ) → ((s : List ℕ) (room : ℕ) → length s < f → LeftOver read s (spool_in read f room s))
          → LeftOver read (b ∷ s) (after_read o room (λ left u. spool_in read f left (drop u (b ∷ s))))
      by (refused n) e room ih = by_number (eqb n 1) refl
        where
          by_number : (q : Bool) → eqb n 1 ≡ q → LeftOver read (b ∷ s) (cond q (ended cut) (ended (refused_by n)))
          by_number true q = record { at_cut = λ _. e ∙ ap refused (eqb-true n 1 q); at_whole = λ w. cc }
          by_number false q = record { at_cut = λ w. cc; at_whole = λ w. cc }
      by (gives u) e zero ih = record { at_cut = λ w. cc; at_whole = λ w. cc }
      by (gives u) e (suc room) ih =
          let w = F.within (b ∷ s) u e in
          let l : length (drop u (b ∷ s)) ≡ suc (length s) - u = length-drop u (b ∷ s) in
          one-passed (b ∷ s) u (spool_in read f room (drop u (b ∷ s))) (ih (drop u (b ∷ s)) room (omega (arith, w.0)))

  pub left_over : (s : List ℕ) (room : ℕ) → LeftOver read s (spool_of read room s)
  unfolding spool_of
  left_over s room = left_in (suc (length s)) s room (omega arith)

-- There are not more lengths than the list has room for, and not more bytes than there are.
pub record Bounded (s : List ℕ) (room : ℕ) (p : Spool) : Type 0 where
  pub few : length p.lengths ≤ room
  pub inside : total p.lengths ≤ length s

module _ (read : Reader) (F : Frames read) where
  bounded-in : (f : ℕ) (s : List ℕ) (room : ℕ) → length s < f → Bounded s room (spool_in read f room s)
  unfolding spool_in total
  bounded-in zero s room h = absurd (omega arith)
  bounded-in (suc f) [] room h = omega arith
  bounded-in (suc f) (b ∷ s) room h = by (read (b ∷ s)) refl room (bounded-in f)
    where
      by :
          (o : Outcome ℕ) → read (b ∷ s) ≡ o → (room : ℕ) → ((s : List ℕ) (room : ℕ) → length s < f → Bounded s room (spool_in read f room s))
          → Bounded (b ∷ s) room (after_read o room (λ left u. spool_in read f left (drop u (b ∷ s))))
      by (refused n) e room ih = by_number (eqb n 1)
        where
          by_number : (q : Bool) → Bounded (b ∷ s) room (cond q (ended cut) (ended (refused_by n)))
          by_number true = omega arith
          by_number false = omega arith
      by (gives u) e zero ih = omega arith
      by (gives u) e (suc room) ih =
          let w = F.within (b ∷ s) u e in
          let l : length (drop u (b ∷ s)) ≡ suc (length s) - u = length-drop u (b ∷ s) in
          let r = ih (drop u (b ∷ s)) room (omega (arith, w.0)) in
          record { few = omega (arith, r.few); inside = omega (arith, r.inside, w.1) }

  pub bounded : (s : List ℕ) (room : ℕ) → Bounded s room (spool_of read room s)
  unfolding spool_of
  bounded s room = bounded-in (suc (length s)) s room (omega arith)
