-- Of any reader: what it means that more bytes change no answer but 1, and what follows for requests that stand end to end.
-- Assumes nothing.
use Prim.Native.Nat.{ℕ, ◌≤◌, ◌<◌}
use Prim.{absurd}
use mathlib.Core.Path.{◌≡◌, refl, sym, ap, ◌∙◌}
use mathlib.Core.Bool.{Bool, true, false, cond}
use mathlib.Core.List.{List, ◌++◌}
use native.Mathlib.Omega.{arith}
use lib.Dec.{eqb, leb, ltb}
use lib.ListN.{length, take, drop, length-append, length-take, take-append-drop}
use borrow.Author.Tests.{eqb-true, eqb-false, ltb-true, leb-true, lt-ltb, le-leb}
use Rattle.octets.specs.Outcome.{Outcome, refused, gives, then, need}
use Rattle.octets.proofs.Outcomes.{then-gives}
use Rattle.framing.specs.Claims.{Frames}

-- the second answer is the first, unless the first is 1
pub data Keeps {A : Type 0} : Outcome A → Outcome A → Type 0 where
  was_cut : {o : Outcome A} → Keeps (refused 1) o
  same : {o : Outcome A} → Keeps o o

pub keeps_then : {A B : Type 0} {o o' : Outcome A} {f g : A → Outcome B} → Keeps o o' → ((a : A) → o ≡ gives a → Keeps (f a) (g a)) → Keeps (then o f) (then o' g)
keeps_then was_cut h = was_cut
keeps_then {o = refused n} same h = same
keeps_then {o = gives a} same h = h a refl

pub keeps-cond : {A : Type 0} {a b a' b' : Outcome A} (t : Bool) → Keeps a a' → Keeps b b' → Keeps (cond t a b) (cond t a' b')
keeps-cond true p q = p
keeps-cond false p q = q

-- a test of the input's end: what passes it passes it with more bytes
pub keeps-end : {A : Type 0} {a a' : Outcome A} (t t' : Bool) → (t ≡ true → t' ≡ true) → (t ≡ true → Keeps a a') → Keeps (need t 1 a) (need t' 1 a')
keeps-end true true m k = k refl
keeps-end true false m k = absurd (let z : ◌≡◌ {A = Bool} false true = m refl in let y : ◌≡◌ {A = ℕ} 0 1 = cc in omega arith)
keeps-end false t' m k = was_cut

-- a place that lies within s lies within more
pub still-leb : (s t : List ℕ) (n : ℕ) → leb n (length s) ≡ true → leb n (length (s ++ t)) ≡ true
still-leb s t n x = le-leb n (length (s ++ t)) (simp length-append (omega (arith, leb-true n (length s) x)))

pub still-ltb : (s t : List ℕ) (n : ℕ) → ltb n (length s) ≡ true → ltb n (length (s ++ t)) ≡ true
still-ltb s t n x = lt-ltb n (length (s ++ t)) (simp length-append (omega (arith, ltb-true n (length s) x)))

pub kept : {A : Type 0} {o o' : Outcome A} → Keeps o o' → (o ≡ refused 1 → ⊥) → o' ≡ o
kept was_cut h = absurd (h refl)
kept same h = refl

-- what stays unless it is 1 keeps its answer
pub keeps-unless : {A : Type 0} (o o' : Outcome A) → ((o ≡ refused 1 → ⊥) → o' ≡ o) → Keeps o o'
keeps-unless (gives a) o' h = rw (h (λ r. let z : ◌≡◌ {A = ℕ} 0 1 = cc in omega arith)) same
keeps-unless (refused n) o' h = by (eqb n 1) refl
  where
    by : (t : Bool) → eqb n 1 ≡ t → Keeps (refused n) o'
    by true t =
        let z : n ≡ 1 = eqb-true n 1 t in
        rw z was_cut
    by false t = rw (h (λ r. eqb-false n 1 t (cc))) same

-- a reader whose answers stay when bytes are added, and which uses a byte or more of those that are there
pub record Steady {A : Type 0} (read : List ℕ → Outcome A) (used : A → ℕ) : Type 0 where
  pub more : (s t : List ℕ) → (read s ≡ refused 1 → ⊥) → read (s ++ t) ≡ read s
  pub within : (s : List ℕ) (a : A) → read s ≡ gives a → (0 < used a) × (used a ≤ length s)

module _ {A : Type 0} {read : List ℕ → Outcome A} {used : A → ℕ} (R : Steady read used) where
  stays : (s t : List ℕ) (a : A) → read s ≡ gives a → read (s ++ t) ≡ gives a
  stays s t a e = R.more s t (λ r. let z : ◌≡◌ {A = ℕ} 0 1 = cc in omega arith) ∙ e

  -- what is cut gives 1: any other answer would stay, and use bytes that the cut took away
  pub cut-one : (s : List ℕ) (a : A) (k : ℕ) → read s ≡ gives a → k < used a → read (take k s) ≡ refused 1
  cut-one s a k e h = by (read (take k s)) refl
    where
      no_other : (read (take k s) ≡ refused 1 → ⊥) → ⊥
      no_other n =
          let z : read (take k s) ≡ gives a = sym (R.more (take k s) (drop k s) n) ∙ ap read (take-append-drop k s) ∙ e in
          omega (arith, simp length-take at (R.within (take k s) a z).1)

      by : (o : Outcome A) → read (take k s) ≡ o → read (take k s) ≡ refused 1
      by (gives b) q = absurd (no_other (λ r. let z : ◌≡◌ {A = ℕ} 0 1 = cc in omega arith))
      by (refused n) q = by_number (eqb n 1) refl
        where
          by_number : (t : Bool) → eqb n 1 ≡ t → read (take k s) ≡ refused 1
          by_number true t = q ∙ ap refused (eqb-true n 1 t)
          by_number false t = absurd (no_other (λ r. eqb-false n 1 t (cc)))

  -- the reader of the used count
  abbrev pub counted : List ℕ → Outcome ℕ
  counted s = then (read s) (λ a. gives (used a))

  -- the answer of a request that is all of s
  record Whole (s : List ℕ) : Type 0 where
    a : A
    reads : read s ≡ gives a
    all : used a ≡ length s

  whole : (s : List ℕ) → counted s ≡ gives (length s) → Whole s
  whole s e =
      let g = then-gives (read s) (λ a. gives (used a)) (length s) e in
      let u : gives (used g.it) ≡ gives (length s) = g.next in
      record { a = g.it; reads = g.first; all = cc }

  frames-more : (s t : List ℕ) (u : ℕ) → counted s ≡ gives u → counted (s ++ t) ≡ gives u
  frames-more s t u e =
      let g = then-gives (read s) (λ a. gives (used a)) u e in
      rw (stays s t g.it g.first) g.next

  frames-within : (s : List ℕ) (u : ℕ) → counted s ≡ gives u → (0 < u) × (u ≤ length s)
  frames-within s u e =
      let g = then-gives (read s) (λ a. gives (used a)) u e in
      let q : gives (used g.it) ≡ gives u = g.next in
      let z : used g.it ≡ u = cc in
      let w = R.within s g.it g.first in
      (omega (arith, w.0), omega (arith, w.1))

  pub steady-frames : Frames counted
  steady-frames =
      record {
        more = frames-more;
        short = λ s k e h. let w = whole s e in rw (cut-one s w.a k w.reads (omega (arith, w.all)));
        within = frames-within;
      }
