-- Reading a spool through a window gives what the spool call gives over the whole input.
-- Assumes nothing.
use Prim.Native.Nat.{ℕ, zero, suc, ◌+◌, ◌-◌, ◌≤◌, ◌<◌}
use Prim.{absurd}
use mathlib.Core.Path.{◌≡◌, refl, sym, ap, ◌∙◌}
use mathlib.Core.Bool.{Bool, true, false, cond, false≢true}
use mathlib.Core.List.{List, [], ◌∷◌, ◌++◌, append_assoc, append-nil}
use native.Mathlib.Nat.{add-zero}
use native.Mathlib.Omega.{arith}
use lib.Dec.{eqb}
use lib.ListN.{length, drop, length-append, length-drop}
use borrow.Author.Tests.{eqb-true, eqb-false}
use Rattle.octets.specs.Outcome.{Outcome, refused, gives, then}
use Rattle.framing.specs.Spool.{Spool, Ending, whole, cut, refused_by, full, ended, before, behind, joined, total}
use Rattle.framing.proofs.SpoolSteps.{at_end, at_cut, at-refused, at-full, onward, bounded}
use Rattle.scgi.specs.Read.{Places, read_of, used_of}
use Rattle.scgi.specs.Spool.{requests_of}
use Rattle.scgi.specs.Window.{next_of, read_more, after_turn, turns_in}
use Rattle.scgi.specs.Claims.{WindowReadsAll}
use Rattle.scgi.proofs.Reader.{more-bytes-keep-answer, spools-hold}

-- Room for all requests is as good as any more.

same-room : (k : ℕ) (s : List ℕ) (m n : ℕ) → length s < k → length s ≤ m → length s ≤ n → requests_of s m ≡ requests_of s n
same-room zero s m n h a b = absurd (omega arith)
same-room (suc k) [] m n h a b = at_end used_of spools-hold.frames m ∙ sym (at_end used_of spools-hold.frames n)
same-room (suc k) (x ∷ s) zero n h a b = absurd (omega arith)
same-room (suc k) (x ∷ s) (suc m) zero h a b = absurd (omega arith)
same-room (suc k) (x ∷ s) (suc m) (suc n) h a b = by (used_of (x ∷ s)) refl (same-room k)
  where
    some : 0 < length (x ∷ s)
    some = omega arith

    by :
        (o : Outcome ℕ) → used_of (x ∷ s) ≡ o
        → ((s : List ℕ) (m n : ℕ) → length s < k → length s ≤ m → length s ≤ n → requests_of s m ≡ requests_of s n)
        → requests_of (x ∷ s) (suc m) ≡ requests_of (x ∷ s) (suc n)
    by (refused i) e ih = by_number (eqb i 1) refl
      where
        by_number : (t : Bool) → eqb i 1 ≡ t → requests_of (x ∷ s) (suc m) ≡ requests_of (x ∷ s) (suc n)
        by_number true t =
            let z : used_of (x ∷ s) ≡ refused 1 = e ∙ ap refused (eqb-true i 1 t) in
            at_cut used_of spools-hold.frames (x ∷ s) some (suc m) z ∙ sym (at_cut used_of spools-hold.frames (x ∷ s) some (suc n) z)
        by_number false t =
            at-refused used_of spools-hold.frames (x ∷ s) some (suc m) i e (eqb-false i 1 t) ∙ sym (at-refused used_of spools-hold.frames (x ∷ s) some (suc n) i e (eqb-false i 1 t))
    by (gives u) e ih =
        let w = spools-hold.frames.within (x ∷ s) u e in
        let l : length (drop u (x ∷ s)) ≡ suc (length s) - u = length-drop u (x ∷ s) in
        onward used_of spools-hold.frames (x ∷ s) some m u e
        ∙ ap (before u) (ih (drop u (x ∷ s)) m n (omega (arith, w.0)) (omega (arith, w.0)) (omega (arith, w.0)))
        ∙ sym (onward used_of spools-hold.frames (x ∷ s) some n u e)

none_more : (x y : List ℕ) → x ≡ x ++ y → y ≡ []
none_more x [] e = refl
none_more x (b ∷ y) e =
    let l : length x ≡ length x + suc (length y) = ap length e ∙ length-append x (b ∷ y) in
    absurd (omega arith)

ended_by : (p : Spool) (e : Ending) → p.lengths ≡ [] → p.ending ≡ e → p ≡ ended e
ended_by p e l q =
    ap {B = Spool} (λ (x : List ℕ). record { lengths = x; ending = p.ending }) l ∙ ap {B = Spool} (λ (y : Ending). record { lengths = []; ending = y }) q

-- A turn over held bytes: what it finds, and what it leaves.

abbrev found : List ℕ → ℕ → List ℕ
found held room = (requests_of held room).lengths

abbrev left : List ℕ → ℕ → List ℕ
left held room = drop (total (found held room)) held

module _ (held : List ℕ) (room : ℕ) where
  few : length (found held room) ≤ room
  few = (bounded used_of spools-hold.frames held room).few

  left-length : length (left held room) + total (found held room) ≡ length held
  left-length = omega (arith, length-drop (total (found held room)) held, (bounded used_of spools-hold.frames held room).inside)

  -- the answer over more bytes is what was found, before the answer over the bytes left and those
  found_first :
      (t : List ℕ) (n m : ℕ) → length (held ++ t) ≤ n → length (left held room ++ t) ≤ m
      → requests_of (held ++ t) n ≡ behind (found held room) (requests_of (left held room ++ t) m)
  found_first t n m a b =
      let more : ℕ = length (held ++ t) in
      let l : length (left held room ++ t) ≤ length (held ++ t) = simp length-append (omega (arith, left-length)) in
      same-room (suc (length (held ++ t))) (held ++ t) n (room + length (held ++ t)) (omega arith) a (omega arith)
      ∙ spools-hold.goes_on held t room (length (held ++ t))
      ∙ ap (behind (found held room))
      (same-room (suc (length (left held room ++ t))) (left held room ++ t) (room + length (held ++ t) - length (found held room)) m (omega arith) (omega (arith, few)) b)

  -- of the bytes left the turn says how they end
  left-ends : requests_of (left held room) (room - length (found held room)) ≡ ended (requests_of held room).ending
  left-ends =
      let e : requests_of held room ≡ behind (found held room) (requests_of (left held room) (room - length (found held room))) =
      simp (add-zero, append-nil) at (spools-hold.goes_on held [] room 0) in
      ended_by (requests_of (left held room) (room - length (found held room))) (requests_of held room).ending
      (none_more (found held room) (requests_of (left held room) (room - length (found held room))).lengths (ap (λ (p : Spool). p.lengths) e))
      (sym (ap (λ (p : Spool). p.ending) e))

-- what bytes are that give no request
data Ends (s : List ℕ) (room : ℕ) : Ending → Type 0 where
  at_last : s ≡ [] → Ends s room whole
  cut_short : 0 < length s → used_of s ≡ refused 1 → Ends s room cut
  faulty : {n : ℕ} → 0 < length s → used_of s ≡ refused n → (n ≡ 1 → ⊥) → Ends s room (refused_by n)
  no_room : room ≡ 0 → Ends s room full

ends : (s : List ℕ) (room : ℕ) (e : Ending) → requests_of s room ≡ ended e → Ends s room e
ends [] room e h =
    let z : e ≡ whole = ap (λ (p : Spool). p.ending) (sym h ∙ at_end used_of spools-hold.frames room) in
    rw z (at_last refl)
ends (b ∷ s) room e h = by (used_of (b ∷ s)) refl room h
  where
    some : 0 < length (b ∷ s)
    some = omega arith

    by : (o : Outcome ℕ) → used_of (b ∷ s) ≡ o → (room : ℕ) → requests_of (b ∷ s) room ≡ ended e → Ends (b ∷ s) room e
    by (refused n) u room h = by_number (eqb n 1) refl
      where
        by_number : (t : Bool) → eqb n 1 ≡ t → Ends (b ∷ s) room e
        by_number true t =
            let w : used_of (b ∷ s) ≡ refused 1 = u ∙ ap refused (eqb-true n 1 t) in
            let z : e ≡ cut = ap (λ (p : Spool). p.ending) (sym h ∙ at_cut used_of spools-hold.frames (b ∷ s) some room w) in
            rw z (cut_short some w)
        by_number false t =
            let z : e ≡ refused_by n = ap (λ (p : Spool). p.ending) (sym h ∙ at-refused used_of spools-hold.frames (b ∷ s) some room n u (eqb-false n 1 t)) in
            rw z (faulty some u (eqb-false n 1 t))
    by (gives u) w zero h =
        let z : e ≡ full = ap (λ (p : Spool). p.ending) (sym h ∙ at-full used_of spools-hold.frames (b ∷ s) some u w) in
        rw z (no_room refl)
    by (gives u) w (suc room) h =
        let l : 0 ≡ suc (length (requests_of (drop u (b ∷ s)) room).lengths) = ap (λ (p : Spool). length p.lengths) (sym h ∙ onward used_of spools-hold.frames (b ∷ s) some room u w) in
        absurd (omega arith)

-- where a turn found a request, it took a byte
took : (s : List ℕ) (room : ℕ) → 0 < length (found s room) → 0 < total (found s room)
unfolding total
took [] room h =
    let l : length (found [] room) ≡ 0 = ap (λ (p : Spool). length p.lengths) (at_end used_of spools-hold.frames room) in
    absurd (omega arith)
took (b ∷ s) room h = by (used_of (b ∷ s)) refl room h
  where
    some : 0 < length (b ∷ s)
    some = omega arith

    by : (o : Outcome ℕ) → used_of (b ∷ s) ≡ o → (room : ℕ) → 0 < length (found (b ∷ s) room) → 0 < total (found (b ∷ s) room)
    by (refused n) u room h = by_number (eqb n 1) refl
      where
        by_number : (t : Bool) → eqb n 1 ≡ t → 0 < total (found (b ∷ s) room)
        by_number true t =
            let l : length (found (b ∷ s) room) ≡ 0 = ap (λ (p : Spool). length p.lengths) (at_cut used_of spools-hold.frames (b ∷ s) some room (u ∙ ap refused (eqb-true n 1 t))) in
            absurd (omega arith)
        by_number false t =
            let l : length (found (b ∷ s) room) ≡ 0 = ap (λ (p : Spool). length p.lengths) (at-refused used_of spools-hold.frames (b ∷ s) some room n u (eqb-false n 1 t)) in
            absurd (omega arith)
    by (gives u) w zero h =
        let l : length (found (b ∷ s) zero) ≡ 0 = ap (λ (p : Spool). length p.lengths) (at-full used_of spools-hold.frames (b ∷ s) some u w) in
        absurd (omega arith)
    by (gives u) w (suc room) h =
        let l : total (found (b ∷ s) (suc room)) ≡ u + total (found (drop u (b ∷ s)) room) = ap (λ (p : Spool). total p.lengths) (onward used_of spools-hold.frames (b ∷ s) some room u w) in
        omega (arith, (spools-hold.frames.within (b ∷ s) u w).0)

-- a refusal but 1 stays
still-faulty : (s t : List ℕ) (n : ℕ) → used_of s ≡ refused n → (n ≡ 1 → ⊥) → used_of (s ++ t) ≡ refused n
still-faulty s t n e q = ap (λ (o : Outcome Places). then o (λ p. gives p.used)) (more-bytes-keep-answer s t other) ∙ e
  where
    other : read_of s ≡ refused 1 → ⊥
    other r =
        let z : refused 1 ≡ refused n = sym (ap (λ (o : Outcome Places). then o (λ p. gives p.used)) r) ∙ e in
        q (cc)

-- Turn after turn.

-- how many turns are enough
abbrev enough : Bool → List ℕ → List (List ℕ) → ℕ
enough is_end held reads = cond is_end 0 1 + length held + length (joined reads) + length reads

module _ (room : ℕ) (room-some : 0 < room) where
  -- the turns from some held bytes on give the answer over them and what is still to be read
  abbrev Through : ℕ → Type 0
  Through k =
      (is_end : Bool) (held : List ℕ) (reads : List (List ℕ)) (n : ℕ) → (is_end ≡ true → reads ≡ []) → enough is_end held reads < k
      → length (held ++ joined reads) ≤ n → turns_in k room is_end held reads ≡ requests_of (held ++ joined reads) n

  module _ (k : ℕ) (ih : Through k) (held : List ℕ) where
    -- more input
    reads_more :
        (s : List ℕ) (reads : List (List ℕ)) (n : ℕ) → length s ≤ length held → enough false held reads < suc k → length (s ++ joined reads) ≤ n
        → read_more (turns_in k room) s reads ≡ requests_of (s ++ joined reads) n
    unfolding joined
    reads_more s [] n l e b = ih true s [] n (λ _. refl) (omega arith) b
    reads_more s (r ∷ rs) n l e b =
        let c : length (s ++ r) ≡ length s + length r = length-append s r in
        let d : length (r ++ joined rs) ≡ length r + length (joined rs) = length-append r (joined rs) in
        ih false (s ++ r) rs n (λ z. absurd (false≢true z)) (omega arith) (rw (append_assoc s r (joined rs)) b)
        ∙ ap (λ (x : List ℕ). requests_of x n) (append_assoc s r (joined rs))

    module _ (reads : List (List ℕ)) (n : ℕ) (s : List ℕ) (m : ℕ) (shorter : m ≡ 0 → length s < length held) (l : length s ≤ length held) where
      goes_on :
          (is_end : Bool) (e : Ending) → Ends s m e → (is_end ≡ true → reads ≡ []) → enough is_end held reads < suc k → length (s ++ joined reads) ≤ n
          → after_turn (turns_in k room) is_end s reads (next_of is_end e) ≡ requests_of (s ++ joined reads) n
      unfolding joined
      goes_on true whole (at_last z) none en b = rw (none refl, z) (sym (at_end used_of spools-hold.frames n))
      goes_on false whole (at_last z) none en b = reads_more s reads n l en b
      goes_on true cut (cut_short h u) none en b = rw (none refl, append-nil s) (sym (at_cut used_of spools-hold.frames s h n u))
      goes_on false cut (cut_short h u) none en b = reads_more s reads n l en b
      goes_on is_end (refused_by i) (faulty h u q) none en b =
          sym (at-refused used_of spools-hold.frames (s ++ joined reads) (simp length-append (omega arith)) n i (still-faulty s (joined reads) i u q) q)
      goes_on true full (no_room z) none en b = ih true s reads n none (omega (arith, shorter z)) b
      goes_on false full (no_room z) none en b = ih false s reads n none (omega (arith, shorter z)) b

  through : (k : ℕ) → Through k
  unfolding turns_in
  through zero is_end held reads n none e b = absurd (omega arith)
  through (suc k) is_end held reads n none e b =
      let m : ℕ = room - length (found held room) in
      let w : length (left held room ++ joined reads) ≤ length (held ++ joined reads) = simp length-append (omega (arith, left-length held room)) in
      let shorter : room - length (found held room) ≡ 0 → length (left held room) < length held =
      λ z. omega (arith, left-length held room, took held room (omega (arith, z))) in
      ap (behind (found held room))
      (goes_on k (through k) held reads n (left held room) (room - length (found held room)) shorter (omega (arith, left-length held room)) is_end (requests_of held room).ending
      (ends (left held room) (room - length (found held room)) (requests_of held room).ending (left-ends held room)) none e (omega arith))
      ∙ sym (found_first held room (joined reads) n n b (omega arith))

pub window-reads-all : WindowReadsAll
window-reads-all reads k room n h e b = through room h k false [] reads n (λ z. absurd (false≢true z)) (omega arith) b
