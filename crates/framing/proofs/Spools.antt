-- The claims on spools, for any reader that frames.
-- Assumes nothing.
use Prim.Native.Nat.{ℕ, zero, suc, ◌+◌, ◌-◌, ◌≤◌, ◌<◌}
use mathlib.Core.Path.{◌≡◌, refl, sym, ap, ◌∙◌}
use mathlib.Core.Bool.{Bool, true, false, cond}
use mathlib.Core.List.{List, [], ◌∷◌, ◌++◌}
use Prim.{absurd}
use native.Mathlib.Omega.{arith}
use lib.ListN.{length, take, drop, length-append, length-take}
use lib.Seq.{take-append-le, take-append-add, drop-append_seam, take-append_seam}
use lib.Dec.{eqb, leb}
use borrow.Author.Tests.{eq-eqb, ne_eqb, leb-true, leb-false, eqb-true, eqb-false}
use Rattle.octets.specs.Outcome.{gives}
use Rattle.framing.specs.Spool.{Reader, Requests, none, one, Spool, whole, cut, ended, before, after_read, spool_in, spool_of, joined, whole_before, total}
use Rattle.framing.specs.Claims.{Frames, SpoolsEqual, SpoolCut}

-- what the cut k leaves of the requests rs
abbrev answer : ℕ → List (List ℕ) → Spool
answer k rs = record { lengths = whole_before k rs; ending = cond (eqb k (total (whole_before k rs))) whole cut }

module _ (read : Reader) where
  -- one request of a spool that is not empty
  step : (fuel room : ℕ) (s : List ℕ) → 0 < length s
      → spool_in read (suc fuel) room s ≡ after_read (read s) room (λ left u. spool_in read fuel left (drop u s))
  unfolding spool_in
  step fuel room [] h = absurd (omega arith)
  step fuel room (b ∷ s) h = refl

  -- a request that lies whole before the cut
  onward : (n fuel room k : ℕ) (s t : List ℕ) (W : Spool) → 0 < length s → read s ≡ gives n → drop n s ≡ t
      → spool_in read fuel room t ≡ W → spool_in read (suc fuel) (suc room) s ≡ before n W
  onward n fuel room k s t W h e d w = step fuel (suc room) s h ∙ simp (e, d, w)

-- a test of what is left is the test of the whole
shifted : (n k m : ℕ) → n ≤ k → eqb (k - n) m ≡ eqb k (n + m)
shifted n k m h = by-test (eqb (k - n) m) refl
  where
    by-test : (t : Bool) → eqb (k - n) m ≡ t → t ≡ eqb k (n + m)
    by-test true e = sym (eq-eqb k (n + m) (omega (arith, eqb-true (k - n) m e)))
    by-test false e = sym (ne_eqb k (n + m) (λ q. eqb-false (k - n) m e (omega arith)))

-- the bytes before the cut, where the first request lies whole before it
past : (k : ℕ) (r j : List ℕ) → length r ≤ k → take k (r ++ j) ≡ r ++ take (k - length r) j
past k r j h = let e : k ≡ length r + (k - length r) = omega arith in ap (λ (n : ℕ). take n (r ++ j)) e ∙ take-append-add r j (k - length r)

module _ (read : Reader) (F : Frames read) where
  -- the cut falls into the first request: nothing lies whole before it
  inside : (fuel room k : ℕ) (r j : List ℕ) → read r ≡ gives (length r) → k < length r → spool_in read (suc fuel) room (take k (r ++ j)) ≡ ended (cond (eqb k 0) whole cut)
  unfolding spool_in
  inside fuel room zero r j e h = refl
  inside fuel room (suc k) r j e h =
      rw (take-append-le (suc k) r j (omega arith)) (step read fuel room (take (suc k) r) (simp length-take (omega arith)) ∙ rw (F.short r (suc k) e h) (rw (ne_eqb (suc k) 0 (λ q. omega arith))))

  -- the first request lies whole before the cut
  whole-first : (room fuel k : ℕ) (r : List ℕ) (rs : List (List ℕ)) → read r ≡ gives (length r) → length r ≤ k → length (length r ∷ whole_before (k - length r) rs) ≤ room
      → ((room' : ℕ) → length (whole_before (k - length r) rs) ≤ room' → spool_in read fuel room' (take (k - length r) (joined rs)) ≡ answer (k - length r) rs)
      → spool_in read (suc fuel) room (take k (r ++ joined rs))
      ≡ record { lengths = length r ∷ whole_before (k - length r) rs; ending = cond (eqb k (length r + total (whole_before (k - length r) rs))) whole cut }
  whole-first zero fuel k r rs e h w ih = absurd (omega arith)
  whole-first (suc room) fuel k r rs e h w ih =
      rw (past k r (joined rs) h)
      (onward read (length r) fuel room k (r ++ take (k - length r) (joined rs)) (take (k - length r) (joined rs)) (answer (k - length r) rs)
      (simp length-append (omega (arith, (F.within r (length r) e).0)))
      (F.more r (take (k - length r) (joined rs)) (length r) e)
      (drop-append_seam r (take (k - length r) (joined rs)))
      (ih room (omega arith))
      ∙ rw (shifted (length r) k (total (whole_before (k - length r) rs)) h))

  cut_in : (rs : List (List ℕ)) (k room fuel : ℕ) → Requests read rs → k ≤ length (joined rs) → length (whole_before k rs) ≤ room
      → k < fuel → spool_in read fuel room (take k (joined rs)) ≡ answer k rs
  unfolding spool_in joined whole_before total
  cut_in rs k room zero q h w f = absurd (omega arith)
  cut_in [] k room (suc fuel) none h w f = let z : k ≡ 0 = omega arith in rw z
  cut_in (r ∷ rs) k room (suc fuel) (one e q) h w f = by-test (leb (length r) k) refl (λ k' room' b w' f'. cut_in rs k' room' fuel q b w' f') w
    where
      by-test : (t : Bool) → leb (length r) k ≡ t
          → ((k' room' : ℕ) → k' ≤ length (joined rs) → length (whole_before k' rs) ≤ room' → k' < fuel → spool_in read fuel room' (take k' (joined rs)) ≡ answer k' rs)
          → (let whole-ones = cond t (length r ∷ whole_before (k - length r) rs) [] in
          length whole-ones ≤ room → spool_in read (suc fuel) room (take k (r ++ joined rs)) ≡ record { lengths = whole-ones; ending = cond (eqb k (total whole-ones)) whole cut })
      by-test true t ih few =
          let b : length r ≤ k = leb-true (length r) k t in
          whole-first room fuel k r rs e b few (λ room' w'. ih (k - length r) room' (omega (arith, simp length-append at h)) w' (omega (arith, (F.within r (length r) e).0)))
      by-test false t ih few = inside fuel room k r (joined rs) e (leb-false (length r) k t)

  -- equal joined bytes begin with requests of equal length
  same_length : (r s i j : List ℕ) → read r ≡ gives (length r) → read s ≡ gives (length s) → r ++ i ≡ s ++ j → length r ≡ length s
  same_length r s i j e d q =
      let a : read (r ++ i) ≡ gives (length r) = F.more r i (length r) e in
      let b : read (s ++ j) ≡ gives (length s) = F.more s j (length s) d in cc

  equal-in : (rs ss : List (List ℕ)) → Requests read rs → Requests read ss → joined rs ≡ joined ss → rs ≡ ss
  unfolding joined
  equal-in [] [] none none q = refl
  equal-in [] (s ∷ ss) none (one d ds) q = absurd (omega (arith, (F.within s (length s) d).0, simp length-append at (ap length q)))
  equal-in (r ∷ rs) [] (one e es) none q = absurd (omega (arith, (F.within r (length r) e).0, simp length-append at (ap length q)))
  equal-in (r ∷ rs) (s ∷ ss) (one e es) (one d ds) q =
      let n : length r ≡ length s = same_length r s (joined rs) (joined ss) e d q in
      let first : r ≡ s = sym (take-append_seam r (joined rs)) ∙ ap (take (length r)) q ∙ rw n (take-append_seam s (joined ss)) in
      let others : joined rs ≡ joined ss = sym (drop-append_seam r (joined rs)) ∙ ap (drop (length r)) q ∙ rw n (drop-append_seam s (joined ss)) in
      let ih : rs ≡ ss = equal-in rs ss es ds others in cc

pub spools-equal : (read : Reader) → Frames read → SpoolsEqual read
spools-equal read F = equal-in read F

pub spool-cut : (read : Reader) → Frames read → SpoolCut read
unfolding spool_of
spool-cut read F rs k room q h w = cut_in read F rs k room (suc (length (take k (joined rs)))) q h w (simp length-take (omega arith))
