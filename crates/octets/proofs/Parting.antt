-- Laws of the parts of a list: where they stand, and that they are exactly what was joined.
-- Assumes nothing.
use Prim.Native.Nat.{ℕ, suc, ◌+◌, ◌≤◌, ◌<◌}
use mathlib.Core.Path.{◌≡◌, refl, ap, ◌∙◌}
use mathlib.Core.Bool.{Bool, true, false, cond, not}
use mathlib.Core.List.{List, [], ◌∷◌, ◌++◌}
use native.Mathlib.Omega.{arith}
use native.Mathlib.Numerals.{add-one}
use lib.Dec.{eqb}
use lib.ListN.{length, take, drop}
use borrow.Author.Tests.{ne_eqb, eq-eqb, eqb-true, eqb-false}
use Rattle.octets.specs.Lists.{All, no_more, ◌&◌, Without}
use Rattle.octets.specs.Scan.{run, other}
use Rattle.octets.specs.Parts.{Parts, parted, before, longer}

-- the parts of bytes without x, of an x, and of what follows
pub part-ended : (x : ℕ) (n t : List ℕ) → Without x n → parted x (n ++ x ∷ t) ≡ record { first = n; others = (parted x t).first ∷ (parted x t).others }
unfolding parted
part-ended x [] t r = simp (eq-eqb x x refl)
part-ended x (b ∷ n) t (h & r) = simp (ne_eqb b x h, part-ended x n t r)

-- what the parts were parted from
unfoldable pub joined_by : ℕ → List ℕ → List (List ℕ) → List ℕ
joined_by x f [] = f
joined_by x f (g ∷ fs) = f ++ x ∷ joined_by x g fs

joined-cons : (x b : ℕ) (f : List ℕ) (fs : List (List ℕ)) → joined_by x (b ∷ f) fs ≡ b ∷ joined_by x f fs
unfolding joined_by
joined-cons x b f [] = refl
joined-cons x b f (g ∷ fs) = refl

-- what holds of the parts of s: they are parted from s, and have no x
pub record Parted (x : ℕ) (s : List ℕ) (p : Parts) : Type 0 where
  pub from : joined_by x p.first p.others ≡ s
  pub in_first : Without x p.first
  pub in_others : All (Without x) p.others

parted-byte : (x b : ℕ) (s : List ℕ) (t : Bool) → eqb b x ≡ t → Parted x s (parted x s) → Parted x (b ∷ s) (parted x (b ∷ s))
unfolding parted joined_by
parted-byte x b s true e h =
    let z : b ≡ x = eqb-true b x e in
    simp e (record { from = rw (z, h.from); in_first = no_more; in_others = h.in_first & h.in_others })
parted-byte x b s false e h =
    simp e
    (record {
      from = joined-cons x b (parted x s).first (parted x s).others ∙ ap (◌∷◌ b) h.from;
      in_first = eqb-false b x e & h.in_first;
      in_others = h.in_others;
    })

pub parts-of : (x : ℕ) (s : List ℕ) → Parted x s (parted x s)
unfolding parted joined_by
parts-of x [] = record { from = refl; in_first = no_more; in_others = no_more }
parts-of x (b ∷ s) = parted-byte x b s (eqb b x) refl (parts-of x s)

-- The parts by the first place of x, as a scan finds it.

module _ (x : ℕ) where
  -- x stands in s
  pub part-found :
      (s : List ℕ) → run (other x) s < length s
      → parted x s ≡ before (take (run (other x) s) s) (parted x (drop (run (other x) s + 1) s))
  unfolding run parted
  part-found [] h = absurd (omega arith)
  part-found (b ∷ s) h = by (eqb b x) h (part-found s)
    where
      by :
          (t : Bool) → cond (not t) (suc (run (other x) s)) 0 < suc (length s)
          → (run (other x) s < length s → parted x s ≡ before (take (run (other x) s) s) (parted x (drop (run (other x) s + 1) s)))
          → (let n = cond (not t) (suc (run (other x) s)) 0 in
          cond t (before [] (parted x s)) (longer b (parted x s)) ≡ before (take n (b ∷ s)) (parted x (drop (n + 1) (b ∷ s))))
      by true h ih = refl
      by false h ih = rw (ih (omega arith), add-one, add-one)

  -- x does not stand in s
  pub part_none : (s : List ℕ) → length s ≤ run (other x) s → parted x s ≡ record { first = s; others = [] }
  unfolding run parted
  part_none [] h = refl
  part_none (b ∷ s) h = by (eqb b x) h (part_none s)
    where
      by :
          (t : Bool) → suc (length s) ≤ cond (not t) (suc (run (other x) s)) 0
          → (length s ≤ run (other x) s → parted x s ≡ record { first = s; others = [] })
          → cond t (before [] (parted x s)) (longer b (parted x s)) ≡ record { first = b ∷ s; others = [] }
      by true h ih = absurd (omega arith)
      by false h ih = ap (longer b) (ih (omega arith))
