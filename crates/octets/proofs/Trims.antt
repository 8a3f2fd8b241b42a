-- Laws of what is left without the spaces and tabs at the end, for a loop that goes back byte by byte.
-- Assumes nothing.
use mathlib.Core.Path.{◌≡◌, ap, ◌∙◌}
use mathlib.Core.Bool.{Bool, true, false, cond, ◌&&◌}
use mathlib.Core.List.{List, [], ◌∷◌, ◌++◌}
use Prim.Native.Nat.{ℕ, suc, ◌+◌, ◌-◌, ◌≤◌, ◌<◌}
use native.Mathlib.Omega.{arith}
use lib.Dec.{eqb}
use lib.ListN.{length, take, drop, get_or, length-drop, length-take}
use lib.Seq.{take-suc, get_or-drop}
use borrow.Author.Tests.{ne_eqb}
use Rattle.octets.specs.Kinds.{is_blank}
use Rattle.octets.specs.Trim.{kept}

kept-blank : (x : List ℕ) (b : ℕ) → is_blank b ≡ true → kept (x ++ (b ∷ [])) ≡ kept x
unfolding kept
kept-blank [] b e = simp e
kept-blank (a ∷ x) b e = simp (kept-blank x b e)

kept-other : (x : List ℕ) (b : ℕ) → is_blank b ≡ false → kept (x ++ (b ∷ [])) ≡ suc (length x)
unfolding kept
kept-other [] b e = simp e
kept-other (a ∷ x) b e = simp (kept-other x b e, ne_eqb (suc (length x)) 0 (omega arith))

pub kept-le : (s : List ℕ) → kept s ≤ length s
unfolding kept
kept-le [] = omega arith
kept-le (b ∷ s) = by (eqb (kept s) 0 && is_blank b) (kept-le s)
  where
    by : (t : Bool) → kept s ≤ length s → cond t 0 (suc (kept s)) ≤ suc (length s)
    by true h = omega arith
    by false h = omega arith

pub kept-take : (n : ℕ) (s : List ℕ) → kept (take n s) ≤ n
kept-take n s = omega (arith, kept-le (take n s), length-take n s)

-- the last of the n bytes from i on
module _ (s : List ℕ) (i n : ℕ) (z : 0 < n) (h : i + n ≤ length s) where
  one_more : take n (drop i s) ≡ take (n - 1) (drop i s) ++ (get_or s (i + (n - 1)) 0 ∷ [])
  one_more =
      let w : n - 1 < length (drop i s) = simp length-drop (omega arith) in
      let e : n ≡ suc (n - 1) = omega arith in
      ap (λ (k : ℕ). take k (drop i s)) e ∙ rw (take-suc (drop i s) (n - 1) 0 w, get_or-drop i s (n - 1) 0)

  pub last-blank : is_blank (get_or s (i + (n - 1)) 0) ≡ true → kept (take n (drop i s)) ≡ kept (take (n - 1) (drop i s))
  last-blank e = rw one_more (kept-blank (take (n - 1) (drop i s)) (get_or s (i + (n - 1)) 0) e)

  pub last-kept : is_blank (get_or s (i + (n - 1)) 0) ≡ false → kept (take n (drop i s)) ≡ n
  last-kept e =
      rw one_more
      (kept-other (take (n - 1) (drop i s)) (get_or s (i + (n - 1)) 0) e ∙ simp (length-take, length-drop) (omega arith))
