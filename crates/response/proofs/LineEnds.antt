-- Laws of the ends of lines: where a line ends that starts at a place of t and whose LF stands at another.
-- Assumes nothing.
use Prim.Native.Nat.{ℕ, zero, suc, ◌+◌, ◌-◌, ◌≤◌}
use mathlib.Core.Path.{◌≡◌, refl, ap, ◌∙◌}
use mathlib.Core.Bool.{Bool, true, false, cond}
use mathlib.Core.List.{List, [], ◌∷◌}
use native.Mathlib.Omega.{arith}
use lib.Dec.{eqb}
use lib.ListN.{length, take, drop, get_or, length-take, length-drop}
use lib.Seq.{get_or-take, get_or-drop, take-take}
use borrow.Author.Tests.{eq-eqb, ne_eqb}
use Rattle.octets.specs.Lists.{is_nil}
use Rattle.response.specs.Head.{bare_length, bare}

pub bare-le : (f : List ℕ) → bare_length f ≤ length f
unfolding bare_length
bare-le f = by (eqb (get_or f (length f - 1) 0) 13)
  where
    by : (x : Bool) → cond x (length f - 1) (length f) ≤ length f
    by true = omega arith
    by false = omega arith

module _ (t : List ℕ) (at end : ℕ) (a : at ≤ end) (b : end ≤ length t) where
  abbrev f : List ℕ
  f = take (end - at) (drop at t)

  pub part_length : length f ≡ end - at
  part_length = simp (length-take, length-drop) (omega arith)

  pub bare-none : end ≡ at → end ≡ at + bare_length f
  bare-none e = omega (arith, bare-le f, part_length)

  module _ (e : end ≡ at → ⊥) where
    last_byte : get_or f (length f - 1) 0 ≡ get_or t (end - 1) 0
    last_byte =
        let i : at + (length f - 1) ≡ end - 1 = omega (arith, part_length) in
        get_or-take (end - at) (drop at t) (length f - 1) 0 (omega (arith, part_length))
        ∙ get_or-drop at t (length f - 1) 0 ∙ ap (λ (k : ℕ). get_or t k 0) i

    pub bare-whole : (get_or t (end - 1) 0 ≡ 13 → ⊥) → end ≡ at + bare_length f
    unfolding bare_length
    bare-whole n = rw (last_byte, ne_eqb _ _ n) (omega (arith, part_length))

    pub bare-cut : get_or t (end - 1) 0 ≡ 13 → end - 1 ≡ at + bare_length f
    unfolding bare_length
    bare-cut n = rw (last_byte, eq-eqb _ _ n) (omega (arith, part_length))

  -- what stands before that end
  pub bare-is : (l : ℕ) → l ≡ at + bare_length f → take (l - at) (drop at t) ≡ bare f
  bare-is l e =
      let k : l - at ≡ bare_length f = omega arith in
      let h : bare_length f ≤ end - at = omega (arith, bare-le f, part_length) in
      ap (λ (n : ℕ). take n (drop at t)) k ∙ rw (take-take (bare_length f) (end - at) (drop at t) h)

-- an empty line, and one that is not
pub bare-empty : (f : List ℕ) → bare_length f ≡ 0 → is_nil (bare f) ≡ true
bare-empty f e = rw e

pub bare-some : (f : List ℕ) → (bare_length f ≡ 0 → ⊥) → is_nil (bare f) ≡ false
bare-some [] e = absurd (e (omega (arith, bare-le [])))
bare-some (b ∷ f) e = by (bare_length (b ∷ f)) e
  where
    by : (n : ℕ) → (n ≡ 0 → ⊥) → is_nil (take n (b ∷ f)) ≡ false
    by zero h = absurd (h refl)
    by (suc n) h = refl
