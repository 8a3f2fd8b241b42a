-- Laws of letter case: a byte and its lower case.
-- Assumes nothing.
use Prim.Native.Nat.{ℕ, ◌+◌, ◌-◌, ◌<◌}
use mathlib.Core.Path.{◌≡◌, refl}
use mathlib.Core.Bool.{Bool, true, false, cond, ◌&&◌}
use native.Mathlib.Omega.{arith}
use lib.Dec.{eqb, leb}
use borrow.Author.Tests.{ne_eqb, le-leb, lt-leb, leb-true}
use Rattle.octets.specs.Compare.{lower_of, upper_of}

-- the upper case of a byte is that of its lower case
pub upper-lower : (b : ℕ) → upper_of (lower_of b) ≡ upper_of b
unfolding lower_of upper_of
upper-lower b = by (leb 65 b) (leb b 90) refl refl
  where
    by : (t u : Bool) → leb 65 b ≡ t → leb b 90 ≡ u → upper_of (cond (t && u) (b + 32) b) ≡ upper_of b
    by false u e d = refl
    by true false e d = refl
    by true true e d =
        let l = leb-true 65 b e in
        let m = leb-true b 90 d in
        let z : b + 32 - 32 ≡ b = omega arith in
        rw (le-leb 97 (b + 32) (omega arith), le-leb (b + 32) 122 (omega arith), lt-leb 97 b (omega arith)) z

-- a byte below the letters is itself in lower case, and no other is
pub lower-eqb : (x : ℕ) → x < 65 → (b : ℕ) → eqb (lower_of b) x ≡ eqb b x
unfolding lower_of
lower-eqb x h b = by (leb 65 b) (leb b 90) refl
  where
    by : (t u : Bool) → leb 65 b ≡ t → eqb (cond (t && u) (b + 32) b) x ≡ eqb b x
    by false u e = refl
    by true false e = refl
    by true true e =
        let l = leb-true 65 b e in
        rw (ne_eqb (b + 32) x (λ q. omega arith), ne_eqb b x (λ q. omega arith))
