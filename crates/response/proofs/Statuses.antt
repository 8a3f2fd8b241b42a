-- Laws of the value of Status, for the code that reads it.
-- Assumes nothing.
use Prim.Native.Nat.{ℕ, ◌≤◌, ◌<◌}
use mathlib.Core.Path.{◌≡◌, refl}
use mathlib.Core.Bool.{Bool, true, false, cond, ◌&&◌, ◌||◌}
use mathlib.Core.List.{List}
use Rattle.std.proofs.Common.{Option, None, Some}
use native.Mathlib.Omega.{arith}
use lib.Dec.{eqb, leb}
use lib.ListN.{length, take, get_or, get_or-eq_default}
use borrow.Author.Tests.{ne_eqb, eqb-true, le-leb, lt-leb, leb-true}
use Rattle.octets.specs.Decimal.{number_of}
use Rattle.octets.proofs.Bools.{and-false}
use Rattle.octets.proofs.Lists.{there}
use Rattle.response.specs.Status.{three_alone, in_range, status_of}

-- Three bytes, alone or followed by a space.

module _ (v : List ℕ) where
  pub too_short : length v < 3 → three_alone v ≡ false
  unfolding three_alone
  too_short h =
      let l : length v ≤ 3 = omega arith in
      rw (ne_eqb (length v) 3 (λ e. omega arith), get_or-eq_default v 0 l)

  pub more_bytes : (length v ≡ 3 → ⊥) → three_alone v ≡ eqb (get_or v 3 0) 32
  unfolding three_alone
  more_bytes h = rw (ne_eqb (length v) 3 h)

  pub three-there : three_alone v ≡ true → 3 ≤ length v
  unfolding three_alone
  three-there = by (eqb (length v) 3) (eqb (get_or v 3 0) 32) refl refl
    where
      by : (x y : Bool) → eqb (length v) 3 ≡ x → eqb (get_or v 3 0) 32 ≡ y → x || y ≡ true → 3 ≤ length v
      by true y p q e = omega (arith, eqb-true (length v) 3 p)
      by false true p q e = omega (arith, there v 3 31 (eqb-true (get_or v 3 0) 32 q))
      by false false p q e = let z : ◌≡◌ {A = ℕ} 0 1 = cc in omega arith

module _ (v : List ℕ) where
  pub not_three : three_alone v ≡ false → status_of v ≡ None
  unfolding status_of
  not_three e = rw e

  module _ (t : three_alone v ≡ true) where
    pub no-digits : number_of (take 3 v) ≡ None → status_of v ≡ None
    unfolding status_of
    no-digits e = rw (t, e)

    module _ (n : ℕ) (e : number_of (take 3 v) ≡ Some n) where
      pub low : n < 200 → status_of v ≡ None
      unfolding status_of
      low h = rw (t, e, lt-leb 200 n h)

      pub high : 599 < n → status_of v ≡ None
      unfolding status_of
      high h = rw (t, e, lt-leb n 599 h, and-false (leb 200 n))

      pub right : 200 ≤ n → n ≤ 599 → status_of v ≡ Some n
      unfolding status_of
      right h k = rw (t, e, le-leb 200 n h, le-leb n 599 k)

-- FOR CALLERS: a status is 200 to 599
pub status-within : (v : List ℕ) (n : ℕ) → status_of v ≡ Some n → (200 ≤ n) × (n ≤ 599)
unfolding status_of
status-within v n = by (three_alone v) (number_of (take 3 v))
  where
    in-range : (m : ℕ) (x y : Bool) → leb 200 m ≡ x → leb m 599 ≡ y → cond (x && y) (Some m) None ≡ Some n → (200 ≤ n) × (n ≤ 599)
    in-range m true true p q e =
        let z : m ≡ n = cc in
        omega (arith, leb-true 200 m p, leb-true m 599 q)
    in-range m true false p q e = let z : ◌≡◌ {A = ℕ} 0 1 = cc in omega arith
    in-range m false y p q e = let z : ◌≡◌ {A = ℕ} 0 1 = cc in omega arith

    by : (x : Bool) (o : Option ℕ) → cond x (in_range o) None ≡ Some n → (200 ≤ n) × (n ≤ 599)
    by true None e = let z : ◌≡◌ {A = ℕ} 0 1 = cc in omega arith
    by true (Some m) e = in-range m (leb 200 m) (leb m 599) refl refl e
    by false o e = let z : ◌≡◌ {A = ℕ} 0 1 = cc in omega arith
