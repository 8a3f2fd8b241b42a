-- One digit more, for the loops that read and write digits.
-- Assumes nothing.
use Prim.Native.Nat.{ℕ, suc, ◌+◌, ◌*◌, ◌-◌, ◌/◌, ◌%◌, ◌≤◌, ◌<◌}
use mathlib.Core.Path.{◌≡◌, refl, ap, ◌∙◌}
use mathlib.Core.Bool.{true, false, cond}
use mathlib.Core.List.{List}
use Rattle.std.proofs.Common.{None, Some}
use native.Mathlib.Omega.{arith}
use lib.ListN.{length, drop, get_or, set, drop_of_length-le}
use Rattle.std.specs.Char.{is_ascii_digit}
use Rattle.octets.specs.Kinds.{is_digit}
use Rattle.octets.specs.Decimal.{number_from, decimal}
use Rattle.octets.specs.Copy.{over}
use Rattle.octets.proofs.Lists.{next}
use Rattle.octets.proofs.Copies.{one_byte, last-first}
use Rattle.octets.proofs.Decimals.{ten_to, ten-grows, decimal-one, decimal-more, decimal-longer}

-- Reading.

-- a digit more after a number of at most i digits
pub ten-more : (i v d : ℕ) → v < ten_to i → d ≤ 9 → v * 10 + d < ten_to (i + 1)
unfolding ten_to
ten-more i v d h l =
    let z : i + 1 ≡ suc i = omega arith in
    rw z (omega arith)

-- a number of fewer than 10 digits has room for one more in 64 bits
pub ten-most : (i v : ℕ) → v < ten_to i → i < 10 → v < 1000000000
unfolding ten_to
ten-most i v h l = omega (arith, ten-grows i 9 (omega arith))

-- one byte more at i, after the number v
module _ (s : List ℕ) (i v : ℕ) (h : i < length s) where
  number-next : number_from v (drop i s) ≡ cond (is_digit (get_or s i 0)) (number_from (v * 10 + (get_or s i 0 - 48)) (drop (i + 1) s)) None
  unfolding number_from
  number-next = ap (number_from v) (next s i h)

  pub no-digit : is_digit (get_or s i 0) ≡ false → number_from v (drop i s) ≡ None
  no-digit e = number-next ∙ rw e

  pub digit-more : is_digit (get_or s i 0) ≡ true → number_from v (drop i s) ≡ number_from (v * 10 + (get_or s i 0 - 48)) (drop (i + 1) s)
  digit-more e = number-next ∙ rw e

-- the library's test of a digit
pub digit-tested : (b : ℕ) → is_ascii_digit b ≡ is_digit b
unfolding is_digit
digit-tested b = refl

-- no byte is left after the number v
pub number-end : (s : List ℕ) (i v : ℕ) → length s ≤ i → number_from v (drop i s) ≡ Some v
unfolding number_from
number-end s i v h = rw (drop_of_length-le s h)

-- Writing, from the last digit down: the digits of m end at i.

module _ (d : List ℕ) (at m i : ℕ) (e : i + 1 ≡ at + length (decimal m)) (h : i < length d) where
  pub digit-written : 10 ≤ m → over d at (decimal m) ≡ over (set d i (48 + m % 10)) at (decimal (m / 10))
  digit-written b =
      let z : i ≡ at + length (decimal (m / 10)) = omega (arith, decimal-longer m b) in
      rw (decimal-more m b, z) (last-first d at (decimal (m / 10)) (48 + m % 10) (omega arith))

  pub first-written : m < 10 → set d i (48 + m) ≡ over d at (decimal m)
  first-written b =
      let z : i ≡ at = omega (arith, ap length (decimal-one m b)) in
      rw (decimal-one m b, z) (one_byte d at (48 + m) (omega arith))
