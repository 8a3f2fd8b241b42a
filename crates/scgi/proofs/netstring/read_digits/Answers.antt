use mathlib.Core.Bool.{true}
use mathlib.Core.List.{List}
use mathlib.Core.Logic.{◌⊎◌, ⊎_elim}
use mathlib.Core.Path.{◌≡◌, sym, ap, ◌∙◌}
use Prim.Native.Nat.{ℕ, ◌+◌, ◌*◌, ◌-◌, ◌≤◌, ◌<◌}
use native.Mathlib.Omega.{arith}
use lib.Dec.{leb}
use lib.ListN.{length, drop, get_or, drop_of_length-le}
use borrow.Author.Tests.{le-leb, lt-leb}
use Rattle.octets.proofs.Lists.{next}
use Rattle.octets.proofs.Tests.{tests}
use Rattle.octets.specs.Kinds.{is_digit}
use Rattle.octets.specs.Outcome.{need, gives, refused}
use Rattle.scgi.specs.Digits.{digit_step, digits_from}
use Rattle.scgi.proofs.netstring.read_digits.Goals as goal

-- a turn, by what its byte is
module _ (s : List ℕ) (i n v : ℕ) (h : i < length s) where
  turn : digits_from n v (drop i s) ≡ digit_step n v (get_or s i 0) (digits_from (n + 1) (v * 10 + (get_or s i 0 - 48)) (drop (i + 1) s))
  unfolding digits_from
  turn = ap (digits_from n v) (next s i h)

  colon : get_or s i 0 ≡ 58 → 0 < n → digits_from n v (drop i s) ≡ gives (record { count = n; value = v; colon = true })
  colon e p = turn ∙ search tests

  no-digits : get_or s i 0 ≡ 58 → n ≤ 0 → digits_from n v (drop i s) ≡ refused 2
  no-digits e p = turn ∙ search tests

  below : get_or s i 0 < 48 → digits_from n v (drop i s) ≡ refused 2
  unfolding is_digit
  below l =
      let c : get_or s i 0 ≡ 58 → ⊥ = omega arith in
      turn ∙ search tests

  above : 57 < get_or s i 0 → (get_or s i 0 ≡ 58 → ⊥) → digits_from n v (drop i s) ≡ refused 2
  unfolding is_digit
  above l c =
      let m : 48 ≤ get_or s i 0 = omega arith in
      turn ∙ search tests

  module _ (low : 48 ≤ get_or s i 0) (high : get_or s i 0 ≤ 57) where
    other : get_or s i 0 ≡ 58 → ⊥
    other = omega arith

    leading : 0 < n → v ≡ 0 → digits_from n v (drop i s) ≡ refused 2
    unfolding is_digit
    leading p z = turn ∙ search (tests, other)

    digit :
        (n ≡ 0) ⊎ ((n ≡ 0 → ⊥) × (0 < v))
        → digits_from n v (drop i s)
        ≡ need (leb (v * 10 + (get_or s i 0 - 48)) 16384) 3 (digits_from (n + 1) (v * 10 + (get_or s i 0 - 48)) (drop (i + 1) s))
    unfolding is_digit
    digit e =
        turn
        ∙ ⊎_elim
        (λ z. let p : n ≤ 0 = omega arith in search (tests, other))
        (λ w. let p : 0 < n = omega arith in let q : v ≡ 0 → ⊥ = omega arith in search (tests, other))
        e

    -- there are not more digits than their number, but for the first
    few : (n ≡ 0) ⊎ ((n ≡ 0 → ⊥) × (0 < v)) → n ≤ v + 1 → n + 1 ≤ v * 10 + (get_or s i 0 - 48) + 1
    few e p = ⊎_elim (λ z. omega arith) (λ w. omega arith) e

pub returns-in-58 : goal.returns-in-58
returns-in-58 c = sym (c.loop-b.invariant.2 ∙ colon _ _ _ _ c.loop-b-test.true c.in-58.is c.if-n-gt0.true)

pub returns-in_default : goal.returns-in_default
returns-in_default c = sym (c.loop-b.invariant.2 ∙ no-digits _ _ _ _ c.loop-b-test.true c.in-58.is c.if-n-gt0.false)

pub returns-in_default-2 : goal.returns-in_default-2
returns-in_default-2 c = sym (c.loop-b.invariant.2 ∙ below _ _ _ _ c.loop-b-test.true (omega arith))

pub returns-in_default-3 : goal.returns-in_default-3
returns-in_default-3 c = sym (c.loop-b.invariant.2 ∙ leading _ _ _ _ c.loop-b-test.true (omega arith) (omega arith) (omega arith) (omega arith))

pub returns-in_default-4 : goal.returns-in_default-4
returns-in_default-4 c = sym (c.loop-b.invariant.2 ∙ above _ _ _ _ c.loop-b-test.true (omega arith) (omega arith))

pub returns-then-v-gt16384 : goal.returns-then-v-gt16384
returns-then-v-gt16384 c =
    let d = digit c.args.s.now c.loop-b.b-index c.loop-b.n c.loop-b.v c.loop-b-test.true (omega arith) (omega arith) c.if-v-gt0.either in
    let h : 16384 < c.loop-b.v * 10 + (get_or c.args.s.now c.loop-b.b-index 0 - 48) = omega (arith, c.from.ensures, c.if-v-gt16384.true) in
    sym (c.loop-b.invariant.2 ∙ d ∙ rw (lt-leb _ _ h))

pub loop-b-preserved : goal.loop-b-preserved
loop-b-preserved c =
    let d = digit c.args.s.now c.loop-b.b-index c.loop-b.n c.loop-b.v c.loop-b-test.true (omega arith) (omega arith) c.if-v-gt0.either in
    let h : c.loop-b.v * 10 + (get_or c.args.s.now c.loop-b.b-index 0 - 48) ≤ 16384 = omega (arith, c.from.ensures, c.if-v-gt16384.false) in
    let f = few c.args.s.now c.loop-b.b-index c.loop-b.n c.loop-b.v c.loop-b-test.true (omega arith) (omega arith) c.if-v-gt0.either c.loop-b.invariant.0 in
    rw c.from.ensures (f, h, c.loop-b.invariant.2 ∙ d ∙ rw (le-leb _ _ h))

pub returns : goal.returns
unfolding digits_from
returns c =
    let h : length c.args.s.now ≤ c.loop-b.b-index = omega arith in
    rw c.loop-b.invariant.2 (rw (drop_of_length-le _ h))
