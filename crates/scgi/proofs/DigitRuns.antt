-- Laws of length digits that come in runs.
-- Assumes nothing.
use Prim.Native.Nat.{ℕ, suc, ◌+◌, ◌*◌, ◌-◌, ◌≤◌}
use Prim.{absurd}
use mathlib.Core.Path.{◌≡◌, refl, sym}
use mathlib.Core.Bool.{Bool, true, false, cond, not, ◌&&◌, false≢true}
use mathlib.Core.Logic.{⊎_elim}
use mathlib.Core.List.{List, [], ◌∷◌, ◌++◌}
use native.Mathlib.Omega.{arith}
use lib.Dec.{eqb, leb, ltb}
use lib.ListN.{length}
use borrow.Author.Tests.{ltb-true, ltb-false}
use Rattle.octets.specs.Outcome.{Outcome, gives, then, need}
use Rattle.octets.specs.Kinds.{is_digit}
use Rattle.scgi.specs.Digits.{digits_from}
use Rattle.scgi.specs.declared.netstring.Digits.{Digits}
use Rattle.scgi.specs.Claims.{DigitsWithin, go_on, DigitsGoOn}
use Rattle.scgi.proofs.LengthDigits.{length-digits}
use Rattle.scgi.proofs.Lengths.{Digit, step, not-zero, length-said}

-- the digits of two runs are those of the second after the first
pub two_runs : (s t : List ℕ) (n v : ℕ) → digits_from n v (s ++ t) ≡ then (digits_from n v s) (go_on t)
unfolding digits_from
two_runs [] t n v = refl
two_runs (b ∷ s) t n v =
    by (eqb b 58) (ltb 0 n) (is_digit b && not (ltb 0 n && eqb v 0)) (leb (v * 10 + (b - 48)) 16384) (digits_from (n + 1) (v * 10 + (b - 48)) (s ++ t))
    (digits_from (n + 1) (v * 10 + (b - 48)) s) (two_runs s t (n + 1) (v * 10 + (b - 48)))
  where
    by :
        (k u d m : Bool) (r q : Outcome Digits) → r ≡ then q (go_on t)
        → cond k (need u 2 (gives (record { count = n; value = v; colon = true }))) (need d 2 (need m 3 r))
        ≡ then (cond k (need u 2 (gives (record { count = n; value = v; colon = true }))) (need d 2 (need m 3 q))) (go_on t)
    by true true d m r q e = refl
    by true false d m r q e = refl
    by false u true true r q e = e
    by false u true false r q e = refl
    by false u false m r q e = refl

-- one byte less
shift : (n len : ℕ) (d : Digits) → DigitsWithin (n + 1) len d → DigitsWithin n (suc len) d
shift n len d w =
    record {
      few = w.few;
      small = w.small;
      onward = omega (arith, w.onward);
      colon_there = λ c. omega (arith, w.colon_there c);
      all_digits = λ c. omega (arith, w.all_digits c);
    }

-- a digit more, which is no leading 0
few-more : (n v b : ℕ) (rest : Outcome Digits) (d : Digits) → n ≤ v + 1 → Digit n v b rest d → n + 1 ≤ v * 10 + (b - 48) + 1
few-more n v b rest d few x = by (ltb 0 n) refl
  where
    by : (t : Bool) → ltb 0 n ≡ t → n + 1 ≤ v * 10 + (b - 48) + 1
    by true e = omega (arith, not-zero n v (ltb-true 0 n e) x.no_leading)
    by false e = omega (arith, ltb-false 0 n e)

pub digits-within : (s : List ℕ) (n v : ℕ) (d : Digits) → n ≤ v + 1 → v ≤ 16384 → digits_from n v s ≡ gives d → DigitsWithin n (length s) d
unfolding digits_from
digits-within [] n v d few small e =
    let x : d ≡ record { count = n; value = v; colon = false } = cc in
    rw x
    (record {
      few = few;
      small = small;
      onward = omega arith;
      colon_there = λ c. absurd (false≢true c);
      all_digits = λ c. omega arith;
    })
digits-within (b ∷ s) n v d few small e =
    ⊎_elim
    (λ c. rw c.gave
    (record {
      few = few;
      small = small;
      onward = omega arith;
      colon_there = λ x. omega arith;
      all_digits = λ x. absurd (false≢true (sym x));
    }))
    (λ x. shift n (length s) d
    (digits-within s (n + 1) (v * 10 + (b - 48)) d (few-more n v b (digits_from (n + 1) (v * 10 + (b - 48)) s) d few x) x.small x.next))
    (step n v b (digits_from (n + 1) (v * 10 + (b - 48)) s) d e)

pub digits-go-on : DigitsGoOn
digits-go-on = record { two_runs = two_runs; within = digits-within; length_is = length-digits; said = length-said }
