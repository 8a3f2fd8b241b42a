-- Laws of a mount's value, by the place of its first `;`.
-- Assumes nothing.
use Prim.Native.Nat.{ℕ, suc, ◌+◌, ◌*◌, ◌-◌, ◌≤◌, ◌<◌}
use Prim.{absurd}
use mathlib.Core.Path.{◌≡◌, refl, sym, ap, ◌∙◌}
use mathlib.Core.Bool.{Bool, true, false, cond, not}
use mathlib.Core.List.{List, [], ◌∷◌}
use Rattle.std.proofs.Common.{Option, None, Some}
use native.Mathlib.Omega.{arith}
use lib.Dec.{eqb, leb, ltb}
use lib.ListN.{length, take, drop}
use lib.Seq.{take-length, length-take-le}
use borrow.Author.Tests.{eqb-true, le-leb, lt-leb, leb-true, ltb-true, ltb-false}
use Rattle.octets.specs.Outcome.{refused, gives, then, need, given}
use Rattle.octets.specs.Kinds.{is_digit, within}
use Rattle.octets.specs.Parts.{Parts, parted}
use Rattle.octets.specs.Scan.{run, other}
use Rattle.octets.specs.Decimal.{number_from, number_of}
use Rattle.octets.proofs.Lists.{from, nil-empty, nil-filled}
use Rattle.octets.proofs.Outcomes.{need-gives, gives-once, then-gives}
use Rattle.octets.proofs.Parting.{part-found, part_none}
use Rattle.octets.proofs.Scans.{run-le}
use Rattle.mounts.specs.Value.{pool_of, limit_by, limit_of, value_of}

-- no number has a byte in it that is no digit
no_number : (x : ℕ) → is_digit x ≡ false → (v : ℕ) (s : List ℕ) → run (other x) s < length s → number_from v s ≡ None
unfolding run number_from
no_number x d v [] h = absurd (omega arith)
no_number x d v (b ∷ s) h = by (eqb b x) refl h (no_number x d (v * 10 + (b - 48)) s)
  where
    stops : (t : Bool) → number_from (v * 10 + (b - 48)) s ≡ None → cond t (number_from (v * 10 + (b - 48)) s) None ≡ None
    stops true e = e
    stops false e = refl

    by :
        (t : Bool) → eqb b x ≡ t → cond (not t) (suc (run (other x) s)) 0 < suc (length s)
        → (run (other x) s < length s → number_from (v * 10 + (b - 48)) s ≡ None)
        → cond (is_digit b) (number_from (v * 10 + (b - 48)) s) None ≡ None
    by true q k ih = rw (ap is_digit (eqb-true b x q) ∙ d)
    by false q k ih = stops (is_digit b) (ih (omega arith))

no-numbers : (s : List ℕ) → run (other 59) s < length s → number_of s ≡ None
unfolding is_digit
no-numbers s h = by (within 1 10 (length s))
  where
    by : (t : Bool) → cond t (number_from 0 s) None ≡ None
    by true = no_number 59 refl 0 s h
    by false = refl

-- the limit that the bytes behind the first `;` say: a second `;` is no digit
limit-behind : (t : List ℕ) → limit_by ((parted 59 t).first ∷ (parted 59 t).others) ≡ then (given (number_of t) 20) (λ n. need (leb n 1048576) 20 (gives n))
limit-behind t = by (ltb (run (other 59) t) (length t)) refl
  where
    by : (u : Bool) → ltb (run (other 59) t) (length t) ≡ u → limit_by ((parted 59 t).first ∷ (parted 59 t).others) ≡ then (given (number_of t) 20) (λ n. need (leb n 1048576) 20 (gives n))
    by true q =
        let h = ltb-true (run (other 59) t) (length t) q in
        rw (part-found 59 t h, no-numbers t h)
    by false q = rw (part_none 59 t (ltb-false (run (other 59) t) (length t) q))

-- the pool ends at the first `;`
pub pool-is : (v : List ℕ) → pool_of v ≡ take (run (other 59) v) v
pool-is v = by (ltb (run (other 59) v) (length v)) refl
  where
    by : (u : Bool) → ltb (run (other 59) v) (length v) ≡ u → pool_of v ≡ take (run (other 59) v) v
    by true q = ap (λ (p : Parts). p.first) (part-found 59 v (ltb-true (run (other 59) v) (length v) q))
    by false q =
        let h = ltb-false (run (other 59) v) (length v) q in
        let e : run (other 59) v ≡ length v = omega (arith, run-le (other 59) v) in
        ap (λ (p : Parts). p.first) (part_none 59 v h) ∙ sym (take-length v) ∙ ap (λ (n : ℕ). take n v) (sym e)

pub pool-length : (v : List ℕ) → length (pool_of v) ≡ run (other 59) v
pool-length v = rw (pool-is v) (length-take-le (run (other 59) v) v (run-le (other 59) v))

-- the first `;` is found at `end`, or none is, and `end` is the value's length
module _ (v : List ℕ) (end : ℕ) (found : end ≡ 0 + run (other 59) v) where
  is : end ≡ run (other 59) v
  is = omega arith

  pub empty-pool : end ≡ 0 → value_of v ≡ refused 20
  unfolding value_of
  empty-pool h = rw (nil-empty (pool_of v) (pool-length v ∙ sym is ∙ h))

  module _ (f : end ≡ 0 → ⊥) where
    filled : value_of v ≡ then (limit_of v) (λ n. gives (record { len = end; limit = n }))
    unfolding value_of
    filled = rw (nil-filled (pool_of v) (omega (arith, pool-length v)), pool-length v ∙ sym is)

    pub no-limit : end ≡ length v → value_of v ≡ gives (record { len = end; limit = 1048576 })
    no-limit h = filled ∙ rw (part_none 59 v (omega arith))

    module _ (h : end ≡ length v → ⊥) where
      pub inside : end < length v
      inside = omega (arith, run-le (other 59) v)

      -- what the bytes behind it say
      abbrev number : Option ℕ
      number = number_of (take (length v - (end + 1)) (drop (end + 1) v))

      behind : limit_of v ≡ then (given number 20) (λ n. need (leb n 1048576) 20 (gives n))
      behind =
          ap (λ (p : Parts). limit_by p.others) (part-found 59 v (omega (arith, inside)))
          ∙ limit-behind (drop (run (other 59) v + 1) v)
          ∙ ap (λ (s : List ℕ). then (given (number_of s) 20) (λ n. need (leb n 1048576) 20 (gives n)))
          (ap (λ (k : ℕ). drop (k + 1) v) (sym is) ∙ sym (from v (end + 1)))

      by-limit : (o : Option ℕ) → number ≡ o → value_of v ≡ then (then (given o 20) (λ n. need (leb n 1048576) 20 (gives n))) (λ n. gives (record { len = end; limit = n }))
      by-limit o e = filled ∙ rw (behind ∙ ap (λ (x : Option ℕ). then (given x 20) (λ n. need (leb n 1048576) 20 (gives n))) e)

      pub bad-number : number ≡ None → value_of v ≡ refused 20
      bad-number e = by-limit None e

      module _ (n : ℕ) (e : number ≡ Some n) where
        pub above-limit : 1048576 < n → value_of v ≡ refused 20
        above-limit l = by-limit (Some n) e ∙ rw (lt-leb n 1048576 l)

        pub is-limit : n ≤ 1048576 → value_of v ≡ gives (record { len = end; limit = n })
        is-limit l = by-limit (Some n) e ∙ rw (le-leb n 1048576 l)

-- a limit is never above the old one
pub limit-small : (v : List ℕ) (n : ℕ) → limit_of v ≡ gives n → n ≤ 1048576
limit-small v n e = by (parted 59 v).others e
  where
    by : (ts : List (List ℕ)) → limit_by ts ≡ gives n → n ≤ 1048576
    by [] q = omega (arith, gives-once 1048576 n q)
    by (t ∷ []) q =
        let a = then-gives (given (number_of t) 20) _ n q in
        let b = need-gives (leb a.it 1048576) 20 (gives a.it) n a.next in
        omega (arith, leb-true a.it 1048576 b.0, gives-once a.it n b.1)
    by (t ∷ (u ∷ ts)) q = let z : ◌≡◌ {A = ℕ} 0 1 = cc in omega arith
