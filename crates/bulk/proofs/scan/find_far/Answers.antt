use mathlib.Core.Path.{◌≡◌, refl, sym, ap}
use mathlib.Core.Bool.{Bool, true, false, not, cond}
use mathlib.Core.List.{List, [], ◌∷◌}
use Prim.Native.Nat.{ℕ, zero, suc, ◌+◌, ◌≤◌, ◌<◌}
use native.Mathlib.Omega.{arith}
use lib.Dec.{eqb}
use lib.ListN.{length, drop, get_or, length-drop}
use Rattle.octets.specs.Scan.{run, other}
use Rattle.octets.proofs.Lists.{from}
use Rattle.bulk.proofs.scan.find_far.Goals as goal

module _ (x : ℕ) where
  -- the run ends at the first x
  first-at :
      (t : List ℕ) (k : ℕ) → k < length t → ((j : ℕ) → 0 ≤ j → j < k → eqb (get_or t j 0) x ≡ true → ⊥)
      → eqb (get_or t k 0) x ≡ true → run (other x) t ≡ k
  unfolding run
  first-at [] k h n p = absurd (omega arith)
  first-at (b ∷ t) zero h n p = rw p
  first-at (b ∷ t) (suc k) h n p = by (eqb b x) (n 0 (omega arith) (omega arith)) (first-at t k (omega arith) (λ j z l. n (suc j) (omega arith) (omega arith)) p)
    where
      by : (e : Bool) → (e ≡ true → ⊥) → run (other x) t ≡ k → cond (not e) (suc (run (other x) t)) 0 ≡ suc k
      by true f ih = absurd (f refl)
      by false f ih = ap suc ih

  -- .. or where the list does
  first-none : (t : List ℕ) → ((j : ℕ) → 0 ≤ j → j < length t → eqb (get_or t j 0) x ≡ true → ⊥) → run (other x) t ≡ length t
  unfolding run
  first-none [] n = refl
  first-none (b ∷ t) n = by (eqb b x) (n 0 (omega arith) (omega arith)) (first-none t (λ j z l. n (suc j) (omega arith) (omega arith)))
    where
      by : (e : Bool) → (e ≡ true → ⊥) → run (other x) t ≡ length t → cond (not e) (suc (run (other x) t)) 0 ≡ suc (length t)
      by true f ih = absurd (f refl)
      by false f ih = ap suc ih

pub returns-in-Some : goal.returns-in-Some
returns-in-Some c =
    let e = c.in-Some.ensures in
    let f = rw (from c.args.s.now c.args.from) at e in
    ap (◌+◌ c.args.from) (sym (first-at c.args.b _ _ f.0.high f.0.before f.1))

pub returns-in-None : goal.returns-in-None
returns-in-None c =
    let e = c.in-None.ensures in
    let f = rw (from c.args.s.now c.args.from) at e in
    omega (arith, first-none c.args.b (drop c.args.from c.args.s.now) f, length-drop c.args.from c.args.s.now)
