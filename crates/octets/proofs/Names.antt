-- Names that differ: the tests say what `Different` says, and hold of lists that are put together.
-- Assumes nothing.
use Prim.Native.Nat.{ℕ}
use Prim.{absurd}
use mathlib.Core.Path.{◌≡◌, refl, sym, ap, ◌∙◌}
use mathlib.Core.Bool.{Bool, true, false, not, ◌||◌}
use mathlib.Core.List.{List, [], ◌∷◌, ◌++◌}
use native.Mathlib.Omega.{arith}
use borrow.Author.Tests.{not-true}
use Rattle.octets.specs.Compare.{same_bytes}
use Rattle.octets.specs.Lists.{All, no_more, ◌&◌, is_in, different, Different, no_name, one_more}
use Rattle.octets.proofs.Bools.{and_left, and_right, or-false}
use Rattle.octets.proofs.Compares.{same_refl, same_false}

pub not_in : (n : List ℕ) (ns : List (List ℕ)) → All (λ m. n ≡ m → ⊥) ns → is_in n ns ≡ false
unfolding is_in
not_in n [] p = refl
not_in n (m ∷ ns) (h & p) = rw (same_false n m h, not_in n ns p)

pub in-none : (n : List ℕ) (ns : List (List ℕ)) → is_in n ns ≡ false → All (λ m. n ≡ m → ⊥) ns
unfolding is_in
in-none n [] e = no_more
in-none n (m ∷ ns) e = by (same_bytes n m) refl e (in-none n ns)
  where
    by : (t : Bool) → same_bytes n m ≡ t → t || is_in n ns ≡ false → (is_in n ns ≡ false → All (λ m. n ≡ m → ⊥) ns) → All (λ m. n ≡ m → ⊥) (m ∷ ns)
    by true q f ih = absurd (let z : ◌≡◌ {A = ℕ} 0 1 = cc in omega arith)
    by false q f ih = (λ x. let z : ◌≡◌ {A = Bool} true false = sym (same_refl n) ∙ ap (same_bytes n) x ∙ q in let y : ◌≡◌ {A = ℕ} 0 1 = cc in omega arith) & ih f

pub different-test : (ns : List (List ℕ)) → Different ns → different ns ≡ true
unfolding different
different-test [] no_name = refl
different-test (n ∷ ns) (one_more p d) = rw (not_in n ns p, different-test ns d)

pub test-different : (ns : List (List ℕ)) → different ns ≡ true → Different ns
unfolding different
test-different [] e = no_name
test-different (n ∷ ns) e =
    one_more (in-none n ns (not-true (is_in n ns) (and_left (not (is_in n ns)) (different ns) e)))
    (test-different ns (and_right (not (is_in n ns)) (different ns) e))

pub is-in-append : (n : List ℕ) (a b : List (List ℕ)) → is_in n a ≡ false → is_in n b ≡ false → is_in n (a ++ b) ≡ false
unfolding is_in
is-in-append n [] b e d = d
is-in-append n (m ∷ a) b e d = by (same_bytes n m) e (λ e'. is-in-append n a b e' d)
  where
    by : (t : Bool) → t || is_in n a ≡ false → (is_in n a ≡ false → is_in n (a ++ b) ≡ false) → t || is_in n (a ++ b) ≡ false
    by true q ih = q
    by false q ih = ih q

pub different-append :
    (a b : List (List ℕ)) → different a ≡ true → All (λ n. is_in n b ≡ false) a → different b ≡ true → different (a ++ b) ≡ true
unfolding different
different-append [] b e p d = d
different-append (n ∷ a) b e (q & p) d =
    rw (is-in-append n a b (not-true _ (and_left _ (different a) e)) q, different-append a b (and_right (not (is_in n a)) _ e) p d)

-- a name of lists that are put together is one of either
pub in_either : (n : List ℕ) (a b : List (List ℕ)) → is_in n (a ++ b) ≡ is_in n a || is_in n b
unfolding is_in
in_either n [] b = refl
in_either n (m ∷ a) b = rw (in_either n a b) (by (same_bytes n m))
  where
    by : (t : Bool) → t || (is_in n a || is_in n b) ≡ (t || is_in n a) || is_in n b
    by true = refl
    by false = refl

-- the first of a list, or one of the others
pub in_first : (n m : List ℕ) (ms : List (List ℕ)) → same_bytes n m ≡ true → is_in n (m ∷ ms) ≡ true
unfolding is_in
in_first n m ms e = rw e

pub in_others : (n m : List ℕ) (ms : List (List ℕ)) → same_bytes n m ≡ false → is_in n (m ∷ ms) ≡ is_in n ms
unfolding is_in
in_others n m ms e = rw e

-- the only one of a list
pub in_one : (n m : List ℕ) → is_in n (m ∷ []) ≡ same_bytes n m
unfolding is_in
in_one n m = or-false (same_bytes n m)
