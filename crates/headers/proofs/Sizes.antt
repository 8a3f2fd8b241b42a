-- The values of different names fit in their block.
-- Assumes nothing.
use Prim.Native.Nat.{ℕ, ◌+◌, ◌≤◌}
use mathlib.Core.Path.{◌≡◌, refl, ap}
use mathlib.Core.Bool.{Bool, true, false, cond, not, ◌||◌}
use mathlib.Core.List.{List, [], ◌∷◌}
use Rattle.std.proofs.Common.{Some}
use native.Mathlib.Omega.{arith}
use lib.ListN.{length, length-append}
use borrow.Author.Tests.{not-true}
use Rattle.octets.specs.Compare.{same_bytes}
use Rattle.octets.specs.Lists.{is_in, different}
use Rattle.octets.proofs.Bools.{and_left, and_right}
use Rattle.octets.proofs.Compares.{same_true}
use Rattle.headers.specs.Block.{Header, printed}
use Rattle.headers.specs.Lookup.{value_in}
use Rattle.headers.specs.Sizes.{size_of, sizes_of}
use Rattle.headers.specs.Claims.{ValuesFit}
use Rattle.headers.proofs.Blocks.{printed-parsed}

abbrev header_size : Header → ℕ
header_size h = length h.name + length h.value + 2

-- a header more is counted once at most
one_more : (h : Header) (hs : List Header) (ns : List (List ℕ)) → different ns ≡ true → sizes_of ns (h ∷ hs) ≤ cond (is_in h.name ns) (header_size h) 0 + sizes_of ns hs
unfolding sizes_of value_in is_in different
one_more h hs [] d = omega arith
one_more h hs (n ∷ ns) d = by (same_bytes h.name n) refl (is_in h.name ns) refl (one_more h hs ns (and_right (not (is_in n ns)) (different ns) d))
  where
    by :
        (t : Bool) → same_bytes h.name n ≡ t → (u : Bool) → is_in h.name ns ≡ u → sizes_of ns (h ∷ hs) ≤ cond u (header_size h) 0 + sizes_of ns hs
        → size_of n (cond t (Some h.value) (value_in n hs)) + sizes_of ns (h ∷ hs) ≤ cond (t || u) (header_size h) 0 + (size_of n (value_in n hs) + sizes_of ns hs)
    by true e true f ih =
        let z : h.name ≡ n = same_true h.name n e in
        let y : is_in n ns ≡ false = not-true (is_in n ns) (and_left (not (is_in n ns)) (different ns) d) in
        let x : ◌≡◌ {A = ℕ} 0 1 = cc in
        omega arith
    by true e false f ih =
        let z : length h.name ≡ length n = ap length (same_true h.name n e) in
        omega arith
    by false e true f ih = omega arith
    by false e false f ih = omega arith

sizes-fit : (hs : List Header) (ns : List (List ℕ)) → different ns ≡ true → sizes_of ns hs ≤ length (printed hs)
unfolding sizes_of value_in different printed
sizes-fit [] [] d = omega arith
sizes-fit [] (n ∷ ns) d = omega (arith, sizes-fit [] ns (and_right (not (is_in n ns)) (different ns) d))
sizes-fit (h ∷ hs) ns d = by (is_in h.name ns) (one_more h hs ns d) (sizes-fit hs ns d)
  where
    by :
        (t : Bool) → sizes_of ns (h ∷ hs) ≤ cond t (header_size h) 0 + sizes_of ns hs → sizes_of ns hs ≤ length (printed hs)
        → sizes_of ns (h ∷ hs) ≤ length (printed (h ∷ hs))
    by true i j = simp length-append (omega arith)
    by false i j = simp length-append (omega arith)

pub values-fit : ValuesFit
values-fit block hs ns e d = omega (arith, sizes-fit hs ns d, ap length (printed-parsed block hs e))
