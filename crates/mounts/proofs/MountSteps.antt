-- Laws of the check of mounts, from header to header.
-- Assumes nothing.
use Prim.{absurd}
use Prim.Native.Nat.{ℕ, ◌+◌, ◌-◌, ◌≤◌, ◌<◌}
use mathlib.Core.Path.{◌≡◌, refl, sym, ap, ◌∙◌}
use mathlib.Core.Bool.{Bool, true, false, ◌&&◌}
use mathlib.Core.List.{List, [], ◌∷◌, ◌++◌}
use Rattle.std.proofs.Common.{Option, None, Some, Result, Ok, Err, IsOk, is_some}
use native.Mathlib.Omega.{arith}
use lib.Dec.{eqb, leb, ltb}
use lib.ListN.{length, take, drop, get_or, length-take, length-drop, drop_of_length-le}
use borrow.Author.Rules.{rules}
use borrow.Author.Tests.{eq-eqb, ne_eqb, eqb-true, eqb-false, lt-leb, le-leb, ltb-true, ltb-false}
use Rattle.octets.specs.Outcome.{Outcome, refused, gives, is_good, then, need, given}
use Rattle.octets.specs.Lists.{different}
use Rattle.octets.specs.Refusal.{number_of}
use Rattle.octets.specs.declared.refusal.Refusal.{Refusal}
use Rattle.octets.specs.Parts.{parted}
use Rattle.octets.proofs.Bools.{and_left, and_right}
use Rattle.octets.proofs.Lists.{part-first, part-last}
use Rattle.octets.proofs.Outcomes.{given-gives, gives-once, then-gives}
use Rattle.headers.specs.Block.{Header, names, headers_of, paired, parsed, well_formed, header_in, header_ends, header_outcome, HeaderFound}
use Rattle.headers.specs.declared.block.HeaderPlace.{HeaderPlace}
use Rattle.headers.proofs.Claims.{well-formed-headed, header-parses}
use Rattle.mounts.specs.Blocks.{block_of, many_for, lacks_room, BlockGood}
use Rattle.mounts.specs.Value.{value_of, value_outcome}
use Rattle.mounts.specs.declared.value.Value.{Value}
use Rattle.mounts.specs.Mounts.{Mount, begins, ends, mount_at, mounts_from, mounts_of}
use Rattle.mounts.proofs.BlockSteps.{blocks-hold}

-- A header that is a mount, by the bytes at the ends of its name and value.

and-true : (t : Bool) → t && true ≡ t
and-true true = refl
and-true false = refl

last-ends : (x : ℕ) (s : List ℕ) (b : ℕ) → ends x (s ++ b ∷ []) ≡ eqb b x
unfolding ends
last-ends x [] b = refl
last-ends x (a ∷ []) b = refl
last-ends x (a ∷ (c ∷ s)) b = last-ends x (c ∷ s) b

-- the header at i of b: its name ends at n, its value at v
module _ (b : List ℕ) (i n v : ℕ) (o : (i < n) × (n < v) × (v < length b)) where
  -- whether it is a mount
  abbrev pub is_mount : Bool
  is_mount = is_good (mount_at (i + length (header_in b i n v).name + 1) (header_in b i n v))

  name-first : begins (47 ∷ []) (header_in b i n v).name ≡ eqb 47 (get_or b i 0)
  unfolding begins
  name-first = ap (begins (47 ∷ [])) (part-first b i n o.0 (omega arith)) ∙ and-true (eqb 47 (get_or b i 0))

  name-last : ends 47 (header_in b i n v).name ≡ eqb (get_or b (n - 1) 0) 47
  name-last = ap (ends 47) (part-last b i n o.0 (omega arith)) ∙ last-ends 47 (take (n - 1 - i) (drop i b)) (get_or b (n - 1) 0)

  value-length : length (header_in b i n v).value ≡ v - (n + 1)
  value-length = simp (length-take, length-drop) (omega arith)

  -- where the next one stands
  pub behind : i + length (header_in b i n v).name + 1 + length (header_in b i n v).value + 1 ≡ v + 1
  behind =
      let l : length (header_in b i n v).name ≡ n - i = simp (length-take, length-drop) (omega arith) in
      omega (arith, l, value-length)

  -- it is none where its name begins with another byte, or ends with a slash
  pub bad-name : (get_or b i 0 ≡ 47 → get_or b (n - 1) 0 ≡ 47) → is_mount ≡ false
  bad-name h = by (eqb (get_or b i 0) 47) refl
    where
      by : (t : Bool) → eqb (get_or b i 0) 47 ≡ t → is_mount ≡ false
      by true q =
          let f = eqb-true (get_or b i 0) 47 q in
          rw (name-first ∙ eq-eqb 47 (get_or b i 0) (sym f), name-last ∙ eq-eqb (get_or b (n - 1) 0) 47 (h f))
      by false q = rw (name-first ∙ ne_eqb 47 (get_or b i 0) (λ e. eqb-false (get_or b i 0) 47 q (sym e)))

  module _ (f : get_or b i 0 ≡ 47) where
    first_is : begins (47 ∷ []) (header_in b i n v).name ≡ true
    first_is = name-first ∙ eq-eqb 47 (get_or b i 0) (sym f)

    module _ (l : get_or b (n - 1) 0 ≡ 47 → ⊥) where
      last-is : ends 47 (header_in b i n v).name ≡ false
      last-is = name-last ∙ ne_eqb (get_or b (n - 1) 0) 47 l

      -- by what the value says
      pub by-value : (o : Option Value) → value_outcome o ≡ value_of (header_in b i n v).value → is_mount ≡ is_some o
      by-value None e = rw (first_is, last-is, ← e)
      by-value (Some w) e = rw (first_is, last-is, ← e)

-- the header that was found at i
pub found_at : (b : List ℕ) (i : ℕ) (o : Outcome HeaderPlace) → i < length b → o ≡ header_ends b i → HeaderFound b i o
found_at b i o h e = rw (sym e) at (header-parses b i h)

-- Going from mount to mount: those before i are mounts.

abbrev pub mounts_in : List ℕ → Outcome (List Mount)
mounts_in b = then (parsed b) (mounts_from 0)

pub record Walk (b : List ℕ) (i : ℕ) : Type 0 where
  pub hs : List Header
  pub rest : parsed (drop i b) ≡ gives hs
  pub answer : is_good (mounts_in b) ≡ is_good (mounts_from i hs)

pub start : (b : List ℕ) → well_formed b ≡ true → Walk b 0
start b w =
    let p = (well-formed-headed b).0 w in
    record { hs = p.hs; rest = p.is; answer = rw p.is }

-- one mount more is good where it is one and the others are
good_more : (o : Outcome Mount) (p : Outcome (List Mount)) → is_good o ≡ true → is_good (then o (λ m. then p (λ ms. gives (m ∷ ms)))) ≡ is_good p
good_more (gives m) (gives ms) e = refl
good_more (gives m) (refused k) e = refl
good_more (refused n) p e = cc

bad_more : (o : Outcome Mount) (p : Outcome (List Mount)) → is_good o ≡ false → is_good (then o (λ m. then p (λ ms. gives (m ∷ ms)))) ≡ false
bad_more (gives m) p e = cc
bad_more (refused n) p e = refl

-- one header more
pub record Step (b : List ℕ) (v : ℕ) (t : Bool) : Type 0 where
  pub good : t ≡ true → Walk b (v + 1)
  pub bad : t ≡ false → is_good (mounts_in b) ≡ false

module _ {b : List ℕ} {i : ℕ} (w : Walk b i) where
  pub step : (p : HeaderPlace) (h : HeaderFound b i (gives p)) → Step b p.value_end (is_mount b i p.name_end p.value_end h.order)
  unfolding mounts_from
  step q h =
      let v : ℕ = q.value_end in
      let x = header_in b i q.name_end v in
      let g = then-gives (parsed (drop (v + 1) b)) (λ gs. gives (x ∷ gs)) w.hs (h.answer ∙ w.rest) in
      let z : x ∷ g.it ≡ w.hs = gives-once _ _ g.next in
      let m = mount_at (i + length x.name + 1) x in
      let a : is_good (mounts_in b) ≡ is_good (mounts_from i (x ∷ g.it)) = w.answer ∙ ap (λ (hs : List Header). is_good (mounts_from i hs)) (sym z) in
      let p = mounts_from (i + length x.name + 1 + length x.value + 1) g.it in
      record {
        good = λ t.
            record {
              hs = g.it;
              rest = g.first;
              answer = a ∙ good_more m p t ∙ ap (λ (k : ℕ). is_good (mounts_from k g.it)) (behind b i q.name_end v h.order);
            };
        bad = λ t. a ∙ bad_more m p t;
      }

  pub always-header : (r : Result HeaderPlace Refusal) → HeaderFound b i (header_outcome r) → IsOk r
  always-header (Ok p) h = search rules
  always-header (Err k) h =
      let e : refused (number_of k) ≡ gives w.hs = h.answer ∙ w.rest in
      absurd (let z : ◌≡◌ {A = ℕ} 0 1 = cc in omega arith)

  pub no_more : length b ≤ i → is_good (mounts_in b) ≡ true
  unfolding mounts_from parted paired
  no_more h =
      let z : w.hs ≡ [] = gives-once _ _ (sym w.rest ∙ rw (drop_of_length-le b h)) in
      w.answer ∙ ap (λ (hs : List Header). is_good (mounts_from i hs)) z

-- The block of the mounts.

module _ (b : List ℕ) where
  -- a list of 32 places has room for the names of 32 mounts
  pub too_many : lacks_room 4096 32 b ≡ true → is_good (mounts_of b) ≡ false
  unfolding mounts_of
  too_many e = by (headers_of b) (and_right (leb (length b) 4096) (many_for 32 (headers_of b)) e)
    where
      many : (hs : List Header) (t : Bool) → leb (length hs) 32 ≡ false → is_good (then (need t 20 (gives hs)) (λ xs. need (leb (length xs) 32) 20 (mounts_from 0 xs))) ≡ false
      many hs true q = rw q
      many hs false q = refl

      by :
          (o : Option (List Header)) → many_for 32 o ≡ true
          → is_good (then (need (leb (length b) 4096) 20 (then (given o 20) (λ hs. need (different (names hs)) 20 (gives hs)))) (λ hs. need (leb (length hs) 32) 20 (mounts_from 0 hs)))
          ≡ false
      by None q = cc
      by (Some hs) q =
          let h : 32 < length hs = ltb-true 32 (length hs) q in
          rw (and_left (leb (length b) 4096) (many_for 32 (headers_of b)) e)
          (many hs (different (names hs)) (lt-leb (length hs) 32 h))

  pub bad-block : block_of 4096 b ≡ refused 20 → is_good (mounts_of b) ≡ false
  unfolding mounts_of
  bad-block e = rw e

  pub good-block : lacks_room 4096 32 b ≡ false → BlockGood 4096 b → is_good (mounts_in b) ≡ is_good (mounts_of b)
  unfolding mounts_of
  good-block l g =
      let w = le-leb (length b) 4096 (blocks-hold.accepts 4096 b g.hs g.accepted).within in
      let r : ltb 32 (length g.hs) ≡ false = rw (w, given-gives (headers_of b) 5 g.hs g.headers) at l in
      let f : length g.hs ≤ 32 = ltb-false 32 (length g.hs) r in
      rw (g.headers, g.accepted, le-leb (length g.hs) 32 f)
