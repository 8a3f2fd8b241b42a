-- Laws of names passed over by their lengths: of each remainder by 128, the nearest name whose length has it.
-- Assumes nothing.
use Prim.Native.Nat.{ℕ, zero, suc, ◌+◌, ◌-◌, ◌%◌, ◌≤◌, ◌<◌}
use mathlib.Core.Path.{◌≡◌, refl, sym, ap, ◌∙◌}
use mathlib.Core.Bool.{Bool, true, false, not, ◌&&◌}
use mathlib.Core.List.{List}
use native.Mathlib.Nat.{add-zero}
use native.Mathlib.Omega.{arith}
use lib.Dec.{eqb, ltb}
use lib.ListN.{length, drop, get_or, set, replicate, length-set, length-replicate, get_or-replicate}
use lib.Seq.{get_or-set_same, get_or-set_other}
use borrow.Author.Tests.{eqb-true, eqb-false, ltb-true, ltb-false}
use Rattle.octets.specs.Outcome.{gives, then}
use Rattle.octets.specs.Lists.{is_in, different}
use Rattle.octets.specs.declared.span.Span.{Span}
use Rattle.octets.proofs.Bools.{and-false}
use Rattle.octets.proofs.Compares.{other-lengths}
use Rattle.headers.specs.Block.{parsed, names}
use Rattle.headers.specs.Lookup.{part_in}
use Rattle.headers.specs.Names.{NamesIn, AllInside, nowhere}
use Rattle.headers.proofs.NamePlaces.{parts, name-length, inside-at, in-next, in_end, differ-next, differ-end, known}

-- the length of the name with the number j
abbrev pub length_at : List Span → ℕ → ℕ
length_at ps j = (get_or ps j nowhere).len

-- for each remainder l, no name from k on and before the one that ns has for it has a length with that remainder
pub record Nearest (ps : List Span) (ns : List ℕ) (k : ℕ) : Type 0 where
  pub size : length ns ≡ 128
  pub later : (l : ℕ) → l < 128 → k ≤ get_or ns l 0
  pub few : (l : ℕ) → l < 128 → get_or ns l 0 ≤ length ps
  pub others : (l j : ℕ) → l < 128 → k ≤ j → j < get_or ns l 0 → length_at ps j % 128 ≡ l → ⊥

-- none is there
pub no-nearest : (ps : List Span) → Nearest ps (replicate 128 (length ps)) (length ps)
no-nearest ps =
    let n : ℕ = length ps in
    let at : (l : ℕ) → l < 128 → get_or (replicate 128 n) l 0 ≡ n = λ l h. get_or-replicate 128 l n 0 h in
    record {
      size = length-replicate 128 n;
      later = λ l h. omega (arith, at l h);
      few = λ l h. omega (arith, at l h);
      others = λ l j h a b e. omega (arith, at l h, a, b);
    }

-- one name more, in front
pub nearer :
    (ps : List Span) (ns : List ℕ) (k l : ℕ) → l ≡ length_at ps k % 128 → l < 128 → k < length ps → Nearest ps ns (k + 1) → Nearest ps (set ns l k) k
nearer ps ns k l e h w r =
    record {
      size = length-set ns l k ∙ r.size;
      later = λ m g. low m g (eqb m l) refl;
      few = λ m g. high m g (eqb m l) refl;
      others = λ m j g a b d. none m j g a b d (eqb m l) refl;
    }
  where
    own : get_or (set ns l k) l 0 ≡ k
    own = get_or-set_same ns l k 0 (omega (arith, r.size))

    low : (m : ℕ) → m < 128 → (t : Bool) → eqb m l ≡ t → k ≤ get_or (set ns l k) m 0
    low m g true q =
        let z : m ≡ l = eqb-true m l q in
        rw (z, own) (omega arith)
    low m g false q = rw (get_or-set_other ns l m k 0 (eqb-false m l q)) (omega (arith, r.later m g))

    high : (m : ℕ) → m < 128 → (t : Bool) → eqb m l ≡ t → get_or (set ns l k) m 0 ≤ length ps
    high m g true q =
        let z : m ≡ l = eqb-true m l q in
        rw (z, own) (omega arith)
    high m g false q = rw (get_or-set_other ns l m k 0 (eqb-false m l q)) (r.few m g)

    none : (m j : ℕ) → m < 128 → k ≤ j → j < get_or (set ns l k) m 0 → length_at ps j % 128 ≡ m → (t : Bool) → eqb m l ≡ t → ⊥
    none m j g a b d true q =
        let z : m ≡ l = eqb-true m l q in
        let y : j < get_or (set ns l k) l 0 = rw z at b in
        omega (arith, own, a, y)
    none m j g a b d false q =
        let y : j < get_or ns m 0 = rw (get_or-set_other ns l m k 0 (eqb-false m l q)) at b in
        first m j g a y d q (eqb j k) refl
      where
        first : (m j : ℕ) → m < 128 → k ≤ j → j < get_or ns m 0 → length_at ps j % 128 ≡ m → eqb m l ≡ false → (t : Bool) → eqb j k ≡ t → ⊥
        first m j g a y d q true w =
            let z : j ≡ k = eqb-true j k w in
            eqb-false m l q (sym d ∙ ap (λ x. length_at ps x % 128) z ∙ sym e)
        first m j g a y d q false w = r.others m j g (omega (arith, a, eqb-false j k w)) y d

-- a name is not among those of other lengths
module _ (x b : List ℕ) (ps : List Span) (i : AllInside b ps) where
  pub passed :
      (d k : ℕ) → ((j : ℕ) → k ≤ j → j < k + d → j < length ps → length x ≡ length_at ps j → ⊥)
      → is_in x (parts b (drop k ps)) ≡ is_in x (parts b (drop (k + d) ps))
  passed zero k h = ap (λ m. is_in x (parts b (drop m ps))) (sym (add-zero k))
  passed (suc d) k h =
      let z : k + 1 + d ≡ k + suc d = omega arith in
      one k (λ a e. h k (omega arith) (omega arith) a e)
      ∙ passed d (k + 1) (λ j a c. h j (omega arith) (omega arith))
      ∙ ap (λ m. is_in x (parts b (drop m ps))) z
    where
      one : (k : ℕ) → (k < length ps → length x ≡ length_at ps k → ⊥) → is_in x (parts b (drop k ps)) ≡ is_in x (parts b (drop (k + 1) ps))
      one k h = by (ltb k (length ps)) refl
        where
          by : (t : Bool) → ltb k (length ps) ≡ t → is_in x (parts b (drop k ps)) ≡ is_in x (parts b (drop (k + 1) ps))
          by true e =
              let a : k < length ps = ltb-true k (length ps) e in
              in-next x b ps k a ∙ rw (other-lengths x (part_in b (get_or ps k nowhere)) (λ l. h a (l ∙ name-length b (get_or ps k nowhere) (inside-at b ps k nowhere i a))))
          by false e =
              let a : length ps ≤ k = ltb-false k (length ps) e in
              in_end x b ps k a ∙ sym (in_end x b ps (k + 1) (omega arith))

-- the name with the number k stands again among those behind it if it does among those from the nearest of its length on
pub from-nearest :
    (b : List ℕ) (ps : List Span) (ns : List ℕ) (k l : ℕ) → AllInside b ps → k < length ps → l ≡ length_at ps k % 128 → l < 128 → Nearest ps ns (k + 1)
    → is_in (part_in b (get_or ps k nowhere)) (parts b (drop (k + 1) ps)) ≡ is_in (part_in b (get_or ps k nowhere)) (parts b (drop (get_or ns l 0) ps))
from-nearest b ps ns k l i h e g r =
    let p : Span = get_or ps k nowhere in
    let z : k + 1 + (get_or ns l 0 - (k + 1)) ≡ get_or ns l 0 = omega (arith, r.later l g) in
    passed (part_in b p) b ps i (get_or ns l 0 - (k + 1)) (k + 1)
    (λ j a c u q. r.others l j g a (omega (arith, z)) (ap (λ m. m % 128) (sym q ∙ name-length b p (inside-at b ps k nowhere i h)) ∙ sym e))
    ∙ ap (λ m. is_in (part_in b p) (parts b (drop m ps))) z

-- two equal names are two equal names among more
pub not-all : (b : List ℕ) (ps : List Span) (k : ℕ) → k ≤ length ps → different (parts b (drop k ps)) ≡ false → different (parts b ps) ≡ false
not-all b ps zero h e = e
not-all b ps (suc k) h e = not-all b ps k (omega arith) (differ-next b ps k (omega arith) ∙ more)
  where
    z : k + 1 ≡ suc k
    z = omega arith

    more : not (is_in (part_in b (get_or ps k nowhere)) (parts b (drop (k + 1) ps))) && different (parts b (drop (k + 1) ps)) ≡ false
    more = rw (z, e) (and-false (not (is_in (part_in b (get_or ps k nowhere)) (parts b (drop (suc k) ps)))))

last : (t : Bool) → not t && true ≡ not t
last true = refl
last false = refl

-- A walk from the last name to the first, that has come to the name with the number k: those from there on differ.
pub record Passing (b : List ℕ) (ps : List Span) (ns : List ℕ) (k : ℕ) : Type 0 where
  pub few : k ≤ length ps
  pub nearest : Nearest ps ns k
  pub differ : different (parts b (drop k ps)) ≡ true

pub begun : (b : List ℕ) (ps : List Span) → Passing b ps (replicate 128 (length ps)) (length ps)
begun b ps = record { few = omega arith; nearest = no-nearest ps; differ = differ-end b ps (length ps) (omega arith) }

module _ {b : List ℕ} {ps : List Span} {ns : List ℕ} {k : ℕ} (p : NamesIn b ps) (s : Passing b ps ns k) where
  pub walked : k ≤ 0 → then (parsed b) (λ hs. gives (different (names hs))) ≡ gives true
  walked h =
      let z : k ≡ 0 = omega arith in
      (known b ps p).answer ∙ ap gives (rw z at s.differ)

  module _ (h : 0 < k) where
    z : k - 1 + 1 ≡ k
    z = omega arith

    -- whether the name before k stands again from the nearest of its length on
    abbrev pub again : Bool
    again = is_in (part_in b (get_or ps (k - 1) nowhere)) (parts b (drop (get_or ns (length_at ps (k - 1) % 128) 0) ps))

    before : different (parts b (drop (k - 1) ps)) ≡ not again
    before =
        let r : Nearest ps ns (k - 1 + 1) = rw z s.nearest in
        let d : different (parts b (drop (k - 1 + 1) ps)) ≡ true = rw z s.differ in
        differ-next b ps (k - 1) (omega (arith, s.few))
        ∙ rw (from-nearest b ps ns (k - 1) _ (known b ps p).inside (omega (arith, s.few)) refl (omega arith) r, d) (last again)

    pub hit : again ≡ true → then (parsed b) (λ hs. gives (different (names hs))) ≡ gives false
    hit e = (known b ps p).answer ∙ ap gives (not-all b ps (k - 1) (omega (arith, s.few)) (before ∙ ap not e))

    pub miss : again ≡ false → Passing b ps (set ns (length_at ps (k - 1) % 128) (k - 1)) (k - 1)
    miss e =
        record {
          few = omega (arith, s.few);
          nearest = nearer ps ns (k - 1) _ refl (omega arith) (omega (arith, s.few)) (rw z s.nearest);
          differ = before ∙ ap not e;
        }
