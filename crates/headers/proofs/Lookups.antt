-- Laws of looking a name up, for a reader that goes from header to header, and for those that use its answer.
-- Assumes nothing.
use Prim.Native.Nat.{ℕ, ◌+◌, ◌-◌, ◌*◌, ◌≤◌, ◌<◌}
use Prim.{absurd}
use mathlib.Core.Path.{◌≡◌, refl, sym, ap, ◌∙◌}
use mathlib.Core.Bool.{Bool, true, false, cond, false≢true}
use mathlib.Core.List.{List, [], ◌∷◌, ◌++◌}
use Rattle.std.proofs.Common.{Option, None, Some}
use native.Mathlib.Omega.{arith}
use lib.ListN.{length, take, drop, length-take, length-drop, length-append}
use lib.Seq.{take-append_seam}
use Rattle.octets.specs.Outcome.{Outcome, refused, gives, then, given}
use Rattle.octets.specs.Compare.{same_bytes}
use Rattle.octets.specs.Lists.{All, ◌&◌, is_nil}
use Rattle.octets.proofs.Outcomes.{then-gives, given-gives}
use Rattle.headers.specs.Block.{Header, printed, headers_of, parsed, is_some, well_formed, count_of, header_in, HeaderFound, Proper}
use Rattle.octets.specs.declared.span.Span.{Span}
use Rattle.headers.specs.Lookup.{part_option, place_in, value_in, lookup_of}
use Rattle.headers.specs.Claims.{Headed, LookupFindsValue, WellFormedHeaded, HeadersFew, HeadersProper}
use Rattle.headers.specs.Setting.{first_found, setting_of}
use Rattle.headers.specs.declared.block.HeaderPlace.{HeaderPlace}
use Rattle.headers.specs.declared.setting.Held.TheVariants.{First, Second}
use Rattle.headers.proofs.Blocks.{printed-read, behind-name, behind-printed}
use Rattle.headers.proofs.Walks.{behind-header, none-behind, counted}

-- Well formed blocks.

well : (b : List ℕ) → well_formed b ≡ true → Headed b
well b e = by (headers_of b) refl e
  where
    by : (o : Option (List Header)) → headers_of b ≡ o → is_some o ≡ true → Headed b
    by None p t = absurd (false≢true t)
    by (Some hs) p t = record { hs = hs; is = rw p }

well-parsed : (b : List ℕ) (hs : List Header) → parsed b ≡ gives hs → well_formed b ≡ true
well-parsed b hs e = by (headers_of b) e
  where
    by : (o : Option (List Header)) → given o 5 ≡ gives hs → is_some o ≡ true
    by None q = cc
    by (Some gs) q = refl

-- a block whose headers are counted is well formed
pub well-counted : (b : List ℕ) (n : ℕ) → count_of b ≡ gives n → well_formed b ≡ true
well-counted b n e =
    let g = counted b n e in
    well-parsed b g.hs g.is

pub well-formed-headed : WellFormedHeaded
well-formed-headed b = (well b, λ p. well-parsed b p.hs p.is)

-- a header takes three bytes or more
named-length : (n : List ℕ) → is_nil n ≡ false → 0 < length n
named-length [] e = absurd (false≢true (sym e))
named-length (b ∷ n) e = omega arith

printed-length : (hs : List Header) → All Proper hs → 3 * length hs ≤ length (printed hs)
unfolding printed
printed-length [] p = omega arith
printed-length (h ∷ hs) (p & ps) = simp length-append (omega (arith, named-length h.name p.named, printed-length hs ps))

pub headers-few : HeadersFew
headers-few b hs e =
    let p = printed-read b hs (given-gives (headers_of b) 5 hs e) in
    omega (arith, ap length p.bytes, printed-length hs p.proper)

pub headers-proper : HeadersProper
headers-proper b hs e = (printed-read b hs (given-gives (headers_of b) 5 hs e)).proper

-- a refusal of the parse is every step's
pub count-refused : {A : Type 0} (b : List ℕ) (n : ℕ) (f : List Header → Outcome A) → count_of b ≡ refused n → then (parsed b) f ≡ refused n
count-refused b n f e = by (parsed b) e
  where
    by : (o : Outcome (List Header)) → then o (λ hs. gives (length hs)) ≡ refused n → then o f ≡ refused n
    by (refused k) q = cc
    by (gives hs) q = cc

-- A reader that has passed the headers before i without a hit.

pub record Standing (b name : List ℕ) (i : ℕ) : Type 0 where
  pub hs : List Header
  pub rest : parsed (drop i b) ≡ gives hs
  pub answer : lookup_of b name ≡ gives (place_in name i hs)

pub start : (b name : List ℕ) → well_formed b ≡ true → Standing b name 0
unfolding lookup_of
start b name e =
    let p = well b e in
    record { hs = p.hs; rest = p.is; answer = rw p.is }

-- of equal names the first counts
pub place-hit :
    (name : List ℕ) (i : ℕ) (h : Header) (hs : List Header) → same_bytes h.name name ≡ true
    → place_in name i (h ∷ hs) ≡ Some (record { start = i + length h.name + 1; len = length h.value })
unfolding place_in
place-hit name i h hs = ap (λ (t : Bool). cond t (Some (record { start = i + length h.name + 1; len = length h.value })) (place_in name (i + length h.name + 1 + length h.value + 1) hs))

-- one header: its name ends at n and its value at v
pub record Turn (b name : List ℕ) (i n v : ℕ) : Type 0 where
  pub hit : same_bytes (take (n - i) (drop i b)) name ≡ true → lookup_of b name ≡ gives (Some (record { start = n + 1; len = v - (n + 1) }))
  pub miss : same_bytes (take (n - i) (drop i b)) name ≡ false → Standing b name (v + 1)

module _ (b name : List ℕ) (i n v : ℕ) where
  turn_at :
      (gs : List Header) → (i < n) × (n < v) × (v < length b) → parsed (drop (v + 1) b) ≡ gives gs
      → lookup_of b name ≡ gives (place_in name i (header_in b i n v ∷ gs)) → Turn b name i n v
  unfolding place_in
  turn_at gs o r a =
      let l : length (take (n - i) (drop i b)) ≡ n - i = simp (length-take, length-drop) (omega arith) in
      let m : length (take (v - (n + 1)) (drop (n + 1) b)) ≡ v - (n + 1) = simp (length-take, length-drop) (omega arith) in
      let s : i + (n - i) + 1 ≡ n + 1 = omega arith in
      let e : n + 1 + (v - (n + 1)) + 1 ≡ v + 1 = omega arith in
      record {
        hit = λ t. a ∙ ap gives (place-hit name i (header_in b i n v) gs t) ∙ rw (l, m, s);
        miss = λ t. record { hs = gs; rest = r; answer = a ∙ rw (t, l, m, s, e) };
      }

module _ {b name : List ℕ} {i : ℕ} (r : Standing b name i) where
  pub turn : (e : HeaderPlace) → HeaderFound b i (gives e) → Turn b name i e.name_end e.value_end
  turn e h =
      let g = behind-header b i r.hs r.rest e h in
      turn_at b name i e.name_end e.value_end g.gs h.order g.rest (r.answer ∙ ap (λ (hs : List Header). gives (place_in name i hs)) g.is)

  pub ended : length b ≤ i → lookup_of b name ≡ gives None
  unfolding place_in
  ended h = r.answer ∙ ap (λ (hs : List Header). gives (place_in name i hs)) (none-behind b i r.hs r.rest h)

-- A value's place is within the block.

fits_in : (name : List ℕ) (hs : List Header) (i : ℕ) (p : Span) → place_in name i hs ≡ Some p → p.start + p.len ≤ i + length (printed hs)
unfolding place_in printed
fits_in name [] i p e =
    let z : ◌≡◌ {A = ℕ} 0 1 = cc in
    omega arith
fits_in name (h ∷ hs) i p e = by (same_bytes h.name name) refl (fits_in name hs (i + length h.name + 1 + length h.value + 1) p)
  where
    after : ℕ
    after = i + length h.name + 1 + length h.value + 1

    by :
        (t : Bool) → same_bytes h.name name ≡ t → (place_in name after hs ≡ Some p → p.start + p.len ≤ after + length (printed hs))
        → p.start + p.len ≤ i + length (h.name ++ 0 ∷ (h.value ++ 0 ∷ printed hs))
    by true q ih =
        let e' : Some (record { start = i + length h.name + 1; len = length h.value }) ≡ Some p = sym (place-hit name i h hs q) ∙ e in
        let s : i + length h.name + 1 ≡ p.start = cc in
        let l : length h.value ≡ p.len = cc in
        simp length-append (omega arith)
    by false q ih =
        let e' : place_in name after hs ≡ Some p = simp q at e in
        simp length-append (omega (arith, ih e'))

pub place-fits : (b name : List ℕ) (p : Span) → lookup_of b name ≡ gives (Some p) → p.start + p.len ≤ length b
unfolding lookup_of
place-fits b name p e =
    let g = then-gives (parsed b) (λ hs. gives (place_in name 0 hs)) (Some p) e in
    let q : gives (place_in name 0 g.it) ≡ gives (Some p) = g.next in
    let w : place_in name 0 g.it ≡ Some p = cc in
    omega (arith, fits_in name g.it 0 p w, ap length (printed-read b g.it (given-gives (headers_of b) 5 g.it g.first)).bytes)

-- Of two blocks.

pub first_fits : (b c name : List ℕ) (p : Span) → setting_of b c name ≡ gives (Some (First p)) → p.start + p.len ≤ length b
unfolding setting_of
first_fits b c name p e =
    let f = then-gives (lookup_of b name) _ (Some (First p)) e in
    let s = then-gives (lookup_of c name) (λ q. gives (first_found f.it q)) (Some (First p)) f.next in
    place-fits b name p (f.first ∙ ap gives (by f.it s.it s.next))
  where
    by : (o q : Option Span) → gives (first_found o q) ≡ gives (Some (First p)) → o ≡ Some p
    by (Some r) q t = cc
    by None (Some r) t = cc
    by None None t = cc

pub second_fits : (b c name : List ℕ) (p : Span) → setting_of b c name ≡ gives (Some (Second p)) → p.start + p.len ≤ length c
unfolding setting_of
second_fits b c name p e =
    let f = then-gives (lookup_of b name) _ (Some (Second p)) e in
    let s = then-gives (lookup_of c name) (λ q. gives (first_found f.it q)) (Some (Second p)) f.next in
    place-fits c name p (s.first ∙ ap gives (by f.it s.it s.next))
  where
    by : (o q : Option Span) → gives (first_found o q) ≡ gives (Some (Second p)) → q ≡ Some p
    by (Some r) q t = cc
    by None (Some r) t = cc
    by None None t = cc

-- The part at the place is the value.

value-at : (name b : List ℕ) (hs : List Header) (i : ℕ) → drop i b ≡ printed hs → part_option b (place_in name i hs) ≡ value_in name hs
unfolding place_in value_in printed
value-at name b [] i e = refl
value-at name b (h ∷ hs) i e = by (same_bytes h.name name) (value-at name b hs (i + length h.name + 1 + length h.value + 1) (behind-printed b i h hs e))
  where
    by :
        (t : Bool) → part_option b (place_in name (i + length h.name + 1 + length h.value + 1) hs) ≡ value_in name hs
        → part_option b (cond t (Some (record { start = i + length h.name + 1; len = length h.value })) (place_in name (i + length h.name + 1 + length h.value + 1) hs))
        ≡ cond t (Some h.value) (value_in name hs)
    by true ih = ap Some (ap (take (length h.value)) (behind-name b i h hs e) ∙ take-append_seam h.value (0 ∷ printed hs))
    by false ih = ih

-- the value among the headers, by the place
pub value_found : LookupFindsValue
unfolding lookup_of
value_found b name hs o p e =
    let w : gives (place_in name 0 hs) ≡ gives o = rw p at e in
    let z : place_in name 0 hs ≡ o = cc in
    ap (part_option b) (sym z) ∙ value-at name b hs 0 (sym (printed-read b hs (given-gives (headers_of b) 5 hs p)).bytes)
