-- Laws of names found by the places that were stored.
-- Assumes nothing.
use Prim.Native.Nat.{ℕ, zero, suc, ◌+◌, ◌-◌, ◌≤◌, ◌<◌}
use Prim.{absurd}
use mathlib.Core.Path.{◌≡◌, refl, sym, ap, ◌∙◌}
use mathlib.Core.Bool.{Bool, true, false, cond, not, ◌&&◌, ◌||◌}
use mathlib.Core.List.{List, [], ◌∷◌, ◌++◌, map, append_assoc, append-nil}
use native.Mathlib.Nat.{zero-add, add-zero}
use native.Mathlib.Numerals.{add-one}
use native.Mathlib.Omega.{arith}
use lib.Dec.{ltb}
use lib.ListN.{length, take, drop, get_or, set, length-append, length-drop, length-set, length-take, drop_of_length-le}
use lib.Seq.{drop-cons, drop-drop, drop-append-add, set_split, take-append_seam, take-append-le, take-nil, take_all, take_at}
use borrow.Author.Tests.{ltb-true, ltb-false}
use Rattle.octets.specs.Outcome.{Outcome, refused, gives, then}
use Rattle.octets.specs.Compare.{same_bytes}
use Rattle.octets.specs.Lists.{no_more, ◌&◌, is_in, different}
use Rattle.octets.specs.declared.span.Span.{Span}
use Rattle.octets.proofs.Alls.{all_after}
use Rattle.octets.proofs.Compares.{same-turned}
use Rattle.std.specs.List.{list_any}
use Rattle.octets.proofs.Outcomes.{given-gives, then-gives, gives-once, then_same}
use Rattle.headers.specs.Block.{Header, names, printed, headers_of, parsed, count_of, header_in, HeaderFound}
use Rattle.headers.specs.Lookup.{part_in}
use Rattle.headers.specs.Names.{name_places, places_of, with_place, NamesIn, Inside, AllInside, nowhere}
use Rattle.headers.specs.Claims.{NamesHeld}
use Rattle.headers.specs.declared.block.HeaderPlace.{HeaderPlace}
use Rattle.headers.proofs.Blocks.{printed-read, behind-printed}
use Rattle.headers.proofs.Walks.{no_header, past-header, counted}

places-length : (hs : List Header) (i : ℕ) → length (name_places i hs) ≡ length hs
unfolding name_places
places-length [] i = refl
places-length (h ∷ hs) i = ap suc (places-length hs (i + length h.name + 1 + length h.value + 1))

-- Storing: a writer that has passed the n headers before i, whose names have the places front.

pub record Storing (b : List ℕ) (before out : List Span) (i n : ℕ) : Type 0 where
  pub front : List Span
  pub few : n ≤ i
  pub many : length front ≡ n
  pub size : length out ≡ length before
  pub held : out ≡ take (length before) front ++ drop n before
  pub count : count_of b ≡ then (parsed (drop i b)) (λ hs. gives (n + length hs))
  pub places : places_of b ≡ then (parsed (drop i b)) (λ hs. gives (front ++ name_places i hs))

pub start : (b : List ℕ) (d : List Span) → Storing b d d 0 0
unfolding places_of
start b d =
    record {
      front = [];
      few = omega arith;
      many = refl;
      size = refl;
      held = rw take-nil;
      count = then_same (parsed b) _ _ (λ hs. ap gives (sym (zero-add (length hs))));
      places = refl;
    }

-- one place more, whether it fits or not
place-size : (d : List Span) (n : ℕ) (p : Span) → length (with_place d n p) ≡ length d
place-size d n p = by (ltb n (length d))
  where
    by : (t : Bool) → length (cond t (set d n p) d) ≡ length d
    by true = length-set d n p
    by false = refl

module _ (d front out : List Span) (n : ℕ) (p : Span) (m : length front ≡ n) (z : length out ≡ length d) (h : out ≡ take (length d) front ++ drop n d) where
  place_stored : with_place out n p ≡ take (length d) (front ++ p ∷ []) ++ drop (n + 1) d
  place_stored = by (ltb n (length out)) refl
    where
      by : (t : Bool) → ltb n (length out) ≡ t → cond t (set out n p) out ≡ take (length d) (front ++ p ∷ []) ++ drop (n + 1) d
      by true e =
          let l : n < length out = ltb-true n (length out) e in
          let w : out ≡ front ++ drop n d = rw (take_all (length d) front (omega arith)) at h in
          let f : take n (front ++ drop n d) ≡ front = take_at front (drop n d) n m in
          let s : suc n ≡ length front + 1 = omega arith in
          let g : drop (suc n) (front ++ drop n d) ≡ drop (n + 1) d =
          ap (λ (k : ℕ). drop k (front ++ drop n d)) s ∙ drop-append-add front (drop n d) 1 ∙ drop-drop 1 n d in
          let a : take (length d) (front ++ p ∷ []) ≡ front ++ p ∷ [] = take_all (length d) (front ++ p ∷ []) (simp length-append (omega arith)) in
          set_split out n p l ∙ rw (w, f, g, a) (sym (append_assoc front (p ∷ []) (drop (n + 1) d)))
      by false e =
          let l : length out ≤ n = ltb-false n (length out) e in
          let a : take (length d) (front ++ p ∷ []) ≡ take (length d) front = take-append-le (length d) front (p ∷ []) (omega arith) in
          let f : drop n d ≡ [] = drop_of_length-le d (omega arith) in
          let g : drop (n + 1) d ≡ [] = drop_of_length-le d (omega arith) in
          h ∙ rw (a, f, g)

-- the place of a header's name that was found, before those of the ones behind it
header-places :
    (b : List ℕ) (i n v : ℕ) (gs : List Header) → (i < n) × (n < v) × (v < length b)
    → name_places i (header_in b i n v ∷ gs) ≡ record { start = i; len = n - i } ∷ name_places (v + 1) gs
unfolding name_places
header-places b i n v gs o =
    let l : length (take (n - i) (drop i b)) ≡ n - i = simp (length-take, length-drop) (omega arith) in
    let m : length (take (v - (n + 1)) (drop (n + 1) b)) ≡ v - (n + 1) = simp (length-take, length-drop) (omega arith) in
    let e : i + (n - i) + 1 + (v - (n + 1)) + 1 ≡ v + 1 = omega arith in
    rw (l, m, e)

module _ {b : List ℕ} {before out : List Span} {i n : ℕ} (s : Storing b before out i n) where
  pub more :
      (e : HeaderPlace) (d : List Span) → HeaderFound b i (gives e) → d ≡ with_place out n (record { start = i; len = e.name_end - i })
      → Storing b before d (e.value_end + 1) (n + 1)
  more e d h w =
      let p : Span = record { start = i; len = e.name_end - i } in
      rw w
      (record {
        front = s.front ++ p ∷ [];
        few = omega (arith, s.few, h.order);
        many = simp length-append (omega (arith, s.many));
        size = place-size out n p ∙ s.size;
        held = place_stored before s.front out n p s.many s.size s.held;
        count = s.count ∙ past-header b i e _ h ∙ then_same (parsed (drop (e.value_end + 1) b)) _ _ (λ hs. ap gives (omega arith));
        places =
            s.places ∙ past-header b i e _ h
            ∙ then_same (parsed (drop (e.value_end + 1) b)) _ _
            (λ hs.
            ap gives
            (ap (◌++◌ s.front) (header-places b i e.name_end e.value_end hs h.order)
            ∙ sym (append_assoc s.front (p ∷ []) (name_places (e.value_end + 1) hs))));
      })

  pub unheaded : (k : ℕ) → HeaderFound b i (refused k) → count_of b ≡ refused k
  unheaded k h = s.count ∙ ap (λ (o : Outcome (List Header)). then o (λ hs. gives (n + length hs))) (sym h.answer)

  -- of a malformed block nothing is said
  pub none-stored : (k : ℕ) → HeaderFound b i (refused k) → (ps : List Span) → NamesIn b ps → out ≡ take (length before) ps ++ drop (length ps) before
  none-stored k h ps p =
      let q : places_of b ≡ refused k = s.places ∙ ap (λ (o : Outcome (List Header)). then o (λ hs. gives (s.front ++ name_places i hs))) (sym h.answer) in
      let r : refused k ≡ gives ps = sym q ∙ p in
      absurd (let z : ◌≡◌ {A = ℕ} 0 1 = cc in omega arith)

  module _ (h : length b ≤ i) where
    pub all-counted : count_of b ≡ gives n
    all-counted = s.count ∙ rw (no_header b i h) (ap gives (add-zero n))

    pub all-stored : (ps : List Span) → NamesIn b ps → out ≡ take (length before) ps ++ drop (length ps) before
    unfolding name_places
    all-stored ps p =
        let q : gives (s.front ++ []) ≡ gives ps = sym (s.places ∙ rw (no_header b i h)) ∙ p in
        let w : s.front ≡ ps = sym (append-nil s.front) ∙ gives-once (s.front ++ []) ps q in
        let l : n ≡ length ps = sym s.many ∙ ap length w in
        s.held ∙ rw (w, l)

-- where there is room for the block's n names
pub names-held : NamesHeld
unfolding places_of
names-held b before after r n f e room =
    let g = counted b n e in
    let ps : List Span = name_places 0 g.hs in
    let m : NamesIn b ps = rw g.is in
    let l : length ps ≡ n = places-length g.hs 0 ∙ g.count in
    let a : take (length before) ps ≡ ps = take_all (length before) ps (omega arith) in
    m ∙ ap gives (sym (ap (take n) (f.stored ps m) ∙ rw a (take_at ps (drop (length ps) before) n l)))

-- Reading back.

-- where the header behind h begins, which begins at i
abbrev pub after : ℕ → Header → ℕ
after i h = i + length h.name + 1 + length h.value + 1

-- the parts at some places
abbrev pub parts : List ℕ → List Span → List (List ℕ)
parts b ps = map (part_in b) ps

-- of headers that are printed from i on
pub record Found (b : List ℕ) (i : ℕ) (hs : List Header) : Type 0 where
  pub inside : AllInside b (name_places i hs)
  pub are : parts b (name_places i hs) ≡ names hs

module _ (h : Header) (hs : List Header) (b : List ℕ) (i : ℕ) (l : i ≤ length b) (e : drop i b ≡ h.name ++ 0 ∷ (h.value ++ 0 ∷ printed hs)) where
  pub own_name : part_in b (record { start = i; len = length h.name }) ≡ h.name
  own_name = ap (take (length h.name)) e ∙ take-append_seam h.name (0 ∷ (h.value ++ 0 ∷ printed hs))

  pub within : after i h ≤ length b
  within =
      let s : length b - i ≡ length h.name + suc (length h.value + suc (length (printed hs))) = sym (length-drop i b) ∙ ap length e ∙ simp length-append in
      omega arith

found_in : (hs : List Header) (b : List ℕ) (i : ℕ) → i ≤ length b → drop i b ≡ printed hs → Found b i hs
unfolding name_places printed
found_in [] b i l e = record { inside = no_more; are = refl }
found_in (h ∷ hs) b i l e =
    let w = within h hs b i l e in
    let r = found_in hs b (after i h) w (behind-printed b i h hs e) in
    let o = own_name h hs b i l e in
    record { inside = omega arith & r.inside; are = rw (o, r.are) }

-- of all headers of a block
pub found : (b : List ℕ) (hs : List Header) → parsed b ≡ gives hs → Found b 0 hs
found b hs e = found_in hs b 0 (omega arith) (sym (printed-read b hs (given-gives (headers_of b) 5 hs e)).bytes)

-- what is known of a block's names by their places
pub record Known (b : List ℕ) (ps : List Span) : Type 0 where
  pub inside : AllInside b ps
  pub answer : then (parsed b) (λ hs. gives (different (names hs))) ≡ gives (different (parts b ps))

-- .. and of its headers
pub record Named (b : List ℕ) (ps : List Span) : Type 0 where
  pub hs : List Header
  pub is : parsed b ≡ gives hs
  pub places : name_places 0 hs ≡ ps

pub named : (b : List ℕ) (ps : List Span) → NamesIn b ps → Named b ps
unfolding places_of
named b ps p =
    let g = then-gives (parsed b) (λ hs. gives (name_places 0 hs)) ps p in
    record { hs = g.it; is = g.first; places = gives-once (name_places 0 g.it) ps g.next }

pub known : (b : List ℕ) (ps : List Span) → NamesIn b ps → Known b ps
known b ps p =
    let g = named b ps p in
    let f = found b g.hs g.is in
    record {
      inside = rw g.places at f.inside;
      answer = rw g.is (ap (λ (ns : List (List ℕ)). gives (different ns)) (sym f.are ∙ ap (parts b) g.places));
    }

pub name-length : (b : List ℕ) (p : Span) → Inside b p → length (part_in b p) ≡ p.len
name-length b p h = simp (length-take, length-drop) (omega arith)

-- One name after the other.

pub next : (ps : List Span) (k : ℕ) → k < length ps → drop k ps ≡ get_or ps k nowhere ∷ drop (k + 1) ps
next ps k h = rw (add-one, drop-cons ps k nowhere)

pub end : (ps : List Span) (k : ℕ) → length ps ≤ k → drop k ps ≡ []
end ps k h = drop_of_length-le ps h

-- what `&ps[i..]` holds
pub from : (ps : List Span) (i : ℕ) → take (length ps - i) (drop i ps) ≡ drop i ps
from ps i = take_all (length ps - i) (drop i ps) (simp length-drop (omega arith))

pub from-inside : (b : List ℕ) (ps : List Span) (i : ℕ) → AllInside b ps → AllInside b (take (length ps - i) (drop i ps))
from-inside b ps i h = rw (from ps i) (all_after i ps h)

pub inside-at : (b : List ℕ) (ps : List Span) (k : ℕ) (d : Span) → AllInside b ps → k < length ps → Inside b (get_or ps k d)
inside-at b [] k d i h = absurd (omega arith)
inside-at b (p ∷ ps) zero d (i & is) h = i
inside-at b (p ∷ ps) (suc k) d (i & is) h = inside-at b ps k d is (omega arith)

-- a place that is the list's entry k
pub inside-item : (b : List ℕ) (ps : List Span) (k : ℕ) (p : Span) → AllInside b ps → k < length ps → p ≡ get_or ps k p → Inside b p
inside-item b ps k p i h e = rw e (inside-at b ps k p i h)

-- whether a name stands at one of the places
pub any-in : (x b : List ℕ) (ps : List Span) → list_any (λ p. same_bytes (part_in b p) x) ps ≡ is_in x (parts b ps)
unfolding is_in
any-in x b [] = refl
any-in x b (p ∷ ps) = rw (same-turned (part_in b p) x, any-in x b ps)

pub in-next :
    (x b : List ℕ) (ps : List Span) (k : ℕ) → k < length ps
    → is_in x (parts b (drop k ps)) ≡ same_bytes x (part_in b (get_or ps k nowhere)) || is_in x (parts b (drop (k + 1) ps))
unfolding is_in
in-next x b ps k h = ap (λ (qs : List Span). is_in x (parts b qs)) (next ps k h)

pub in_end : (x b : List ℕ) (ps : List Span) (k : ℕ) → length ps ≤ k → is_in x (parts b (drop k ps)) ≡ false
unfolding is_in
in_end x b ps k h = ap (λ (qs : List Span). is_in x (parts b qs)) (end ps k h)

pub differ-next :
    (b : List ℕ) (ps : List Span) (k : ℕ) → k < length ps
    → different (parts b (drop k ps)) ≡ not (is_in (part_in b (get_or ps k nowhere)) (parts b (drop (k + 1) ps))) && different (parts b (drop (k + 1) ps))
unfolding different
differ-next b ps k h = ap (λ (qs : List Span). different (parts b qs)) (next ps k h)

pub differ-end : (b : List ℕ) (ps : List Span) (k : ℕ) → length ps ≤ k → different (parts b (drop k ps)) ≡ true
unfolding different
differ-end b ps k h = ap (λ (qs : List Span). different (parts b qs)) (end ps k h)

-- .. where it is known whether the first name stands again behind it
pub differ-told :
    (b : List ℕ) (ps : List Span) (t : Bool) → 1 ≤ length ps
    → is_in (part_in b (get_or ps 0 nowhere)) (parts b (take (length ps - 1) (drop 1 ps))) ≡ t
    → different (parts b ps) ≡ not t && different (parts b (take (length ps - 1) (drop 1 ps)))
differ-told b ps t h e =
    let r : is_in (part_in b (get_or ps 0 nowhere)) (parts b (drop 1 ps)) ≡ t = rw (from ps 1) at e in
    rw (from ps 1) (differ-next b ps 0 h ∙ ap (λ (u : Bool). not u && different (parts b (drop 1 ps))) r)
