-- Laws of the steps of a block's check, for the code that makes them.
-- Assumes nothing.
use Prim.Native.Nat.{ℕ, ◌+◌, ◌-◌, ◌≤◌, ◌<◌}
use mathlib.Core.Path.{◌≡◌, refl, sym, ap, ◌∙◌}
use mathlib.Core.Bool.{Bool, true, false, cond, ◌&&◌, ◌||◌}
use mathlib.Core.List.{List, [], ◌∷◌}
use Rattle.std.proofs.Common.{Option, None, Some, Result, Ok, Err}
use Rattle.std.specs.Option.{ok_or}
use Rattle.std.specs.Result.{IsOk}
use native.Mathlib.Nat.{sub-zero}
use native.Mathlib.Omega.{arith}
use Rattle.std.proofs.lemmas.List.{nil_from_length}
use lib.Dec.{leb}
use lib.ListN.{length, take, drop}
use borrow.Author.Tests.{le-leb, lt-leb}
use Rattle.octets.specs.Text.{bytes}
use Rattle.octets.specs.Outcome.{Outcome, refused, gives, then, need, given}
use Rattle.octets.specs.Compare.{same_bytes}
use Rattle.octets.specs.Lists.{All, ◌&◌, different, Different, one_more}
use Rattle.octets.specs.Decimal.{number_of}
use Rattle.octets.specs.Refusal.{outcome}
use Rattle.octets.specs.Refusal.{number_of as number_of_refusal}
use Rattle.octets.specs.declared.refusal.Refusal.{Refusal}
use Rattle.octets.specs.declared.span.Span.{Span}
use Rattle.octets.proofs.Bools.{or-false}
use Rattle.octets.proofs.Compares.{same_true, same_false}
use Rattle.octets.proofs.Names.{test-different}
use Rattle.octets.proofs.Outcomes.{then-gives}
use Rattle.headers.specs.Block.{Header, names, parsed, well_formed, count_of, header_in, header_ends, header_outcome, HeaderFound}
use Rattle.headers.specs.declared.block.HeaderPlace.{HeaderPlace}
use Rattle.scgi.specs.Grammar.{scgi1}
use Rattle.headers.specs.Lookup.{part_option, value_in, lookup_of}
use Rattle.scgi.specs.Check.{stated_by, stated_in, has, has_scgi, rest_of, check_block}
use Rattle.headers.specs.Claims.{Headed}
use Rattle.headers.proofs.Claims.{well-formed-headed, headers-few, lookup-finds-value, header-parses}

-- The stated length.

-- the length that a block with a first header states
abbrev pub first_states : List ℕ → ℕ → ℕ → Outcome ℕ
first_states b n v = need (same_bytes (take n b) (bytes "CONTENT_LENGTH")) 8 (given (number_of (take (v - (n + 1)) (drop (n + 1) b))) 8)

-- a value, or the refusal where there is none
pub given-or : (o : Option ℕ) (e : Refusal) → outcome (λ n. n) (ok_or o e) ≡ given o (number_of_refusal e)
given-or None e = refl
given-or (Some n) e = refl

headed : (b : List ℕ) → well_formed b ≡ true → Headed b
headed b = (well-formed-headed b).0

module _ (b : List ℕ) (w : well_formed b ≡ true) where
  pub states-none : length b ≡ 0 → stated_in b ≡ refused 8
  states-none z =
      let p = headed b w in
      let e : p.hs ≡ [] = nil_from_length p.hs (omega (arith, headers-few b p.hs p.is)) in
      ap (λ (o : Outcome (List Header)). then o stated_by) (p.is ∙ ap gives e)

  pub states-first : (n v : ℕ) → HeaderFound b 0 (gives (record { name_end = n; value_end = v })) → stated_in b ≡ first_states b n v
  states-first n v h =
      let p = headed b w in
      let g = then-gives (parsed (drop (v + 1) b)) (λ hs. gives (header_in b 0 n v ∷ hs)) p.hs (h.answer ∙ p.is) in
      ap (λ (o : Outcome (List Header)). then o stated_by) (p.is ∙ sym g.next) ∙ rw (sub-zero n)

  -- a well formed block is not refused at its first header
  pub never-unheaded : {A : Type 0} {o : A} {e : A} (n : ℕ) → HeaderFound b 0 (refused n) → o ≡ e
  never-unheaded n h =
      let p = headed b w in
      let e : refused n ≡ gives p.hs = h.answer ∙ p.is in
      cc

  -- a first header is found where there are bytes
  pub first-found : (r : Result HeaderPlace Refusal) → header_outcome r ≡ header_ends b 0 → 0 < length b → HeaderFound b 0 (header_outcome r)
  first-found r e h = rw e (header-parses b 0 h)

  pub first-is : (r : Result HeaderPlace Refusal) → HeaderFound b 0 (header_outcome r) → IsOk r
  first-is (Ok p) h = refl
  first-is (Err n) h = never-unheaded (number_of_refusal n) h

-- The header SCGI.

abbrev pub is_value : Option (List ℕ) → List ℕ → Bool
is_value None v = false
is_value (Some w) v = same_bytes w v

has-none : (x : Header) (hs : List Header) → All (λ m. x.name ≡ m → ⊥) (names hs) → has x hs ≡ false
unfolding has
has-none x [] p = refl
has-none x (h ∷ hs) (q & p) = rw (same_false h.name x.name (λ e. q (sym e)), has-none x hs p)

-- where names differ, a header is there if its name has its value
has_value : (x : Header) (hs : List Header) → Different (names hs) → has x hs ≡ is_value (value_in x.name hs) x.value
unfolding has value_in
has_value x [] d = refl
has_value x (h ∷ hs) (one_more p d) = by (same_bytes h.name x.name) refl (has_value x hs d)
  where
    by :
        (t : Bool) → same_bytes h.name x.name ≡ t → has x hs ≡ is_value (value_in x.name hs) x.value
        → (t && same_bytes h.value x.value) || has x hs ≡ is_value (cond t (Some h.value) (value_in x.name hs)) x.value
    by true q ih =
        let z : h.name ≡ x.name = same_true h.name x.name q in
        rw (has-none x hs (rw z at p)) (or-false (same_bytes h.value x.value))
    by false q ih = ih

-- the block's headers, no two names of which are equal
record Differ (b : List ℕ) : Type 0 where
  hs : List Header
  is : parsed b ≡ gives hs
  names_differ : Different (names hs)

differ : (b : List ℕ) → then (parsed b) (λ hs. gives (different (names hs))) ≡ gives true → Differ b
differ b e =
    let g = then-gives (parsed b) (λ hs. gives (different (names hs))) true e in
    let q : gives (different (names g.it)) ≡ gives true = g.next in
    record { hs = g.it; is = g.first; names_differ = test-different (names g.it) (cc) }

module _ (b : List ℕ) (d : then (parsed b) (λ hs. gives (different (names hs))) ≡ gives true) where
  pub differ-well : well_formed b ≡ true
  differ-well =
      let p = differ b d in
      (well-formed-headed b).1 (record { hs = p.hs; is = p.is })

  -- what the place of SCGI's value says
  pub scgi-at : (o : Option Span) → lookup_of b (bytes "SCGI") ≡ gives o → has_scgi b ≡ gives (is_value (part_option b o) (bytes "1"))
  scgi-at o e =
      let p = differ b d in
      rw p.is
      (ap gives (has_value scgi1 p.hs p.names_differ ∙ ap (λ (w : Option (List ℕ)). is_value w (bytes "1")) (sym (lookup-finds-value b (bytes "SCGI") p.hs o p.is e))))

-- The whole chain, step by step, where the block has n headers.

-- a refusal of the parse is every step's
count-refused : {A : Type 0} (o : Outcome (List Header)) (n : ℕ) (f : List Header → Outcome A) → then o (λ hs. gives (length hs)) ≡ refused n → then o f ≡ refused n
count-refused (refused k) n f e = cc
count-refused (gives hs) n f e = cc

pub no-count : (b : List ℕ) (n : ℕ) → count_of b ≡ refused n → check_block b ≡ refused n
unfolding check_block
no-count b n e = count-refused (parsed b) n _ e

-- the headers of a block that has n
record Counted (b : List ℕ) (n : ℕ) : Type 0 where
  hs : List Header
  is : parsed b ≡ gives hs
  count : length hs ≡ n

counted : (b : List ℕ) (n : ℕ) → count_of b ≡ gives n → Counted b n
counted b n e =
    let g = then-gives (parsed b) (λ hs. gives (length hs)) n e in
    let q : gives (length g.it) ≡ gives n = g.next in
    record { hs = g.it; is = g.first; count = cc }

module _ (b : List ℕ) (n : ℕ) (c : count_of b ≡ gives n) where
  abbrev headers : Counted b n
  headers = counted b n c

  pub too_many : 128 < n → check_block b ≡ refused 6
  unfolding check_block
  too_many h = rw (headers.is, lt-leb (length headers.hs) 128 (omega (arith, headers.count)))

  module _ (few : n ≤ 128) where
    -- the chain from the names on
    by_names : (t : Bool) → then (parsed b) (λ hs. gives (different (names hs))) ≡ gives t → check_block b ≡ need t 7 (rest_of b)
    unfolding check_block
    by_names t e =
        let q : gives (different (names headers.hs)) ≡ gives t = rw headers.is at e in
        let z : different (names headers.hs) ≡ t = cc in
        rw (headers.is, le-leb (length headers.hs) 128 (omega (arith, headers.count)), z)

    pub equal-names : then (parsed b) (λ hs. gives (different (names hs))) ≡ gives false → check_block b ≡ refused 7
    equal-names = by_names false

    pub other-names : then (parsed b) (λ hs. gives (different (names hs))) ≡ gives true → check_block b ≡ rest_of b
    other-names = by_names true

-- What is asked after the names.

module _ (b : List ℕ) (d : then (parsed b) (λ hs. gives (different (names hs))) ≡ gives true) where
  abbrev hs : List Header
  hs = (differ b d).hs

  p : parsed b ≡ gives hs
  p = (differ b d).is

  left : rest_of b ≡ then (stated_by hs) (λ n. need (leb n 1048576) 9 (need (has scgi1 hs) 10 (gives n)))
  left = rw p

  pub unstated : (k : ℕ) → stated_in b ≡ refused k → rest_of b ≡ refused k
  unstated k e =
      let q : stated_by hs ≡ refused k = rw p at e in
      left ∙ rw q

  module _ (len : ℕ) (e : stated_in b ≡ gives len) where
    stated : stated_by hs ≡ gives len
    stated = rw p at e

    pub too_long : 1048576 < len → rest_of b ≡ refused 9
    too_long h = left ∙ rw (stated, lt-leb len 1048576 h)

    -- by whether the block has the header SCGI
    by-scgi : len ≤ 1048576 → (t : Bool) → has_scgi b ≡ gives t → rest_of b ≡ need t 10 (gives len)
    by-scgi small t h =
        let q : gives (has scgi1 hs) ≡ gives t = rw p at h in
        let z : has scgi1 hs ≡ t = cc in
        left ∙ rw (stated, le-leb len 1048576 small, z)

    module _ (small : len ≤ 1048576) where
      pub no-scgi : has_scgi b ≡ gives false → rest_of b ≡ refused 10
      no-scgi = by-scgi small false

      pub passes : has_scgi b ≡ gives true → rest_of b ≡ gives len
      passes = by-scgi small true
