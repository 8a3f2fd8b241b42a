-- Laws of looking a name up by the stored places of the names.
-- Assumes nothing.
use Prim.Native.Nat.{ℕ, ◌+◌, ◌≤◌}
use mathlib.Core.Path.{◌≡◌, refl, sym}
use mathlib.Core.Bool.{Bool, true, false, cond}
use mathlib.Core.List.{List, [], ◌∷◌, ◌++◌}
use Rattle.std.proofs.Common.{Option, None, Some}
use Rattle.std.specs.List.{find}
use native.Mathlib.Omega.{arith}
use lib.ListN.{length, drop}
use borrow.Author.Tests.{eq-eqb, ne_eqb}
use Rattle.octets.specs.Outcome.{gives}
use Rattle.octets.specs.Compare.{same_bytes}
use Rattle.octets.specs.Lists.{All, ◌&◌, Without}
use Rattle.octets.specs.Scan.{run, other}
use Rattle.octets.specs.declared.span.Span.{Span}
use Rattle.octets.proofs.Outcomes.{given-gives}
use Rattle.headers.specs.Block.{Header, Proper, printed, headers_of}
use Rattle.headers.specs.Lookup.{part_in, place_in, lookup_of}
use Rattle.headers.specs.Names.{name_places, NamesIn}
use Rattle.headers.proofs.Blocks.{printed-read, behind-name, behind-printed}
use Rattle.headers.proofs.NamePlaces.{after, own_name, within, named}

-- the first x stands behind bytes without x
run-before : (x : ℕ) (v t : List ℕ) → Without x v → run (other x) (v ++ x ∷ t) ≡ length v
unfolding run
run-before x [] t r = simp (eq-eqb x x refl)
run-before x (b ∷ v) t (h & r) = simp (ne_eqb b x h, run-before x v t r)

-- where the value behind a name begins
abbrev pub value_start : Span → ℕ
value_start p = p.start + p.len + 1

-- the value behind the name at p
abbrev pub value_at : List ℕ → Span → Span
value_at b p = record { start = value_start p; len = run (other 0) (drop (value_start p) b) }

-- whether the name at p is this one
abbrev pub is_named : List ℕ → List ℕ → Span → Bool
is_named b name p = same_bytes (part_in b p) name

-- the value's place a, by the place of the name, if it is there
abbrev pub Behind : List ℕ → Option Span → Option Span → Type 0
Behind b None a = a ≡ None
Behind b (Some p) a = (value_start p ≤ length b) × (a ≡ Some (value_at b p))

found-behind :
    (b name : List ℕ) (hs : List Header) (i : ℕ) → All Proper hs → i ≤ length b → drop i b ≡ printed hs
    → Behind b (find (is_named b name) (name_places i hs)) (place_in name i hs)
unfolding name_places place_in printed
found-behind b name [] i p l e = refl
found-behind b name (h ∷ hs) i (p & ps) l e =
    let w = within h hs b i l e in
    rw (own_name h hs b i l e) (by (same_bytes h.name name) w (found-behind b name hs (after i h) ps w (behind-printed b i h hs e)))
  where
    by :
        (t : Bool) → after i h ≤ length b → Behind b (find (is_named b name) (name_places (after i h) hs)) (place_in name (after i h) hs)
        → Behind b (cond t (Some (record { start = i; len = length h.name })) (find (is_named b name) (name_places (after i h) hs)))
        (cond t (Some (record { start = i + length h.name + 1; len = length h.value })) (place_in name (after i h) hs))
    by true w r =
        let u : run (other 0) (drop (i + length h.name + 1) b) ≡ length h.value = rw (behind-name b i h hs e) (run-before 0 h.value (printed hs) p.value_bytes) in
        (omega arith, rw u)
    by false w r = r

-- what looking a name up gives, by the place of the name that was found among the stored ones
pub record Sought (b : List ℕ) (ps : List Span) (name : List ℕ) : Type 0 where
  pub place : Option Span
  pub is : lookup_of b name ≡ gives place
  pub behind : Behind b (find (is_named b name) ps) place

pub sought : (b : List ℕ) (ps : List Span) (name : List ℕ) → NamesIn b ps → Sought b ps name
unfolding lookup_of
sought b ps name p =
    let g = named b ps p in
    let r = printed-read b g.hs (given-gives (headers_of b) 5 g.hs g.is) in
    record {
      place = place_in name 0 g.hs;
      is = rw g.is;
      behind = rw g.places at (found-behind b name g.hs 0 r.proper (omega arith) (sym r.bytes));
    }
