-- What the marks tell of the fields that were seen, one after the other.
-- Assumes nothing.
use Prim.Native.Nat.{ℕ, zero, suc, ◌+◌, ◌≤◌}
use mathlib.Core.Path.{◌≡◌, refl, sym, ap, ◌∙◌}
use mathlib.Core.Bool.{Bool, true, false, cond, not, ◌&&◌}
use mathlib.Core.List.{List, [], ◌∷◌}
use Rattle.std.proofs.Common.{Some}
use native.Mathlib.Omega.{arith}
use lib.Dec.{eqb}
use lib.ListN.{length, take, drop, length-drop}
use borrow.Author.Tests.{ne_eqb, lt-leb}
use Rattle.octets.specs.Text.{bytes}
use Rattle.octets.specs.Compare.{same_letters}
use Rattle.octets.specs.Lists.{All, no_more, ◌&◌, is_nil}
use Rattle.response.specs.Head.{Named}
use Rattle.response.specs.Seen.{again, noted_of, place_of, see_field, seen_from, none_seen, value_at, MarkIn, SeenIn, not_twice, mark_filled, is_once}
use Rattle.response.specs.Location.{filled}
use Rattle.response.specs.Response.{named, at_most_once, each_once, first_value, is_there}
use Rattle.response.specs.declared.fields.Mark.{Mark}
use Rattle.response.specs.declared.fields.Mark.TheVariants.{Absent, Once, Twice}
use Rattle.response.specs.declared.fields.Seen.{Seen}
use Rattle.response.proofs.Lies.{ValueIn}

-- the fields of one name after what the mark tells
unfoldable pub mark_from : Mark → List Named → Mark
mark_from m [] = m
mark_from m (f ∷ fs) = mark_from (again m (place_of f.value)) fs

-- a mark goes from field to field of its name
one_name :
    (w : List ℕ) (m : Mark) (f : Named) (fs : List Named)
    → mark_from (noted_of w m f.name (place_of f.value)) (named w fs) ≡ mark_from m (named w (f ∷ fs))
unfolding mark_from named
one_name w m f fs = by (same_letters f.name w)
  where
    by :
        (t : Bool)
        → mark_from (cond t (again m (place_of f.value)) m) (named w fs) ≡ mark_from m (cond t (f ∷ named w fs) (named w fs))
    by true = refl
    by false = refl

abbrev pub marks_from : Seen → List Named → Seen
marks_from seen fs =
    record {
      content = mark_from seen.content (named (bytes "content-type") fs);
      location = mark_from seen.location (named (bytes "location") fs);
      status = mark_from seen.status (named (bytes "status") fs);
    }

pub seen-marks : (fs : List Named) (seen : Seen) → seen_from seen fs ≡ marks_from seen fs
unfolding seen_from mark_from named
seen-marks [] seen = refl
seen-marks (f ∷ fs) seen =
    seen-marks fs (see_field seen f)
    ∙ rw (one_name (bytes "content-type") seen.content f fs, one_name (bytes "location") seen.location f fs, one_name (bytes "status") seen.status f fs)

-- One name.

abbrev pub mark_of : List Named → Mark
mark_of fs = mark_from Absent fs

stays_twice : (fs : List Named) → mark_from Twice fs ≡ Twice
unfolding mark_from
stays_twice [] = refl
stays_twice (f ∷ fs) = stays_twice fs

two-or-more : (f g : Named) (fs : List Named) → at_most_once (f ∷ (g ∷ fs)) ≡ false
two-or-more f g fs = lt-leb (length (f ∷ (g ∷ fs))) 1 (omega arith)

pub once-mark : (fs : List Named) → not_twice (mark_of fs) ≡ at_most_once fs
unfolding mark_from
once-mark [] = refl
once-mark (f ∷ []) = refl
once-mark (f ∷ (g ∷ fs)) = rw (stays_twice fs, two-or-more f g fs)

module _ (s : List ℕ) where
  pub mark-in : (fs : List Named) → All (ValueIn s) fs → MarkIn s (mark_of fs)
  unfolding mark_from
  mark-in [] no_more = tt
  mark-in (f ∷ []) (p & ps) = p.within
  mark-in (f ∷ (g ∷ fs)) p = rw (stays_twice fs) tt

  pub mark-value : (fs : List Named) → All (ValueIn s) fs → at_most_once fs ≡ true → value_at s (mark_of fs) ≡ first_value fs
  unfolding mark_from
  mark-value [] no_more e = refl
  mark-value (f ∷ []) (p & ps) e = ap (λ (x : List ℕ). Some (record { start = f.value.start; bytes = x })) (sym p.are)
  mark-value (f ∷ (g ∷ fs)) p e =
      let z : ◌≡◌ {A = Bool} true false = sym e ∙ two-or-more f g fs in
      cc

-- fields with a name are fields
pub named_in : {P : Named → Type 0} (w : List ℕ) (fs : List Named) → All P fs → All P (named w fs)
unfolding named
named_in w [] no_more = no_more
named_in {P} w (f ∷ fs) (p & ps) = by (same_letters f.name w) (named_in w fs ps)
  where
    by : (t : Bool) → All P (named w fs) → All P (cond t (f ∷ named w fs) (named w fs))
    by true q = p & q
    by false q = q

-- The three names.

module _ (s : List ℕ) (fs : List Named) (all : All (ValueIn s) fs) where
  pub seen-in : SeenIn s (marks_from none_seen fs)
  seen-in =
      record {
        content = mark-in s (named (bytes "content-type") fs) (named_in (bytes "content-type") fs all);
        location = mark-in s (named (bytes "location") fs) (named_in (bytes "location") fs all);
        status = mark-in s (named (bytes "status") fs) (named_in (bytes "status") fs all);
      }

  pub value_of : (w : List ℕ) → at_most_once (named w fs) ≡ true → value_at s (mark_of (named w fs)) ≡ first_value (named w fs)
  value_of w = mark-value s (named w fs) (named_in w fs all)

pub once-marks :
    (fs : List Named)
    → not_twice (mark_of (named (bytes "content-type") fs)) && not_twice (mark_of (named (bytes "location") fs)) && not_twice (mark_of (named (bytes "status") fs)) ≡ each_once fs
once-marks fs = rw (once-mark (named (bytes "content-type") fs), once-mark (named (bytes "location") fs), once-mark (named (bytes "status") fs))

-- What the code asks of one mark.

pub filled-mark : (s : List ℕ) (m : Mark) → MarkIn s m → filled (value_at s m) ≡ mark_filled m
filled-mark s Absent h = refl
filled-mark s (Once p) h = by p.len h
  where
    front : (x : List ℕ) (k : ℕ) → suc k ≤ length x → is_nil (take (suc k) x) ≡ false
    front [] k h = absurd (omega arith)
    front (b ∷ x) k h = refl

    by : (l : ℕ) → p.start + l ≤ length s → not (is_nil (take l (drop p.start s))) ≡ not (eqb l 0)
    by zero h = refl
    by (suc l) h = ap not (front (drop p.start s) l (omega (arith, length-drop p.start s))) ∙ rw (ne_eqb (suc l) 0 (λ e. omega arith))
filled-mark s Twice h = refl

pub there-mark : (s : List ℕ) (m : Mark) → is_there (value_at s m) ≡ is_once m
there-mark s Absent = refl
there-mark s (Once p) = refl
there-mark s Twice = refl
