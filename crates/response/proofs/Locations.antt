-- Laws of the value of Location, for the code that judges it.
-- Assumes nothing.
use Prim.Native.Nat.{ℕ, ◌+◌, ◌≤◌, ◌<◌}
use mathlib.Core.Path.{◌≡◌, refl, sym, ap, ◌∙◌}
use mathlib.Core.Bool.{true, false, ◌&&◌}
use mathlib.Core.List.{List}
use Rattle.std.proofs.Common.{Ok, Err}
use native.Mathlib.Omega.{arith}
use lib.Dec.{leb}
use lib.ListN.{length, take, drop, get_or, length-take, length-drop}
use borrow.Author.Tests.{lt-ltb, le-ltb, le-leb, lt-leb}
use Rattle.octets.specs.Outcome.{Outcome, refused, gives, then}
use Rattle.octets.specs.Kinds.{is_letter, is_scheme}
use Rattle.octets.specs.Lists.{is_nil}
use Rattle.octets.specs.Scan.{run, other, all_of}
use Rattle.octets.specs.declared.refusal.Refusal.{Refusal}
use Rattle.octets.specs.declared.span.Span.{Span}
use Rattle.octets.proofs.Lists.{nil-filled}
use Rattle.octets.proofs.Scans.{all_take}
use Rattle.targets.specs.Target.{Target, path_of, target_of, TargetRead}
use Rattle.targets.specs.declared.target.TargetPlace.{TargetPlace}
use Rattle.targets.proofs.Claims.{targets-told}
use Rattle.response.specs.Seen.{value_at}
use Rattle.response.specs.Location.{is_visible, is_elsewhere, accepted, is_location, location_right, filled}
use Rattle.response.specs.declared.fields.Mark.{Mark}
use Rattle.response.specs.declared.fields.Mark.TheVariants.{Once}

-- What the reader of targets says.

module _ (t d d' : List ℕ) where
  pub target-taken : (p : TargetPlace) → TargetRead t d d' (Ok p) → true ≡ accepted (target_of t)
  target-taken p w = by (target_of t) w.answer
    where
      by : (o : Outcome Target) → gives p ≡ then o (λ x. gives (record { path_len = length (path_of t); decoded_len = length x.path })) → true ≡ accepted o
      by (refused m) q = cc
      by (gives x) q = refl

  pub target-refused : (e : Refusal) → TargetRead t d d' (Err e) → false ≡ accepted (target_of t)
  target-refused e w = ap accepted (targets-told.refuses t d d' e w)

-- A Location that is not local, test by test.

pub no-letter : (v : List ℕ) → is_letter (get_or v 0 0) ≡ false → is_elsewhere v ≡ false
unfolding is_elsewhere
no-letter v e = rw e

module _ (v : List ℕ) (n : ℕ) (letter : is_letter (get_or v 0 0) ≡ true) (colon : n ≡ 0 + run (other 58) (drop 0 v)) where
  at-colon : run (other 58) v ≡ n
  at-colon = omega arith

  pub nothing-behind : length v ≤ n + 1 → is_elsewhere v ≡ false
  unfolding is_elsewhere
  nothing-behind h = rw (at-colon, letter, le-ltb (n + 1) (length v) h)

  module _ (h : n + 1 < length v) (j : ℕ) (e : j ≡ 0 + run is_scheme (drop 0 v)) where
    name-test : all_of is_scheme (take n v) ≡ leb n (run is_scheme v)
    name-test = all_take is_scheme v n (omega arith)

    pub other_name : j < n → is_elsewhere v ≡ false
    unfolding is_elsewhere
    other_name l = rw (at-colon, letter, lt-ltb (n + 1) (length v) h, name-test, lt-leb n (run is_scheme v) (omega arith))

    pub bytes_left : n ≤ j → is_elsewhere v ≡ all_of is_visible v
    unfolding is_elsewhere
    bytes_left l = rw (at-colon, letter, lt-ltb (n + 1) (length v) h, name-test, le-leb n (run is_scheme v) (omega arith))

-- A mark's Location, at the place p.

module _ (s : List ℕ) (m : Mark) (p : Span) (e : m ≡ Once p) (inside : p.start + p.len ≤ length s) (some_bytes : p.len ≡ 0 → ⊥) where
  pub location-there : 0 < length (take p.len (drop p.start s))
  location-there = simp (length-take, length-drop) (omega arith)

  pub judged-there : is_location (take p.len (drop p.start s)) ≡ filled (value_at s m) && location_right (value_at s m)
  judged-there =
      let z : is_nil (take p.len (drop p.start s)) ≡ false = nil-filled _ location-there in
      sym (ap (λ (k : Mark). filled (value_at s k) && location_right (value_at s k)) e ∙ rw z)
