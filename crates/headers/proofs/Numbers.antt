-- Which number looking up can give.
-- Assumes nothing.
use Prim.Native.Nat.{ℕ}
use mathlib.Core.Path.{◌≡◌}
use mathlib.Core.List.{List}
use Rattle.std.proofs.Common.{Option, None, Some}
use Rattle.octets.specs.Outcome.{Outcome, refused, gives, then, given}
use Rattle.headers.specs.Block.{Header, headers_of}
use Rattle.octets.specs.declared.span.Span.{Span}
use Rattle.headers.specs.Lookup.{place_in, lookup_of}
use Rattle.headers.specs.Setting.{first_found, setting_of}
use Rattle.headers.specs.Claims.{NumbersHold}

lookup-five : (block name : List ℕ) (n : ℕ) → lookup_of block name ≡ refused n → n ≡ 5
unfolding lookup_of
lookup-five block name n e = by (headers_of block) e
  where
    by : (o : Option (List Header)) → then (given o 5) (λ hs. gives (place_in name 0 hs)) ≡ refused n → n ≡ 5
    by None e = cc
    by (Some hs) e = cc

setting-five : (first second name : List ℕ) (n : ℕ) → setting_of first second name ≡ refused n → n ≡ 5
unfolding setting_of
setting-five first second name n e = by (lookup_of first name) (lookup_of second name) (lookup-five first name n) (lookup-five second name n) e
  where
    by :
        (f s : Outcome (Option Span)) → (f ≡ refused n → n ≡ 5) → (s ≡ refused n → n ≡ 5)
        → then f (λ f. then s (λ s. gives (first_found f s))) ≡ refused n → n ≡ 5
    by (refused m) s h k e = h cc
    by (gives p) (refused m) h k e = k cc
    by (gives p) (gives q) h k e = cc

pub numbers-hold : NumbersHold
numbers-hold = record { lookup = lookup-five; setting = setting-five }
