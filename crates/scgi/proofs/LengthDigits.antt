-- A netstring's length is what its digits say.
-- Assumes nothing.
use Prim.Native.Nat.{ℕ, ◌+◌, ◌*◌, ◌-◌}
use mathlib.Core.Path.{◌≡◌, refl}
use mathlib.Core.Bool.{Bool, true, false, cond, not, ◌&&◌}
use mathlib.Core.List.{List, [], ◌∷◌}
use lib.Dec.{eqb, leb, ltb}
use Rattle.octets.specs.Outcome.{Outcome, gives, then, need}
use Rattle.octets.specs.Kinds.{is_digit}
use Rattle.scgi.specs.Netstring.{length_step, length_from, length_of}
use Rattle.scgi.specs.declared.netstring.Length.{Length}
use Rattle.scgi.specs.Digits.{digit_step, digits_from, length_by}
use Rattle.scgi.specs.declared.netstring.Digits.{Digits}

-- one step of either, where the rest agrees
step-digits : (i v b : ℕ) (x : Outcome Length) (y : Outcome Digits) → x ≡ then y length_by → length_step i v b x ≡ then (digit_step i v b y) length_by
step-digits i v b x y e = by (eqb b 58) (ltb 0 i) (is_digit b && not (ltb 0 i && eqb v 0)) (leb (v * 10 + (b - 48)) 16384)
  where
    by :
        (c s d l : Bool)
        → cond c (need s 2 (gives (record { len = v; next = i + 1 }))) (need d 2 (need l 3 x))
        ≡ then (cond c (need s 2 (gives (record { count = i; value = v; colon = true }))) (need d 2 (need l 3 y))) length_by
    by true true d l = refl
    by true false d l = refl
    by false s true true = e
    by false s true false = refl
    by false s false l = refl

from-digits : (s : List ℕ) (i v : ℕ) → length_from i v s ≡ then (digits_from i v s) length_by
unfolding length_from digits_from
from-digits [] i v = refl
from-digits (b ∷ s) i v =
    step-digits i v b (length_from (i + 1) (v * 10 + (b - 48)) s) (digits_from (i + 1) (v * 10 + (b - 48)) s) (from-digits s (i + 1) (v * 10 + (b - 48)))

pub length-digits : (s : List ℕ) → length_of s ≡ then (digits_from 0 0 s) length_by
length-digits s = from-digits s 0 0
