-- Laws of escapes: one byte or one escape at a time from an index, the path's escapes, and the length of what is decoded.
-- Assumes nothing.
use Prim.Native.Nat.{ℕ, zero, suc, ◌+◌, ◌*◌, ◌≤◌, ◌<◌}
use mathlib.Core.Path.{◌≡◌, refl, sym, ap, ◌∙◌}
use mathlib.Core.Bool.{Bool, true, false, cond, not, ◌&&◌, ◌||◌}
use mathlib.Core.List.{List, [], ◌∷◌}
use native.Mathlib.Nat.{add-zero}
use native.Mathlib.Omega.{arith, by_contra}
use lib.Dec.{eqb, leb}
use lib.ListN.{length, take, drop, get_or, drop_of_length-le, get_or-eq_default}
use lib.Seq.{get_or-drop, drop-drop}
use borrow.Author.Tests.{eq-eqb, ne_eqb, eqb-true, leb-true}
use Rattle.std.specs.List.{list_all, range_with_len}
use Rattle.octets.specs.Kinds.{within, is_digit, is_hex}
use Rattle.octets.specs.Scan.{run, other}
use Rattle.octets.proofs.Bools.{and_left, and_right, and-false}
use Rattle.octets.proofs.Lists.{next}
use Rattle.targets.specs.Escape.{escape_right, escapes_right, hex_value, decoded_from, decoded, Decodes}

in-range : (lo hi b v w : ℕ) → (b ≤ hi → v ≤ 15) → w ≤ 15 → cond (within lo hi b) v w ≤ 15
in-range lo hi b v w h r = by (leb lo b) (leb b hi) refl
  where
    by : (x y : Bool) → leb b hi ≡ y → cond (x && y) v w ≤ 15
    by true true e = h (leb-true b hi e)
    by true false e = r
    by false y e = r

pub hex-small : (b : ℕ) → hex_value b ≤ 15
unfolding hex_value is_digit
hex-small b =
    in-range 48 57 b _ _ (λ h. omega arith)
    (in-range 65 70 b _ _ (λ h. omega arith) (in-range 97 102 b _ _ (λ h. omega arith) (omega arith)))

-- the digits after an index
module _ (t : List ℕ) (i : ℕ) where
  pub escape-at : (b : ℕ) → escape_right b (drop (i + 1) t) ≡ not (eqb b 37) || (is_hex (get_or t (i + 1) 0) && is_hex (get_or t (i + 2) 0))
  escape-at b =
      let e : i + 1 + 0 ≡ i + 1 = omega arith in
      let f : i + 1 + 1 ≡ i + 2 = omega arith in
      rw (get_or-drop (i + 1) t 0 0, get_or-drop (i + 1) t 1 0, e, f)

  pub escapes-next : i < length t → escapes_right (drop i t) ≡ escape_right (get_or t i 0) (drop (i + 1) t) && escapes_right (drop (i + 1) t)
  unfolding escapes_right
  escapes-next h = ap escapes_right (next t i h)

  pub escapes-none : length t ≤ i → escapes_right (drop i t) ≡ true
  unfolding escapes_right
  escapes-none h = rw (drop_of_length-le t h)

-- the test at each index from a on tells it too
listed-from :
    (t : List ℕ) (n a : ℕ) → a + n ≡ length t
    → list_all (λ i. escape_right (get_or t i 0) (drop (i + 1) t)) (range_with_len a n) ≡ escapes_right (drop a t)
listed-from t zero a e = sym (escapes-none t a (omega arith))
listed-from t (suc n) a e =
    ap (λ x. escape_right (get_or t a 0) (drop (a + 1) t) && x) (listed-from t n (a + 1) (omega arith))
    ∙ sym (escapes-next t a (omega arith))

pub escapes-listed :
    (t : List ℕ) → list_all (λ i. escape_right (get_or t i 0) (drop (i + 1) t)) (range_with_len 0 (length t)) ≡ escapes_right t
escapes-listed t = listed-from t (length t) 0 (omega arith)

pub escapes-drop : (k : ℕ) (t : List ℕ) → escapes_right t ≡ true → escapes_right (drop k t) ≡ true
unfolding escapes_right
escapes-drop zero t e = e
escapes-drop (suc k) [] e = e
escapes-drop (suc k) (b ∷ t) e = escapes-drop k t (and_right (escape_right b t) (escapes_right t) e)

pub not-hex : is_hex 0 ≡ false
unfolding is_hex is_digit
not-hex = refl

hex-there : (s : List ℕ) (i : ℕ) → is_hex (get_or s i 0) ≡ true → i < length s
hex-there s i e =
    by_contra (suc i) (length s)
    (λ h.
    let h' : length s ≤ i = omega arith in
    let z : ◌≡◌ {A = Bool} true false = sym e ∙ ap is_hex (get_or-eq_default s 0 h') ∙ not-hex in
    let y : ◌≡◌ {A = ℕ} 0 1 = cc in
    omega arith)

skip : (k : ℕ) (t : List ℕ) → decoded_from k t ≡ decoded_from 0 (drop k t)
unfolding decoded_from
skip zero t = refl
skip (suc k) [] = refl
skip (suc k) (b ∷ t) = skip k t

module _ (s : List ℕ) (i : ℕ) (h : i < length s) (e : escapes_right (drop i s) ≡ true) where
  right-after : (k : ℕ) → escapes_right (drop (i + k) s) ≡ true
  right-after k = ap escapes_right (sym (drop-drop k i s)) ∙ escapes-drop k (drop i s) e

  -- the byte at i is no percent sign
  pub decode-byte : (get_or s i 0 ≡ 37 → ⊥) → Decodes s i (get_or s i 0) (i + 1)
  unfolding decoded_from
  decode-byte n =
      record {
        one = ap decoded (next s i h) ∙ simp (ne_eqb _ _ n);
        later = omega arith;
        inside = omega arith;
        right = right-after 1;
      }

  -- .. or is one, and then two hex digits follow
  module _ (p : get_or s i 0 ≡ 37) where
    digits : is_hex (get_or s (i + 1) 0) && is_hex (get_or s (i + 2) 0) ≡ true
    digits =
        let r : escape_right 37 (drop (i + 1) s) ≡ true =
        and_left (escape_right 37 (drop (i + 1) s)) (escapes_right (drop (i + 1) s)) (rw p at (sym (escapes-next s i h) ∙ e)) in
        sym (escape-at s i 37) ∙ r

    pub escape-inside : i + 2 < length s
    escape-inside = hex-there s (i + 2) (and_right (is_hex (get_or s (i + 1) 0)) (is_hex (get_or s (i + 2) 0)) digits)

    pub decode-escape : Decodes s i (hex_value (get_or s (i + 1) 0) * 16 + hex_value (get_or s (i + 2) 0)) (i + 3)
    unfolding decoded_from
    decode-escape =
        let a : get_or (drop (i + 1) s) 0 0 ≡ get_or s (i + 1) 0 = get_or-drop (i + 1) s 0 0 ∙ ap (λ (k : ℕ). get_or s k 0) (add-zero (i + 1)) in
        let f : i + 1 + 1 ≡ i + 2 = omega arith in
        let b : get_or (drop (i + 1) s) 1 0 ≡ get_or s (i + 2) 0 = get_or-drop (i + 1) s 1 0 ∙ ap (λ (k : ℕ). get_or s k 0) f in
        let g : i + 1 + 2 ≡ i + 3 = omega arith in
        let d : decoded_from 2 (drop (i + 1) s) ≡ decoded_from 0 (drop (i + 3) s) =
        skip 2 (drop (i + 1) s) ∙ ap decoded (drop-drop 2 (i + 1) s ∙ ap (λ (k : ℕ). drop k s) g) in
        let inside = escape-inside in
        record {
          one = ap decoded (next s i h) ∙ simp (eq-eqb _ _ p, a, b, d);
          later = omega arith;
          inside = omega arith;
          right = right-after 3;
        }

pub decoded-none : (s : List ℕ) (i : ℕ) → length s ≤ i → decoded (drop i s) ≡ []
unfolding decoded_from
decoded-none s i h = ap decoded (drop_of_length-le s h)

-- what is decoded is not longer
pub decoded-le : (k : ℕ) (t : List ℕ) → length (decoded_from k t) ≤ length t
unfolding decoded_from
decoded-le zero [] = omega arith
decoded-le (suc k) [] = omega arith
decoded-le (suc k) (b ∷ t) = omega (arith, decoded-le k t)
decoded-le zero (b ∷ t) = by (eqb b 37) (decoded-le 2 t) (decoded-le 0 t)
  where
    by :
        (x : Bool) → length (decoded_from 2 t) ≤ length t → length (decoded_from 0 t) ≤ length t
        → length (cond x ((hex_value (get_or t 0 0) * 16 + hex_value (get_or t 1 0)) ∷ decoded_from 2 t) (b ∷ decoded_from 0 t)) ≤ suc (length t)
    by true p q = omega arith
    by false p q = omega arith

-- The escapes of a target lie in its path or after it: 63 is no hex digit.

not-question : (b : ℕ) → is_hex b ≡ true → eqb b 63 ≡ false
unfolding is_hex is_digit
not-question b e = by (eqb b 63) refl
  where
    by : (t : Bool) → eqb b 63 ≡ t → t ≡ false
    by true q = sym e ∙ ap is_hex (eqb-true b 63 q)
    by false q = refl

kept-digits :
    (t : List ℕ) → is_hex (get_or t 0 0) && is_hex (get_or t 1 0) ≡ true
    → is_hex (get_or (take (run (other 63) t) t) 0 0) && is_hex (get_or (take (run (other 63) t) t) 1 0) ≡ true
unfolding run
kept-digits [] e = e
kept-digits (b ∷ []) e = let z = rw not-hex at e in cc (and-false (is_hex b))
kept-digits (b ∷ c ∷ t) e =
    simp (not-question b (and_left (is_hex b) (is_hex c) e), not-question c (and_right (is_hex b) (is_hex c) e)) e

kept-escape :
    (t : List ℕ) (x : Bool) → not x || (is_hex (get_or t 0 0) && is_hex (get_or t 1 0)) ≡ true
    → not x || (is_hex (get_or (take (run (other 63) t) t) 0 0) && is_hex (get_or (take (run (other 63) t) t) 1 0)) ≡ true
kept-escape t true e = kept-digits t e
kept-escape t false e = refl

pub path-escapes : (t : List ℕ) → escapes_right t ≡ true → escapes_right (take (run (other 63) t) t) ≡ true
unfolding run escapes_right
path-escapes [] e = refl
path-escapes (b ∷ t) e =
    by (eqb b 63) (kept-escape t (eqb b 37) (and_left (escape_right b t) (escapes_right t) e))
    (path-escapes t (and_right (escape_right b t) (escapes_right t) e))
  where
    by :
        (x : Bool) → escape_right b (take (run (other 63) t) t) ≡ true → escapes_right (take (run (other 63) t) t) ≡ true
        → escapes_right (take (cond (not x) (suc (run (other 63) t)) 0) (b ∷ t)) ≡ true
    by true d r = refl
    by false d r = rw (d, r)
