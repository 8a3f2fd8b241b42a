-- A netstring's length is read exactly where it stands in decimal before a colon.
-- Assumes nothing.
use Prim.Native.Nat.{ℕ, suc, ◌+◌, ◌*◌, ◌-◌, ◌/◌, ◌%◌, ◌≤◌, ◌<◌}
use Prim.{absurd}
use mathlib.Core.Path.{◌≡◌, refl, sym, ap, ◌∙◌}
use mathlib.Core.Bool.{Bool, true, false, cond, not, ◌&&◌, false≢true}
use mathlib.Core.Logic.{◌⊎◌, inl, inr, ⊎_elim}
use mathlib.Core.List.{List, [], ◌∷◌, ◌++◌}
use native.Mathlib.Nat.{zero-add}
use native.Mathlib.Omega.{arith}
use lib.Dec.{leb, ltb, eqb}
use lib.ListN.{length, length-append}
use borrow.Author.Tests.{ltb-true, lt-ltb, le-leb, leb-true, eqb-true, eqb-false, ne_eqb, not-true}
use Rattle.octets.specs.Outcome.{Outcome, gives, then, need}
use Rattle.octets.specs.Kinds.{is_digit}
use Rattle.octets.specs.Decimal.{digits_in, decimal}
use Rattle.octets.proofs.Bools.{and_left, and_right}
use Rattle.octets.proofs.Outcomes.{need-gives, then-gives}
use Rattle.octets.proofs.Decimals.{digits, digits_append, one_digit_more, first-digit, decimal-some}
use Rattle.scgi.specs.Claims.{LengthSaid}
use Rattle.scgi.proofs.LengthDigits.{length-digits}
use Rattle.scgi.specs.Digits.{digit_step, digits_from, length_by}
use Rattle.scgi.specs.declared.netstring.Digits.{Digits}
use Rattle.scgi.specs.Netstring.{length_of}
use Rattle.scgi.specs.declared.netstring.Length.{Length}

-- What is written is read.

-- a first digit, and a digit after a number that is not 0
first : (d : ℕ) (s : List ℕ) → d < 10 → digits_from 0 0 ((48 + d) ∷ s) ≡ digits_from 1 d s
unfolding digits_from is_digit
first d s h =
    let c : 48 + d ≡ 58 → ⊥ = omega arith in
    let e : 48 + d - 48 ≡ d = omega arith in
    let a : 48 ≤ 48 + d = omega arith in
    let z : 48 + d ≤ 57 = omega arith in
    let m : d ≤ 16384 = omega arith in
    simp (ne_eqb _ _ c, e, zero-add, le-leb _ _ a, le-leb _ _ z, le-leb _ _ m)

later : (i v d : ℕ) (s : List ℕ) → 0 < i → 0 < v → d < 10 → v * 10 + d ≤ 16384 → digits_from i v ((48 + d) ∷ s) ≡ digits_from (i + 1) (v * 10 + d) s
unfolding digits_from is_digit
later i v d s hi hv h m =
    let c : 48 + d ≡ 58 → ⊥ = omega arith in
    let e : 48 + d - 48 ≡ d = omega arith in
    let a : 48 ≤ 48 + d = omega arith in
    let z : 48 + d ≤ 57 = omega arith in
    let n : v ≡ 0 → ⊥ = omega arith in
    simp (ne_eqb _ _ c, e, le-leb _ _ a, le-leb _ _ z, lt-ltb _ _ hi, ne_eqb _ _ n, le-leb _ _ m)

-- the digits t of n in front of s lead the reader to the number n
record Led (n : ℕ) (s t : List ℕ) : Type 0 where
  longer : length s < length t
  to : digits_from 0 0 t ≡ digits_from (length t - length s) n s

led : (n : ℕ) (s : List ℕ) → n ≤ 16384 → Led n s (digits_in n n s)
led n s m =
    digits (λ n s t. n ≤ 16384 → Led n s t)
    (λ n s h m.
    let i : suc (length s) - length s ≡ 1 = omega arith in
    record { longer = omega arith; to = first n s h ∙ rw i })
    (λ n s t h ih m.
    let r : Led (n / 10) ((48 + n % 10) ∷ s) t = ih (omega arith) in
    let l : suc (length s) < length t = r.longer in
    let i : length t - suc (length s) + 1 ≡ length t - length s = omega arith in
    let v : n / 10 * 10 + n % 10 ≡ n = omega arith in
    record {
      longer = omega arith;
      to = r.to ∙ later (length t - suc (length s)) (n / 10) (n % 10) s (omega arith) (omega arith) (omega arith) (omega arith) ∙ rw (i, v);
    })
    n n s (omega arith) m

-- the length n, as it stands in decimal before a colon
abbrev pub length_at : ℕ → Length
length_at n = record { len = n; next = length (decimal n) + 1 }

at-colon : (i n : ℕ) (s : List ℕ) → 0 < i → digits_from i n (58 ∷ s) ≡ gives (record { count = i; value = n; colon = true })
unfolding digits_from
at-colon i n s h = rw (lt-ltb 0 i h)

pub read-decimal : (n : ℕ) (s : List ℕ) → n ≤ 16384 → length_of (decimal n ++ 58 ∷ s) ≡ gives (length_at n)
read-decimal n s m =
    let a : digits_in n n (58 ∷ s) ≡ decimal n ++ 58 ∷ s = digits_append n n [] (58 ∷ s) in
    let r = led n (58 ∷ s) m in
    let i : length (digits_in n n (58 ∷ s)) - suc (length s) ≡ length (decimal n) = omega (arith, simp length-append at (ap length a)) in
    let c : digits_from 0 0 (digits_in n n (58 ∷ s)) ≡ gives (record { count = length (decimal n); value = n; colon = true }) =
    r.to ∙ rw i (at-colon (length (decimal n)) n s (decimal-some n)) in
    ap length_of (sym a) ∙ length-digits (digits_in n n (58 ∷ s)) ∙ ap (λ (o : Outcome Digits). then o length_by) c

-- What is read was written.

pub record Colon (i v b : ℕ) (d : Digits) : Type 0 where
  pub is : b ≡ 58
  pub after : 0 < i
  pub gave : d ≡ record { count = i; value = v; colon = true }

pub record Digit (i v b : ℕ) (rest : Outcome Digits) (d : Digits) : Type 0 where
  pub low : 48 ≤ b
  pub high : b ≤ 57
  pub no_leading : ltb 0 i && eqb v 0 ≡ false
  pub small : v * 10 + (b - 48) ≤ 16384
  pub next : rest ≡ gives d

pub step : (i v b : ℕ) (rest : Outcome Digits) (d : Digits) → digit_step i v b rest ≡ gives d → Colon i v b d ⊎ Digit i v b rest d
unfolding is_digit
step i v b rest d e = by (eqb b 58) refl e
  where
    by :
        (t : Bool) → eqb b 58 ≡ t
        → cond t (need (ltb 0 i) 2 (gives (record { count = i; value = v; colon = true })))
        (need (is_digit b && not (ltb 0 i && eqb v 0)) 2 (need (leb (v * 10 + (b - 48)) 16384) 3 rest))
        ≡ gives d
        → Colon i v b d ⊎ Digit i v b rest d
    by true t f =
        let g = need-gives (ltb 0 i) 2 (gives (record { count = i; value = v; colon = true })) d f in
        let x : gives d ≡ gives (record { count = i; value = v; colon = true }) = sym g.1 in
        inl (record { is = eqb-true b 58 t; after = ltb-true 0 i g.0; gave = cc })
    by false t f =
        let g = need-gives (is_digit b && not (ltb 0 i && eqb v 0)) 2 (need (leb (v * 10 + (b - 48)) 16384) 3 rest) d f in
        let h = need-gives (leb (v * 10 + (b - 48)) 16384) 3 rest d g.1 in
        let x : is_digit b ≡ true = and_left (is_digit b) (not (ltb 0 i && eqb v 0)) g.0 in
        inr
        (record {
          low = leb-true 48 b (and_left (leb 48 b) (leb b 57) x);
          high = leb-true b 57 (and_right (leb 48 b) (leb b 57) x);
          no_leading = not-true _ (and_right (is_digit b) (not (ltb 0 i && eqb v 0)) g.0);
          small = leb-true (v * 10 + (b - 48)) 16384 h.0;
          next = h.1;
        })

-- the digits of v in front of s are those of the number that is read, a colon, and the rest
record Said (i v : ℕ) (s : List ℕ) (d : Digits) : Type 0 where
  rest : List ℕ
  is : digits_in v v s ≡ digits_in d.value d.value (58 ∷ rest)
  count : i + length s ≡ d.count + 1 + length rest
  small : d.value ≤ 16384

pub not-zero : (i v : ℕ) → 0 < i → ltb 0 i && eqb v 0 ≡ false → 0 < v
not-zero i v h e = let f : eqb v 0 ≡ false = rw (lt-ltb 0 i h) at e in omega (arith, eqb-false v 0 f)

said : (s : List ℕ) (i v : ℕ) (d : Digits) → 0 < i → v ≤ 16384 → d.colon ≡ true → digits_from i v s ≡ gives d → Said i v s d
unfolding digits_from
said [] i v d h m k e =
    let x : record { count = i; value = v; colon = false } ≡ d = cc in
    absurd (false≢true (ap (λ (y : Digits). y.colon) x ∙ k))
said (b ∷ s) i v d h m k e =
    ⊎_elim
    (λ c. rw (c.gave, c.is) (record { rest = s; is = refl; count = omega arith; small = m }))
    (λ x.
    let r = said s (i + 1) (v * 10 + (b - 48)) d (omega arith) x.small k x.next in
    record {
      rest = r.rest;
      is = one_digit_more v b s (not-zero i v h x.no_leading) x.low x.high ∙ r.is;
      count = omega (arith, r.count);
      small = r.small;
    })
    (step i v b (digits_from (i + 1) (v * 10 + (b - 48)) s) d e)

-- the length stands in decimal before a colon
pub record Written (s : List ℕ) (l : Length) : Type 0 where
  pub rest : List ℕ
  pub is : s ≡ decimal l.len ++ 58 ∷ rest
  pub at : l ≡ length_at l.len
  pub small : l.len ≤ 16384

-- .. where the digits are d
record Digited (s : List ℕ) (d : Digits) : Type 0 where
  rest : List ℕ
  is : s ≡ decimal d.value ++ 58 ∷ rest
  count : d.count ≡ length (decimal d.value)
  small : d.value ≤ 16384

from_first : (b : ℕ) (s : List ℕ) (d : Digits) → d.colon ≡ true → Digit 0 0 b (digits_from (0 + 1) (0 * 10 + (b - 48)) s) d → Digited (b ∷ s) d
from_first b s d k x =
    let z : 0 * 10 + (b - 48) ≡ b - 48 = omega arith in
    let low : 48 ≤ b = x.low in
    let high : b ≤ 57 = x.high in
    let r : Said 1 (b - 48) s d = said s 1 (b - 48) d (omega arith) (omega arith) k (rw z at x.next) in
    let w : b ∷ s ≡ decimal d.value ++ 58 ∷ r.rest = sym (first-digit b s low high) ∙ r.is ∙ digits_append d.value d.value [] (58 ∷ r.rest) in
    let c : 1 + length s ≡ d.count + 1 + length r.rest = r.count in
    record { rest = r.rest; is = w; count = omega (arith, simp length-append at (ap length w)); small = r.small }

digited : (s : List ℕ) (d : Digits) → d.colon ≡ true → digits_from 0 0 s ≡ gives d → Digited s d
unfolding digits_from
digited [] d k e =
    let x : record { count = 0; value = 0; colon = false } ≡ d = cc in
    absurd (false≢true (ap (λ (y : Digits). y.colon) x ∙ k))
digited (b ∷ s) d k e =
    ⊎_elim (λ c. absurd (omega (arith, c.after))) (from_first b s d k) (step 0 0 b (digits_from (0 + 1) (0 * 10 + (b - 48)) s) d e)

pub length-said : (s : List ℕ) (l : Length) → length_of s ≡ gives l → LengthSaid s l
length-said s l e =
    let a = then-gives (digits_from 0 0 s) length_by l (sym (length-digits s) ∙ e) in
    let d : Digits = a.it in
    let b = need-gives d.colon 1 (gives (record { len = d.value; next = d.count + 1 })) l a.next in
    let x : gives (record { len = d.value; next = d.count + 1 }) ≡ gives l = b.1 in
    record { digits = d; read = a.first; colon = b.0; is = cc }

pub written : (s : List ℕ) (l : Length) → length_of s ≡ gives l → Written s l
written s l e =
    let a = length-said s l e in
    let d : Digits = a.digits in
    let w = digited s d a.colon a.read in
    rw a.is
    (record {
      rest = w.rest;
      is = w.is;
      at = ap {B = Length} (λ (n : ℕ). record { len = d.value; next = n + 1 }) w.count;
      small = w.small;
    })

-- bounds, for code that goes on from a length that was read
pub record Bounded (s : List ℕ) (l : Length) : Type 0 where
  pub small : l.len ≤ 16384
  pub some : 1 < l.next
  pub within : l.next ≤ length s

pub length-bounds : (s : List ℕ) (l : Length) → length_of s ≡ gives l → Bounded s l
length-bounds s l e =
    let w = written s l e in
    let n : l.next ≡ length (decimal l.len) + 1 = ap (λ (x : Length). x.next) w.at in
    record {
      small = w.small;
      some = omega (arith, decimal-some l.len);
      within = omega (arith, simp length-append at (ap length w.is));
    }
