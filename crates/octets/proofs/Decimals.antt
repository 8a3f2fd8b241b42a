-- A number in decimal: its digits say it, whatever follows them, and no other digits without a leading zero do.
-- Assumes nothing.
use Prim.Native.Nat.{ℕ, zero, suc, ◌+◌, ◌*◌, ◌-◌, ◌/◌, ◌%◌, ◌≤◌, ◌<◌}
use Prim.{absurd}
use mathlib.Core.Path.{◌≡◌, refl, sym, ap, ◌∙◌}
use mathlib.Core.Bool.{Bool, true, false, cond, ◌&&◌}
use mathlib.Core.List.{List, [], ◌∷◌, ◌++◌}
use Rattle.std.proofs.Common.{None, Some}
use native.Mathlib.Omega.{arith}
use lib.Dec.{leb, ltb, eqb}
use lib.ListN.{length, length-append}
use borrow.Author.Tests.{ltb-true, ltb-false, lt-ltb, le-ltb, le-leb, lt-leb, leb-true, eqb-true, eqb-false}
use Rattle.octets.specs.Kinds.{is_digit, within}
use Rattle.octets.specs.Scan.{all_of}
use Rattle.octets.specs.Decimal.{number_from, number_of, digits_in, decimal, Says, plain, zero_before}
use Rattle.octets.proofs.Bools.{and_left, and_right, and-false}

-- what holds of the digits of n in front of s: of n below 10, and of n from those of n / 10 in front of one more digit
pub digits :
    (P : ℕ → List ℕ → List ℕ → Type 0)
    → ((n : ℕ) (s : List ℕ) → n < 10 → P n s ((48 + n) ∷ s))
    → ((n : ℕ) (s t : List ℕ) → 10 ≤ n → P (n / 10) ((48 + n % 10) ∷ s) t → P n s t)
    → (k n : ℕ) (s : List ℕ) → n ≤ k → P n s (digits_in k n s)
unfolding digits_in
digits P one more zero n s h = one n s (omega arith)
digits P one more (suc k) n s h = by (ltb n 10) refl (digits P one more k (n / 10) ((48 + n % 10) ∷ s))
  where
    by :
        (t : Bool) → ltb n 10 ≡ t → (n / 10 ≤ k → P (n / 10) ((48 + n % 10) ∷ s) (digits_in k (n / 10) ((48 + n % 10) ∷ s)))
        → P n s (cond t ((48 + n) ∷ s) (digits_in k (n / 10) ((48 + n % 10) ∷ s)))
    by true e ih = one n s (ltb-true n 10 e)
    by false e ih =
        let b : 10 ≤ n = ltb-false n 10 e in
        more n s _ b (ih (omega arith))

-- the digits in front of s are the digits, and then s
pub digits_append : (k n : ℕ) (s t : List ℕ) → digits_in k n (s ++ t) ≡ digits_in k n s ++ t
unfolding digits_in
digits_append zero n s t = refl
digits_append (suc k) n s t = by (ltb n 10) (digits_append k (n / 10) ((48 + n % 10) ∷ s) t)
  where
    by :
        (q : Bool) → digits_in k (n / 10) ((48 + n % 10) ∷ (s ++ t)) ≡ digits_in k (n / 10) ((48 + n % 10) ∷ s) ++ t
        → cond q ((48 + n) ∷ (s ++ t)) (digits_in k (n / 10) ((48 + n % 10) ∷ (s ++ t))) ≡ cond q ((48 + n) ∷ s) (digits_in k (n / 10) ((48 + n % 10) ∷ s)) ++ t
    by true ih = refl
    by false ih = ih

-- fuel does not matter
pub enough : (k k' n : ℕ) (s : List ℕ) → n ≤ k → n ≤ k' → digits_in k n s ≡ digits_in k' n s
unfolding digits_in
enough zero zero n s h h' = refl
enough zero (suc k') n s h h' = rw (lt-ltb n 10 (omega arith))
enough (suc k) zero n s h h' = rw (lt-ltb n 10 (omega arith))
enough (suc k) (suc k') n s h h' = by (ltb n 10) refl (enough k k' (n / 10) ((48 + n % 10) ∷ s))
  where
    by :
        (t : Bool) → ltb n 10 ≡ t
        → (n / 10 ≤ k → n / 10 ≤ k' → digits_in k (n / 10) ((48 + n % 10) ∷ s) ≡ digits_in k' (n / 10) ((48 + n % 10) ∷ s))
        → cond t ((48 + n) ∷ s) (digits_in k (n / 10) ((48 + n % 10) ∷ s)) ≡ cond t ((48 + n) ∷ s) (digits_in k' (n / 10) ((48 + n % 10) ∷ s))
    by true e ih = refl
    by false e ih =
        let b : 10 ≤ n = ltb-false n 10 e in
        ih (omega arith) (omega arith)

one-digit : (k n : ℕ) (s : List ℕ) → n < 10 → digits_in k n s ≡ (48 + n) ∷ s
unfolding digits_in
one-digit zero n s h = refl
one-digit (suc k) n s h = rw (lt-ltb n 10 h)

last-digit : (k n : ℕ) (s : List ℕ) → 10 ≤ n → digits_in (suc k) n s ≡ digits_in k (n / 10) ((48 + n % 10) ∷ s)
unfolding digits_in
last-digit k n s h = rw (le-ltb n 10 h)

-- a digit b after the digits of v, that is not 0: the digits of v * 10 + b
pub one_digit_more : (v b : ℕ) (s : List ℕ) → 0 < v → 48 ≤ b → b ≤ 57 → digits_in v v (b ∷ s) ≡ digits_in (v * 10 + (b - 48)) (v * 10 + (b - 48)) s
one_digit_more v b s h lo hi =
    let m : ℕ = v * 10 + (b - 48) in
    let q : (v * 10 + (b - 48)) / 10 ≡ v = omega arith in
    let r : 48 + (v * 10 + (b - 48)) % 10 ≡ b = omega arith in
    enough v (v * 10 + (b - 48)) v (b ∷ s) (omega arith) (omega arith)
    ∙ sym (last-digit (v * 10 + (b - 48)) (v * 10 + (b - 48)) s (omega arith) ∙ rw (q, r))
    ∙ enough (suc (v * 10 + (b - 48))) (v * 10 + (b - 48)) (v * 10 + (b - 48)) s (omega arith) (omega arith)

only_zero : decimal 0 ≡ 48 ∷ []
unfolding digits_in
only_zero = refl

-- a first digit
pub first-digit : (b : ℕ) (s : List ℕ) → 48 ≤ b → b ≤ 57 → digits_in (b - 48) (b - 48) s ≡ b ∷ s
first-digit b s lo hi =
    let r : 48 + (b - 48) ≡ b = omega arith in
    one-digit (b - 48) (b - 48) s (omega arith) ∙ rw r

pub decimal-some : (n : ℕ) → 0 < length (decimal n)
decimal-some n = digits (λ n s t. 0 < length t) (λ n s h. omega arith) (λ n s t h ih. ih) n n [] (omega arith)

-- Numbers that digits say, leading zeros allowed.

number-digit : (v d n : ℕ) (s : List ℕ) → d < 10 → v * 10 + d ≡ n → number_from v ((48 + d) ∷ s) ≡ number_from n s
unfolding number_from is_digit
number-digit v d n s h e =
    let w : v * 10 + (48 + d - 48) ≡ n = omega arith in
    rw (le-leb 48 (48 + d) (omega arith), le-leb (48 + d) 57 (omega arith), w)

pub number-decimal : (n : ℕ) → number_from 0 (decimal n) ≡ Some n
unfolding number_from
number-decimal n =
    digits (λ n s t. number_from 0 t ≡ number_from n s)
    (λ n s h. number-digit 0 n n s h (omega arith))
    (λ n s t h ih. ih ∙ number-digit (n / 10) (n % 10) n s (omega arith) (omega arith))
    n n [] (omega arith)

-- a number between two others
inside : (a z n : ℕ) → a ≤ n → n ≤ z → within a z n ≡ true
inside a z n h l = rw (le-leb a n h, le-leb n z l)

pub number-some : (s : List ℕ) → 0 < length s → length s ≤ 10 → number_of s ≡ number_from 0 s
number-some s h l = ap (λ (t : Bool). cond t (number_from 0 s) None) (inside 1 _ (length s) h l)

-- none say no number, and so do more than ten
pub number-empty : (s : List ℕ) → length s ≡ 0 → number_of s ≡ None
number-empty s h = rw h

pub number-long : (s : List ℕ) → 10 < length s → number_of s ≡ None
number-long s h = rw (lt-leb (length s) 10 h, and-false)

says-number : {n : ℕ} {v : List ℕ} → Says n v → (0 < length v) × (number_from 0 v ≡ Some n)
unfolding number_from is_digit
says-number {n} plain = (decimal-some n, number-decimal n)
says-number (zero_before p) = (omega arith, (says-number p).1)

pub number-of-says : (n : ℕ) (v : List ℕ) → Says n v → length v ≤ 10 → number_of v ≡ Some n
number-of-says n v p l =
    let r = says-number p in
    number-some v r.0 l ∙ r.1

record Digit (b : ℕ) (s : List ℕ) (v n : ℕ) : Type 0 where
  low : 48 ≤ b
  high : b ≤ 57
  next : number_from (v * 10 + (b - 48)) s ≡ Some n

a-digit : (b v n : ℕ) (s : List ℕ) → number_from v (b ∷ s) ≡ Some n → Digit b s v n
unfolding number_from is_digit
a-digit b v n s e = by (is_digit b) refl e
  where
    by : (t : Bool) → is_digit b ≡ t → cond t (number_from (v * 10 + (b - 48)) s) None ≡ Some n → Digit b s v n
    by true q f =
        record {
          low = leb-true 48 b (and_left (leb 48 b) (leb b 57) q);
          high = leb-true b 57 (and_right (leb 48 b) (leb b 57) q);
          next = f;
        }
    by false q f = absurd (let z : ◌≡◌ {A = ℕ} 0 1 = cc in omega arith)

no_digit : (v n : ℕ) → number_from v [] ≡ Some n → v ≡ n
unfolding number_from
no_digit v n e = cc

-- digits after a number that is not 0 are its decimal
said-after : (s : List ℕ) (v n : ℕ) → 0 < v → number_from v s ≡ Some n → digits_in v v s ≡ decimal n
said-after [] v n h e =
    let z : v ≡ n = no_digit v n e in
    rw z
said-after (b ∷ s) v n h e =
    let d = a-digit b v n s e in
    one_digit_more v b s h d.low d.high ∙ said-after s (v * 10 + (b - 48)) n (omega arith) d.next

-- digits b and s, where it is known what s says after a zero
lead : (s : List ℕ) (b n : ℕ) → number_from 0 (b ∷ s) ≡ Some n → (number_from 0 s ≡ Some n → Says n (48 ∷ s)) → Says n (b ∷ s)
lead s b n e ih = by (eqb b 48) refl
  where
    d : Digit b s 0 n
    d = a-digit b 0 n s e

    next : number_from (b - 48) s ≡ Some n
    next =
        let z : 0 * 10 + (b - 48) ≡ b - 48 = omega arith in
        rw z at d.next

    by : (t : Bool) → eqb b 48 ≡ t → Says n (b ∷ s)
    by true t =
        let z : b ≡ 48 = eqb-true b 48 t in
        rw z (ih (rw z at next))
    by false t =
        let low : 48 ≤ b = d.low in
        let pos : 0 < b - 48 = omega (arith, eqb-false b 48 t) in
        rw (sym (first-digit b s d.low d.high) ∙ said-after s (b - 48) n pos next) plain

says-from : (s : List ℕ) (b n : ℕ) → number_from 0 (b ∷ s) ≡ Some n → Says n (b ∷ s)
says-from [] b n e =
    lead [] b n e
    (λ f.
    let z : 0 ≡ n = no_digit 0 n f in
    rw (← z, ← only_zero) plain)
says-from (c ∷ s) b n e = lead (c ∷ s) b n e (λ f. zero_before (says-from s c n f))

says_some : (n : ℕ) (v : List ℕ) → 0 < length v → number_from 0 v ≡ Some n → Says n v
says_some n [] h e = absurd (omega arith)
says_some n (b ∷ v) h e = says-from v b n e

pub says-of-number : (n : ℕ) (v : List ℕ) → number_of v ≡ Some n → Says n v × (length v ≤ 10)
says-of-number n v = by (leb 1 (length v)) (leb (length v) 10) refl refl
  where
    by :
        (t u : Bool) → leb 1 (length v) ≡ t → leb (length v) 10 ≡ u
        → cond (t && u) (number_from 0 v) None ≡ Some n → Says n v × (length v ≤ 10)
    by true true p q e = (says_some n v (leb-true 1 (length v) p) e, leb-true (length v) 10 q)
    by true false p q e = absurd (let z : ◌≡◌ {A = ℕ} 0 1 = cc in omega arith)
    by false u p q e = absurd (let z : ◌≡◌ {A = ℕ} 0 1 = cc in omega arith)

-- The decimal of a number from that of its tenth.

pub decimal-one : (n : ℕ) → n < 10 → decimal n ≡ (48 + n) ∷ []
decimal-one n h = one-digit n n [] h

pub decimal-more : (n : ℕ) → 10 ≤ n → decimal n ≡ decimal (n / 10) ++ (48 + n % 10) ∷ []
decimal-more n h =
    enough n (suc n) n [] (omega arith) (omega arith)
    ∙ last-digit n n [] h
    ∙ enough n (n / 10) (n / 10) ((48 + n % 10) ∷ []) (omega arith) (omega arith)
    ∙ digits_append (n / 10) (n / 10) [] ((48 + n % 10) ∷ [])

pub decimal-longer : (n : ℕ) → 10 ≤ n → length (decimal n) ≡ length (decimal (n / 10)) + 1
decimal-longer n h = ap length (decimal-more n h) ∙ length-append (decimal (n / 10)) ((48 + n % 10) ∷ [])

-- a bound on the count of digits, enough for sums
pub decimal-short : (n : ℕ) → length (decimal n) ≤ n + 1
decimal-short n =
    let h = digits (λ n s t. length t ≤ n + 1 + length s) (λ n s h. omega arith) (λ n s t h ih. omega arith) n n [] (omega arith) in
    omega (arith, h)

-- How many digits a number below a power of ten has.

-- every number below m has at most k digits
abbrev AtMost : ℕ → ℕ → Type 0
AtMost m k = (n : ℕ) → n < m → length (decimal n) ≤ k

one-more-digit : (m k : ℕ) → AtMost m k → 1 ≤ k → AtMost (m * 10) (k + 1)
one-more-digit m k h p n l = by (ltb n 10) refl
  where
    by : (t : Bool) → ltb n 10 ≡ t → length (decimal n) ≤ k + 1
    by true t = omega (arith, ap length (decimal-one n (ltb-true n 10 t)))
    by false t =
        let b : 10 ≤ n = ltb-false n 10 t in
        omega (arith, decimal-longer n b, h (n / 10) (omega arith))

-- 10 to the power of k
unfoldable pub ten_to : ℕ → ℕ
ten_to zero = 1
ten_to (suc k) = ten_to k * 10

pub ten-grows : (i k : ℕ) → i ≤ k → ten_to i ≤ ten_to k
unfolding ten_to
ten-grows zero zero h = omega arith
ten-grows zero (suc k) h = omega (arith, ten-grows zero k (omega arith))
ten-grows (suc i) zero h = absurd (omega arith)
ten-grows (suc i) (suc k) h = omega (arith, ten-grows i k (omega arith))

at_most : (k : ℕ) → AtMost (ten_to (suc k)) (suc k)
unfolding ten_to
at_most zero n h = omega (arith, ap length (decimal-one n h))
at_most (suc k) n h = omega (arith, one-more-digit (ten_to (suc k)) (suc k) (at_most k) (omega arith) n h)

pub five-digits : (n : ℕ) → n < 100000 → length (decimal n) ≤ 5
unfolding ten_to
five-digits = at_most 4

pub seven-digits : (n : ℕ) → n < 10000000 → length (decimal n) ≤ 7
unfolding ten_to
seven-digits = at_most 6

pub ten-digits : (n : ℕ) → n < 10000000000 → length (decimal n) ≤ 10
unfolding ten_to
ten-digits = at_most 9

-- of a number of 64 bits
pub twenty-digits : (n : ℕ) → n < 18446744073709551616 → length (decimal n) ≤ 20
unfolding ten_to
twenty-digits n h =
    let t : length (decimal n) ≤ 20 = at_most 19 n (omega arith) in
    t

-- Its bytes are digits.

digit-is : (n : ℕ) → n < 10 → is_digit (48 + n) ≡ true
unfolding is_digit
digit-is n h = rw (le-leb 48 (48 + n) (omega arith), le-leb (48 + n) 57 (omega arith))

pub decimal-digits : (n : ℕ) → all_of is_digit (decimal n) ≡ true
unfolding all_of
decimal-digits n =
    digits (λ n s t. all_of is_digit s ≡ true → all_of is_digit t ≡ true)
    (λ n s h e. rw (digit-is n h, e))
    (λ n s t h ih e. ih (rw (digit-is (n % 10) (omega arith), e)))
    n n [] (omega arith) refl
