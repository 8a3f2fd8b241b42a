-- Numbers in decimal, read and written.
-- Assumes nothing.
use Rattle.std.specs.Prelude.{ℕ, zero, suc, ◌+◌, ◌*◌, ◌-◌, ◌/◌, ◌%◌, cond, List, [], ◌∷◌, ltb, length, Option, None, Some}
use Rattle.octets.specs.Kinds.{is_digit, within}

-- the number that the digits s say after the number v; 48 is the digit 0
unfoldable pub number_from : ℕ → List ℕ → Option ℕ
number_from v [] = Some v
number_from v (b ∷ s) = cond (is_digit b) (number_from (v * 10 + (b - 48)) s) None

-- the number that 1 to 10 digits say, zeros in front among them. 02 §2: "a decimal number read has at most 10 digits"
abbrev pub number_of : List ℕ → Option ℕ
number_of s = cond (within 1 10 (length s)) (number_from 0 s) None

-- the digits of n in front of s, n not above k
unfoldable pub digits_in : ℕ → ℕ → List ℕ → List ℕ
digits_in zero n s = (48 + n) ∷ s
digits_in (suc k) n s =
    let more = digits_in k (n / 10) ((48 + n % 10) ∷ s) in
    cond (ltb n 10) ((48 + n) ∷ s) more

-- a number in decimal, no leading zero
abbrev pub decimal : ℕ → List ℕ
decimal n = digits_in n n []

-- v is n in decimal, also with zeros before it
pub data Says (n : ℕ) : List ℕ → Type 0 where
  plain : Says n (decimal n)
  zero_before : {v : List ℕ} → Says n v → Says n (48 ∷ v)
