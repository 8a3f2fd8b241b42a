-- Which numbers the reader and the writer can give.
-- Assumes nothing.
use Prim.Native.Nat.{ℕ, ◌+◌, ◌*◌, ◌-◌}
use mathlib.Core.Path.{◌≡◌, refl}
use mathlib.Core.Bool.{Bool, true, false, cond, not, ◌&&◌}
use mathlib.Core.List.{List, [], ◌∷◌}
use lib.Dec.{eqb, leb, ltb}
use lib.ListN.{length, get_or, take, drop}
use Rattle.octets.specs.Text.{bytes}
use Rattle.octets.specs.Outcome.{Outcome, refused, gives, need}
use Rattle.octets.specs.Kinds.{one_of, is_digit}
use Rattle.octets.specs.Compare.{same_bytes}
use Rattle.octets.specs.Lists.{different}
use Rattle.octets.specs.Decimal.{number_of}
use Rattle.octets.specs.Scan.{all_of}
use Rattle.octets.proofs.Refusals.{Refuses, with_number, not_refused, number-of, refuses-within, refuses-then, refuses-need, refuses-given}
use Rattle.headers.specs.Block.{Header, names, headers_of}
use Rattle.scgi.specs.Grammar.{scgi1}
use Rattle.scgi.specs.Check.{stated_by, has, check_block}
use Rattle.scgi.specs.Digits.{digits_from}
use Rattle.scgi.specs.declared.netstring.Digits.{Digits}
use Rattle.scgi.proofs.LengthDigits.{length-digits}
use Rattle.scgi.specs.Netstring.{length_of}
use Rattle.scgi.specs.Read.{read_of}
use Rattle.scgi.specs.Write.{to_write, write_of}
use Rattle.scgi.specs.Claims.{read_numbers, digit_numbers, block_numbers, write_numbers, NumbersHold}

-- a block's checks
stated-refuses : (hs : List Header) → Refuses block_numbers (stated_by hs)
stated-refuses [] = with_number refl
stated-refuses (h ∷ hs) = refuses-need (same_bytes h.name (bytes "CONTENT_LENGTH")) 8 refl (refuses-given (number_of h.value) 8 refl)

pub block-numbers : (b : List ℕ) (n : ℕ) → check_block b ≡ refused n → one_of block_numbers n ≡ true
unfolding check_block
block-numbers b n e =
    number-of n
    (refuses-then (refuses-given (headers_of b) 5 refl)
    (λ hs. refuses-need (leb (length hs) 128) 6 refl
    (refuses-need (different (names hs)) 7 refl
    (refuses-then (stated-refuses hs)
    (λ n. refuses-need (leb n 1048576) 9 refl (refuses-need (has scgi1 hs) 10 refl not_refused))))))
    e

-- .. where 5 to 10 are among the numbers
check-refuses : {ns : List ℕ} → all_of (one_of ns) block_numbers ≡ true → (b : List ℕ) → Refuses ns (check_block b)
check-refuses a b = refuses-within block_numbers a (check_block b) (block-numbers b)

digits-refuse : (s : List ℕ) (i v : ℕ) → Refuses digit_numbers (digits_from i v s)
unfolding digits_from
digits-refuse [] i v = not_refused
digits-refuse (b ∷ s) i v = by (eqb b 58) (digits-refuse s (i + 1) (v * 10 + (b - 48)))
  where
    by :
        {rest : Outcome Digits} (t : Bool) → Refuses digit_numbers rest
        → Refuses digit_numbers
        (cond t (need (ltb 0 i) 2 (gives (record { count = i; value = v; colon = true })))
        (need (is_digit b && not (ltb 0 i && eqb v 0)) 2 (need (leb (v * 10 + (b - 48)) 16384) 3 rest)))
    by true ih = refuses-need (ltb 0 i) 2 refl not_refused
    by false ih = refuses-need (is_digit b && not (ltb 0 i && eqb v 0)) 2 refl (refuses-need (leb (v * 10 + (b - 48)) 16384) 3 refl ih)

pub digit-numbers : (s : List ℕ) (i v n : ℕ) → digits_from i v s ≡ refused n → one_of digit_numbers n ≡ true
digit-numbers s i v n e = number-of n (digits-refuse s i v) e

length-refuses : (s : List ℕ) → Refuses read_numbers (length_of s)
unfolding all_of
length-refuses s =
    rw (length-digits s)
    (refuses-then (refuses-within digit_numbers refl (digits_from 0 0 s) (digit-numbers s 0 0)) (λ d. refuses-need d.colon 1 refl not_refused))

read-numbers : (s : List ℕ) (n : ℕ) → read_of s ≡ refused n → one_of read_numbers n ≡ true
unfolding read_of all_of
read-numbers s n e =
    number-of n
    (refuses-then (length-refuses s)
    (λ l. refuses-need (ltb (l.next + l.len) (length s)) 1 refl
    (refuses-need (eqb (get_or s (l.next + l.len) 0) 44) 4 refl
    (refuses-then (check-refuses refl (take l.len (drop l.next s)))
    (λ n. refuses-need (leb (l.next + l.len + 1 + n) (length s)) 1 refl not_refused)))))
    e

write-numbers : (block body : List ℕ) (room n : ℕ) → write_of block body room ≡ refused n → one_of write_numbers n ≡ true
unfolding write_of to_write all_of
write-numbers block body room n e =
    number-of {ns = write_numbers} n
    (refuses-then
    (refuses-need (leb (length block) 16384) 3 refl
    (refuses-then (check-refuses refl block)
    (λ n. refuses-need (eqb (length body) n) 23 refl not_refused)))
    (λ w. refuses-need (leb (length w) room) 21 refl not_refused))
    e

pub numbers-hold : NumbersHold
numbers-hold = record { reader = read-numbers; digits = digit-numbers; block = block-numbers; writer = write-numbers }
