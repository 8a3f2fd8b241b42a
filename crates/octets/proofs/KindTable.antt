-- The table gives each kind's written rule at every byte: one test over the whole table for each kind, one law over the kind.
-- Assumes nothing.
use Prim.Native.Nat.{ℕ, ◌<◌, ◌/◌, ◌%◌}
use mathlib.Core.Path.{◌≡◌, refl}
use mathlib.Core.Bool.{Bool, true, false, beq}
use native.Mathlib.Omega.{arith}
use lib.Dec.{T, eqb}
use lib.ListN.{get_or}
use Rattle.octets.specs.Kinds.{is_digit, is_letter, is_hex, is_token, is_name, is_target, is_value, is_scheme, rule, kind_number}
use Rattle.octets.specs.KindTable.{table}
use Rattle.octets.specs.declared.kinds.Kind.{Kind}
use Rattle.octets.specs.declared.kinds.Kind.TheVariants.{Digit, Hex, Token, Name, Target, Value, Letter, Scheme}
use Rattle.octets.proofs.Table.{every, at}

-- an entry x says whether its byte is of the kind
abbrev pub says : Kind → ℕ → Bool
says k x = eqb (x / kind_number k % 2) 1

-- the entry x of the byte b says what the written rule says
abbrev right : Kind → ℕ → ℕ → Bool
right k b x = beq (says k x) (rule k b)

same : (a b : Bool) → T (beq a b) → a ≡ b
same true true t = refl
same false false t = refl
same true false t = absurd t
same false true t = absurd t

-- the test over the whole table, computed for each kind
tested : (k : Kind) → T (every (right k) 0 table)
unfolding table is_digit is_letter is_hex is_token is_name is_target is_value is_scheme
tested Digit = tt
tested Hex = tt
tested Token = tt
tested Name = tt
tested Target = tt
tested Value = tt
tested Letter = tt
tested Scheme = tt

pub kind_at : (k : Kind) (b : ℕ) → b < 256 → says k (get_or table b 0) ≡ rule k b
unfolding table
kind_at k b h = same (says k (get_or table b 0)) (rule k b) (at (right k) table (tested k) b h)

pub number-some : (k : Kind) → 0 < kind_number k
number-some Digit = omega arith
number-some Hex = omega arith
number-some Token = omega arith
number-some Name = omega arith
number-some Target = omega arith
number-some Value = omega arith
number-some Letter = omega arith
number-some Scheme = omega arith
