-- The escapes of a target: a percent sign, which is 37, and two hex digits.
-- Assumes nothing.
use Rattle.std.specs.Prelude.{ℕ, zero, suc, ◌+◌, ◌*◌, ◌-◌, ◌≤◌, ◌<◌, ◌≡◌, Bool, true, cond, not, ◌&&◌, ◌||◌, eqb}
use Rattle.std.specs.Prelude.{List, [], ◌∷◌, length, drop, get_or}
use Rattle.octets.specs.Kinds.{within, is_digit, is_hex}

-- the byte b, where t follows: "`%` followed by two hex digits". Past the end stands 0, which is no hex digit
abbrev pub escape_right : ℕ → List ℕ → Bool
escape_right b t = not (eqb b 37) || (is_hex (get_or t 0 0) && is_hex (get_or t 1 0))

-- each byte
unfoldable pub escapes_right : List ℕ → Bool
escapes_right [] = true
escapes_right (b ∷ t) = escape_right b t && escapes_right t

-- the number that a hex digit says; 0 for another byte
unfoldable pub hex_value : ℕ → ℕ
hex_value b = cond (is_digit b) (b - 48) (cond (within 65 70 b) (b - 65 + 10) (cond (within 97 102 b) (b - 97 + 10) 0))

-- "Decoded": what t says where its first k bytes are the digits of an escape that is decoded already
unfoldable pub decoded_from : ℕ → List ℕ → List ℕ
decoded_from zero [] = []
decoded_from (suc k) [] = []
decoded_from (suc k) (b ∷ t) = decoded_from k t
decoded_from zero (b ∷ t) =
    cond (eqb b 37) ((hex_value (get_or t 0 0) * 16 + hex_value (get_or t 1 0)) ∷ decoded_from 2 t) (b ∷ decoded_from 0 t)

abbrev pub decoded : List ℕ → List ℕ
decoded t = decoded_from 0 t

-- For the loop that decodes: the byte or the escape at i decodes to the byte b, and the next one stands at n.
pub record Decodes (s : List ℕ) (i b n : ℕ) : Type 0 where
  pub one : decoded (drop i s) ≡ b ∷ decoded (drop n s)
  pub later : i < n
  pub inside : n ≤ length s
  pub right : escapes_right (drop n s) ≡ true
