-- The kinds of a byte, in the words of 01. Letters, digits and hex digits are those of ASCII.
-- Assumes nothing.
use Rattle.std.specs.Prelude.{ℕ, Bool, false, not, ◌&&◌, ◌||◌, List, [], ◌∷◌, leb, eqb}
use Rattle.octets.specs.Text.{bytes}
use Rattle.octets.specs.declared.kinds.Kind.{Kind}
use Rattle.octets.specs.declared.kinds.Kind.TheVariants.{Digit, Hex, Token, Name, Target, Value, Letter, Scheme}

-- b is a to z
abbrev pub within : ℕ → ℕ → ℕ → Bool
within a z b = leb a b && leb b z

abbrev pub one_of : List ℕ → ℕ → Bool
one_of [] b = false
one_of (x ∷ xs) b = eqb b x || one_of xs b

-- "digit"
unfoldable pub is_digit : ℕ → Bool
is_digit b = within 48 57 b

-- "letters": A to Z and a to z
unfoldable pub is_letter : ℕ → Bool
is_letter b = within 65 90 b || within 97 122 b

-- "hex digit": digits, A to F and a to f
unfoldable pub is_hex : ℕ → Bool
is_hex b = is_digit b || within 65 70 b || within 97 102 b

-- "token byte (RFC 9110)": tchar of section 5.6.2
unfoldable pub is_token : ℕ → Bool
is_token b = one_of (bytes "!#$%&'*+-.^_`|~") b || is_digit b || is_letter b

-- of a request's field name: "token bytes without `_`", which is 95
unfoldable pub is_name : ℕ → Bool
is_name b = is_token b && not (eqb b 95)

-- "letters, digits, `-._~!$&'()*+,;=:@/`, and `%` ..; `?` too"
unfoldable pub is_target : ℕ → Bool
is_target b = is_letter b || is_digit b || one_of (bytes "-._~!$&'()*+,;=:@/") b || one_of (bytes "%?") b

-- "bytes 9, 32 to 126 and 128 to 255"
unfoldable pub is_value : ℕ → Bool
is_value b = eqb b 9 || within 32 126 b || within 128 255 b

-- of the name before the colon of a Location that is not local: "letters, digits, `+`, `-`, `.`"
unfoldable pub is_scheme : ℕ → Bool
is_scheme b = is_letter b || is_digit b || one_of (bytes "+-.") b

-- "spaces and tabs"
unfoldable pub is_blank : ℕ → Bool
is_blank b = eqb b 32 || eqb b 9

-- the written rule of each kind
abbrev pub rule : Kind → ℕ → Bool
rule Digit = is_digit
rule Hex = is_hex
rule Token = is_token
rule Name = is_name
rule Target = is_target
rule Value = is_value
rule Letter = is_letter
rule Scheme = is_scheme

-- the number of each kind in the table: an entry is the sum of the numbers of its byte's kinds
abbrev pub kind_number : Kind → ℕ
kind_number Digit = 1
kind_number Hex = 2
kind_number Token = 4
kind_number Name = 8
kind_number Target = 16
kind_number Value = 32
kind_number Letter = 64
kind_number Scheme = 128
