-- The byte maps of names: each rule is tested once over all bytes of names, and carried to every byte.
-- Assumes nothing.
use Prim.Native.Nat.{ℕ, ◌+◌}
use mathlib.Core.Path.{◌≡◌, refl, sym, ap, ◌∙◌}
use mathlib.Core.Bool.{Bool, true, not, cond, ◌||◌}
use mathlib.Core.List.{List, [], ◌∷◌, map}
use lib.Dec.{eqb}
use lib.ListN.{drop}
use borrow.Author.Tests.{eqb-true, eqb-false, not-true}
use Rattle.octets.specs.Text.{bytes}
use Rattle.octets.specs.Kinds.{within, is_digit, is_letter, is_token, is_name}
use Rattle.octets.specs.Compare.{lower_of, upper_of}
use Rattle.octets.specs.Lists.{All, ◌&◌, NoNul}
use Rattle.octets.proofs.Bools.{and_left}
use Rattle.octets.proofs.Alls.{no_nul, all_map, all_append}
use Rattle.octets.proofs.ByteRules.{at_names, carried}
use Rattle.variables.specs.Variables.{variable_byte, http_name}
use Rattle.variables.specs.Claims.{is_lower_name}

abbrev pub Lower : List ℕ → Type 0
Lower n = All (λ b. is_lower_name b ≡ true) n

low-name : (b : ℕ) → is_lower_name b ≡ true → is_name b ≡ true
unfolding is_lower_name
low-name b e = and_left (is_name b) (not (within 65 90 b)) e

low-carried : (f : ℕ → Bool) → at_names (λ c. not (is_lower_name c) || f c) ≡ true → (b : ℕ) → is_lower_name b ≡ true → f b ≡ true
low-carried f t b e = rw e at (carried (λ c. not (is_lower_name c) || f c) t b (low-name b e))

-- from a variable's name back to the field's: 95 is `_`, 45 is `-`
abbrev field_byte : ℕ → ℕ
field_byte b = cond (within 65 90 b) (b + 32) (cond (eqb b 95) 45 b)

back : (b : ℕ) → is_lower_name b ≡ true → field_byte (variable_byte b) ≡ b
unfolding is_lower_name is_name is_token is_digit is_letter upper_of
back b e = eqb-true _ b (low-carried (λ c. eqb (field_byte (variable_byte c)) c) refl b e)

pub variable-byte-once : (b c : ℕ) → is_lower_name b ≡ true → is_lower_name c ≡ true → variable_byte b ≡ variable_byte c → b ≡ c
variable-byte-once b c i j e = sym (back b i) ∙ ap field_byte e ∙ back c j

not-nul : (b : ℕ) → is_lower_name b ≡ true → variable_byte b ≡ 0 → ⊥
unfolding is_lower_name is_name is_token is_digit is_letter upper_of
not-nul b e = eqb-false _ 0 (not-true _ (low-carried (λ c. not (eqb (variable_byte c) 0)) refl b e))

-- a name's byte in lower case
pub lower-byte : (b : ℕ) → is_name b ≡ true → is_lower_name (lower_of b) ≡ true
unfolding is_lower_name is_name is_token is_digit is_letter lower_of
lower-byte b e = carried (λ c. is_lower_name (lower_of c)) refl b e

back-name : (n : List ℕ) → Lower n → map field_byte (map variable_byte n) ≡ n
back-name [] p = refl
back-name (b ∷ n) (i & p) = rw (back b i, back-name n p)

-- a variable's name says the field's
pub http-name-once : (n m : List ℕ) → Lower n → Lower m → http_name n ≡ http_name m → n ≡ m
http-name-once n m p q e = sym (back-name n p) ∙ ap (λ (s : List ℕ). map field_byte (drop 5 s)) e ∙ back-name m q

pub http-name-bytes : (n : List ℕ) → Lower n → NoNul (http_name n)
http-name-bytes n p = all_append (no_nul (bytes "HTTP_") refl) (all_map variable_byte not-nul p)
