-- The length of a netstring, digit by digit.
-- Assumes nothing.
use Rattle.std.specs.Prelude.{Result, ℕ, ◌+◌, ◌*◌, ◌-◌, cond, not, ◌&&◌, List, [], ◌∷◌, eqb, leb, ltb}
use Rattle.octets.specs.Outcome.{Outcome, refused, gives, need}
use Rattle.octets.specs.Kinds.{is_digit}
use Rattle.octets.specs.Refusal.{outcome}
use Rattle.octets.specs.declared.refusal.Refusal.{Refusal}
use Rattle.scgi.specs.declared.netstring.Length.{Length}

-- what the code's answer says: a netstring's length, and the place after its colon
abbrev pub length_outcome : Result Length Refusal → Outcome Length
length_outcome = outcome (λ l. l)

-- what a byte b says after i digits whose number is v, where rest is what the bytes after it say: "no digit before `:`, a byte that is no
-- digit, or a digit after a leading 0 gives 2; a number above 16,384 gives 3 as soon as its digits say so"
abbrev pub length_step : ℕ → ℕ → ℕ → Outcome Length → Outcome Length
length_step i v b rest =
    cond (eqb b 58) (need (ltb 0 i) 2 (gives (record { len = v; next = i + 1 })))
    (need (is_digit b && not (ltb 0 i && eqb v 0)) 2
    (need (leb (v * 10 + (b - 48)) 16384) 3 rest))

-- what the bytes say after i digits whose number is v: "Length digits are read from the left and the first fault decides"
unfoldable pub length_from : ℕ → ℕ → List ℕ → Outcome Length
length_from i v [] = refused 1
length_from i v (b ∷ s) = length_step i v b (length_from (i + 1) (v * 10 + (b - 48)) s)

-- what the bytes of an input say of its netstring's length
abbrev pub length_of : List ℕ → Outcome Length
length_of s = length_from 0 0 s
