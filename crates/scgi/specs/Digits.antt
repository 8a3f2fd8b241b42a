-- The length digits of a netstring where the bytes may end among them, as for a reader that takes the bytes in runs.
-- Assumes nothing.
use Rattle.std.specs.Prelude.{Result, ℕ, ◌+◌, ◌*◌, ◌-◌, true, false, cond, not, ◌&&◌, List, [], ◌∷◌, eqb, leb, ltb}
use Rattle.octets.specs.Outcome.{Outcome, gives, need}
use Rattle.octets.specs.Kinds.{is_digit}
use Rattle.octets.specs.Refusal.{outcome}
use Rattle.octets.specs.declared.refusal.Refusal.{Refusal}
use Rattle.scgi.specs.declared.netstring.Digits.{Digits}
use Rattle.scgi.specs.declared.netstring.Length.{Length}

-- what the code's answer says: length digits that were read, how many, the number that they say, and whether the colon came behind them
abbrev pub digits_outcome : Result Digits Refusal → Outcome Digits
digits_outcome = outcome (λ d. d)

-- what a byte b says after n digits whose number is v, where rest is what the bytes after it say: "no digit before `:`, a byte that is no
-- digit, or a digit after a leading 0 gives 2; a number above 16,384 gives 3 as soon as its digits say so"
abbrev pub digit_step : ℕ → ℕ → ℕ → Outcome Digits → Outcome Digits
digit_step n v b rest =
    cond (eqb b 58) (need (ltb 0 n) 2 (gives (record { count = n; value = v; colon = true })))
    (need (is_digit b && not (ltb 0 n && eqb v 0)) 2
    (need (leb (v * 10 + (b - 48)) 16384) 3 rest))

-- what the bytes say after n digits whose number is v, where they may end among the digits: "Length digits are read from the left and the
-- first fault decides"
unfoldable pub digits_from : ℕ → ℕ → List ℕ → Outcome Digits
digits_from n v [] = gives (record { count = n; value = v; colon = false })
digits_from n v (b ∷ s) = digit_step n v b (digits_from (n + 1) (v * 10 + (b - 48)) s)

-- the length that the digits say; before their colon it is 1: "Input that ends before the comma's place gives 1"
abbrev pub length_by : Digits → Outcome Length
length_by d = need d.colon 1 (gives (record { len = d.value; next = d.count + 1 }))
