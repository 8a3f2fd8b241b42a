-- The lines of a head.
-- Assumes nothing.
use Rattle.std.specs.Prelude.{ℕ, zero, suc, Bool, cond, ◌&&◌, List, [], ◌∷◌, eqb, get_or}
use Rattle.octets.specs.Parts.{Parts, before, longer}

-- s begins with CR LF, which is 13 10
abbrev pub ends_line : List ℕ → Bool
ends_line s = eqb (get_or s 0 0) 13 && eqb (get_or s 1 0) 10

-- the lines of s after its first k bytes
unfoldable pub lines_from : ℕ → List ℕ → Parts
lines_from k [] = record { first = []; others = [] }
lines_from (suc k) (b ∷ s) = lines_from k s
lines_from zero (b ∷ s) = cond (ends_line (b ∷ s)) (before [] (lines_from 1 s)) (longer b (lines_from 0 s))

-- "Lines end in CR LF": the bytes before the first CR LF, and those after each up to the next. What stands after the last is a line too:
-- a head's lines are those of its bytes before CR LF CR LF.
abbrev pub lines_of : List ℕ → Parts
lines_of s = lines_from 0 s

-- how many bytes of s stand before its first CR LF, or in s where there is none
unfoldable pub line_run : List ℕ → ℕ
line_run [] = 0
line_run (b ∷ s) = cond (ends_line (b ∷ s)) 0 (suc (line_run s))
