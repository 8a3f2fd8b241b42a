-- What a byte parts a list of bytes into.
-- Assumes nothing.
use Rattle.std.specs.Prelude.{ℕ, cond, List, [], ◌∷◌, eqb}

-- never empty: a list without the byte is one part
pub record Parts : Type 0 where
  pub first : List ℕ
  pub others : List (List ℕ)

-- the part f before the parts p
abbrev pub before : List ℕ → Parts → Parts
before f p = record { first = f; others = p.first ∷ p.others }

-- the byte b at the front of the first part
abbrev pub longer : ℕ → Parts → Parts
longer b p = record { first = b ∷ p.first; others = p.others }

-- the bytes before the first x, and those after each x up to the next
unfoldable pub parted : ℕ → List ℕ → Parts
parted x [] = record { first = []; others = [] }
parted x (b ∷ s) = cond (eqb b x) (before [] (parted x s)) (longer b (parted x s))
