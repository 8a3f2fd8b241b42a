-- The bytes of a variable.
-- Assumes nothing.
use Rattle.std.specs.Prelude.{ℕ, Bool, cond, List, [], ◌∷◌, ◌++◌, Option, None, Some}

-- "name, NUL, value, NUL"
abbrev pub variable : List ℕ → List ℕ → List ℕ
variable n v = (n ++ 0 ∷ []) ++ (v ++ 0 ∷ [])

-- .. where there is a value
abbrev pub optional : List ℕ → Option (List ℕ) → List ℕ
optional n None = []
optional n (Some v) = variable n v

-- bytes that are there only if the flag says so
abbrev pub if_there : Bool → List ℕ → List ℕ
if_there t w = cond t w []
