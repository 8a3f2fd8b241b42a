-- Equal bytes, exactly and letter case aside.
-- Assumes nothing.
use Rattle.std.specs.Prelude.{ℕ, ◌+◌, ◌-◌, ◌<◌, ◌≡◌, Bool, true, false, cond, ◌&&◌, List, [], ◌∷◌, map, eqb}
use Rattle.octets.specs.Kinds.{within}

-- "Names compare byte by byte"
unfoldable pub same_bytes : List ℕ → List ℕ → Bool
same_bytes [] [] = true
same_bytes [] (y ∷ t) = false
same_bytes (x ∷ s) [] = false
same_bytes (x ∷ s) (y ∷ t) = eqb x y && same_bytes s t

-- A to Z become a to z
unfoldable pub lower_of : ℕ → ℕ
lower_of b = cond (within 65 90 b) (b + 32) b

-- a to z become A to Z
unfoldable pub upper_of : ℕ → ℕ
upper_of b = cond (within 97 122 b) (b - 32) b

-- "compared letter case aside"
abbrev pub same_letters : List ℕ → List ℕ → Bool
same_letters a b = same_bytes (map lower_of a) (map lower_of b)

-- what a call at a byte can give is what f says
abbrev pub Gives : (ℕ → ℕ → Type 0) → (ℕ → ℕ) → Type 0
Gives made f = (b : ℕ) (r : ℕ) → b < 256 → made b r → r ≡ f b
