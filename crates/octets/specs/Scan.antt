-- Runs and counts of bytes.
-- Assumes nothing.
use Rattle.std.specs.Prelude.{ℕ, suc, ◌<◌, ◌≡◌, Bool, true, cond, not, ◌&&◌, List, [], ◌∷◌, eqb}

-- how many bytes at the start of s pass the test p
unfoldable pub run : (ℕ → Bool) → List ℕ → ℕ
run p [] = 0
run p (b ∷ s) = cond (p b) (suc (run p s)) 0

-- each byte passes the test p
unfoldable pub all_of : (ℕ → Bool) → List ℕ → Bool
all_of p [] = true
all_of p (b ∷ s) = p b && all_of p s

-- how many bytes of s are x
unfoldable pub count : ℕ → List ℕ → ℕ
count x [] = 0
count x (b ∷ s) = cond (eqb b x) (suc (count x s)) (count x s)

-- another byte than x: run (other x) s is the first place of x in s, or the length of s where there is none
abbrev pub other : ℕ → ℕ → Bool
other x b = not (eqb b x)

-- what a call of a test can give is what p says
abbrev pub Tests : (ℕ → Bool → Type 0) → (ℕ → Bool) → Type 0
Tests gives p = (b : ℕ) (r : Bool) → b < 256 → gives b r → r ≡ p b
