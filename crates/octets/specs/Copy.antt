-- A buffer with bytes written over it.
-- Assumes nothing.
use Rattle.std.specs.Prelude.{ℕ, ◌+◌, ◌≡◌, List, ◌++◌, length, take, drop}

-- d with the bytes p in the place of those from at on
unfoldable pub over : List ℕ → ℕ → List ℕ → List ℕ
over d at p = take at d ++ (p ++ drop (at + length p) d)

-- what writing p over d from at on leaves: the buffer d' and the place r after p
pub record Wrote (d : List ℕ) (at : ℕ) (p d' : List ℕ) (r : ℕ) : Type 0 where
  pub ends : r ≡ at + length p
  pub holds : d' ≡ over d at p
