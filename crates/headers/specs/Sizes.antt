-- How many bytes the headers of some names take in a block.
-- Assumes nothing.
use Rattle.std.specs.Prelude.{ℕ, ◌+◌, List, [], ◌∷◌, length, Option, None, Some}
use Rattle.headers.specs.Block.{Header}
use Rattle.headers.specs.Lookup.{value_in}

-- "name, NUL, value, NUL"; nothing where there is no value
abbrev pub size_of : List ℕ → Option (List ℕ) → ℕ
size_of n None = 0
size_of n (Some v) = length n + length v + 2

-- .. of each of the names, by the value that counts
unfoldable pub sizes_of : List (List ℕ) → List Header → ℕ
sizes_of [] hs = 0
sizes_of (n ∷ ns) hs = size_of n (value_in n hs) + sizes_of ns hs
