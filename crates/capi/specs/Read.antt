-- The numbers of oy_scgi_read.
-- Assumes nothing.
use Rattle.std.specs.Prelude.{ℕ, List, [], ◌∷◌}
use Rattle.octets.specs.Outcome.{Outcome, gives, then}
use Rattle.scgi.specs.Read.{Places, read_of}

-- "the places of block and body and the number of bytes used"
abbrev pub places_numbers : Places → List ℕ
places_numbers p = p.block_start ∷ p.block_length ∷ p.body_start ∷ p.body_length ∷ p.used ∷ []

abbrev pub read_gives : List ℕ → Outcome (List ℕ)
read_gives bytes = then (read_of bytes) (λ p. gives (places_numbers p))
