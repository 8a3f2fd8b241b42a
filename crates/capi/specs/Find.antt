-- The numbers of oy_scgi_find.
-- Assumes nothing.
use Rattle.std.specs.Prelude.{ℕ, List, [], ◌∷◌, Option, None, Some}
use Rattle.octets.specs.Outcome.{Outcome, gives, then}
use Rattle.octets.specs.declared.span.Span.{Span}
use Rattle.headers.specs.Lookup.{lookup_of}

-- 1, start and length of the value in the block; "Whether the name is there is a separate answer": 0 where it is absent, with an empty part
abbrev pub part_numbers : Option Span → List ℕ
part_numbers (Some p) = 1 ∷ p.start ∷ p.len ∷ []
part_numbers None = 0 ∷ 0 ∷ 0 ∷ []

abbrev pub find_gives : List ℕ → List ℕ → Outcome (List ℕ)
find_gives block name = then (lookup_of block name) (λ p. gives (part_numbers p))
