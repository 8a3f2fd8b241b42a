-- The names of a block by their places, where each starts and how long it is.
-- Assumes nothing.
use Rattle.std.specs.Prelude.{ℕ, ◌+◌, ◌≤◌, ◌≡◌, ◌⊎◌, cond, List, [], ◌∷◌, ◌++◌, ltb, length, take, drop, set, Result}
use Rattle.std.specs.Coded.{Coded, Coded-set, code_by, coded_ℕ, coded_list, coded×, coded⊎}
use mathlib.Core.Logic.{inl, inr}
use mathlib.Core.Path.{refl}
use Rattle.octets.specs.Outcome.{Outcome, refused, gives, then}
use Rattle.octets.specs.Lists.{All}
use Rattle.octets.specs.declared.refusal.Refusal.{Refusal}
use Rattle.octets.specs.declared.span.Span.{Span}
use Rattle.headers.specs.Block.{Header, parsed, count_of, count_outcome}

-- where each name of the headers stands, which are printed from i on
unfoldable pub name_places : ℕ → List Header → List Span
name_places i [] = []
name_places i (h ∷ hs) = record { start = i; len = length h.name } ∷ name_places (i + length h.name + 1 + length h.value + 1) hs

-- .. of a block
unfoldable pub places_of : List ℕ → Outcome (List Span)
places_of b = then (parsed b) (λ hs. gives (name_places 0 hs))

-- the block is well formed, and its names stand at these places
abbrev pub NamesIn : List ℕ → List Span → Type 0
NamesIn b ps = places_of b ≡ gives ps

-- the list d with the place p as its entry n, if it has that entry
abbrev pub with_place : List Span → ℕ → Span → List Span
with_place d n p = cond (ltb n (length d)) (set d n p) d

-- the answer is the count of headers, or 5; of a well formed block the list has the places of as many names as it has room for, over its front,
-- and of a malformed one it may have any
pub record NamesFound (b : List ℕ) (before after : List Span) (r : Result ℕ Refusal) : Type 0 where
  pub count : count_outcome r ≡ count_of b
  pub size : length after ≡ length before
  pub stored : (ps : List Span) → NamesIn b ps → after ≡ take (length before) ps ++ drop (length ps) before

-- the place lies in the block
abbrev pub Inside : List ℕ → Span → Type 0
Inside b p = p.start + p.len ≤ length b

-- .. and so does each of the places
abbrev pub AllInside : List ℕ → List Span → Type 0
AllInside b ps = All (Inside b) ps

-- what a list is said to have behind its end
abbrev pub nowhere : Span
nowhere = record { start = 0; len = 0 }

-- For the ghost field of Names: there is one proof of NamesIn at most.

abbrev span_coded : Coded Span
span_coded = code_by (ℕ × ℕ) (coded× coded_ℕ coded_ℕ) (λ p. (p.start, p.len)) (λ q. record { start = q.0; len = q.1 }) (λ _. refl)

abbrev split : Outcome (List Span) → ℕ ⊎ List Span
split (refused n) = inl n
split (gives ps) = inr ps

abbrev join : ℕ ⊎ List Span → Outcome (List Span)
join (inl n) = refused n
join (inr ps) = gives ps

join-split : (o : Outcome (List Span)) → join (split o) ≡ o
join-split (refused n) = refl
join-split (gives ps) = refl

abbrev places_coded : Coded (Outcome (List Span))
places_coded = code_by (ℕ ⊎ List Span) (coded⊎ coded_ℕ (coded_list span_coded)) split join join-split

pub NamesIn-prop : (b : List ℕ) (ps : List Span) → IsProp (NamesIn b ps)
NamesIn-prop b ps = Coded-set places_coded (places_of b) (gives ps)
