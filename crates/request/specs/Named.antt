-- The fields of a request by their names.
-- Assumes nothing.
use Rattle.std.specs.Prelude.{ℕ, cond, List, [], ◌∷◌, map, Option, None, Some}
use Rattle.octets.specs.Compare.{same_bytes, lower_of}
use Rattle.http_head.specs.Fields.{Field}

-- "compared letter case aside": the fields with their names in lower case, in order
abbrev pub lowered : List Field → List Field
lowered fs = map (λ f. record { name = map lower_of f.name; value = f.value }) fs

-- the values of the fields with the name n, in order
unfoldable pub values_of : List ℕ → List Field → List (List ℕ)
values_of n [] = []
values_of n (f ∷ fs) = cond (same_bytes f.name n) (f.value ∷ values_of n fs) (values_of n fs)

-- the first of some values
abbrev pub first_found : List (List ℕ) → Option (List ℕ)
first_found [] = None
first_found (v ∷ vs) = Some v
