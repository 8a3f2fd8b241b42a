-- What holds of each entry of a list, and lists of names.
-- Assumes nothing.
use Rattle.std.specs.Prelude.{ℕ, ◌≡◌, Bool, true, false, not, ◌&&◌, ◌||◌, List, [], ◌∷◌}
use Rattle.octets.specs.Compare.{same_bytes}

infixr 20 ◌&◌
-- P holds of each entry
pub data All {A : Type 0} (P : A → Type 0) : List A → Type 0 where
  no_more : All P []
  ◌&◌ : {a : A} {l : List A} → P a → All P l → All P (a ∷ l)

-- the byte x is not in the list
abbrev pub Without : ℕ → List ℕ → Type 0
Without x s = All (λ b. b ≡ x → ⊥) s

-- no NUL, for "name, NUL, value, NUL": the NUL that ends a name or a value is not in it
abbrev pub NoNul : List ℕ → Type 0
NoNul s = Without 0 s

-- for "names are not empty"
abbrev pub is_nil : List ℕ → Bool
is_nil [] = true
is_nil (b ∷ s) = false

-- the name n is one of the names: "Names compare byte by byte"
unfoldable pub is_in : List ℕ → List (List ℕ) → Bool
is_in n [] = false
is_in n (m ∷ ms) = same_bytes n m || is_in n ms

-- no two are equal, as a test: "two headers with equal names", "no name twice in one"
unfoldable pub different : List (List ℕ) → Bool
different [] = true
different (n ∷ ns) = not (is_in n ns) && different ns

-- no two are equal, with no test in it; source document 001: "Duplicate names are not allowed in the headers"
pub data Different : List (List ℕ) → Type 0 where
  no_name : Different []
  one_more : {n : List ℕ} {ns : List (List ℕ)} → All (λ m. n ≡ m → ⊥) ns → Different ns → Different (n ∷ ns)
