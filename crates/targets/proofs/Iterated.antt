-- The library's words for tests of a whole list are the crate's.
-- Assumes nothing.
use Prim.Native.Nat.{ℕ, suc}
use mathlib.Core.Path.{◌≡◌, refl, ap, ◌∙◌}
use mathlib.Core.Bool.{Bool, true, false, cond, not, ◌&&◌}
use mathlib.Core.List.{List, [], ◌∷◌}
use lib.Dec.{eqb}
use lib.ListN.{length}
use Rattle.std.specs.List.{list_all, filter, slice_split, onto_first}
use Rattle.octets.specs.Scan.{count}
use Rattle.octets.specs.Parts.{Parts, parted, before, longer}
use Rattle.targets.specs.Target.{is_dots, no_dots, segments_right}

pub counted : (x : ℕ) (s : List ℕ) → length (filter (λ b. eqb b x) s) ≡ count x s
unfolding count
counted x [] = refl
counted x (b ∷ s) = by (eqb b x) (counted x s)
  where
    by :
        (t : Bool) → length (filter (λ b. eqb b x) s) ≡ count x s
        → length (cond t (b ∷ filter (λ b. eqb b x) s) (filter (λ b. eqb b x) s)) ≡ cond t (suc (count x s)) (count x s)
    by true h = ap suc h
    by false h = h

abbrev all-parts : Parts → List (List ℕ)
all-parts p = p.first ∷ p.others

split-parts : (x : ℕ) (s : List ℕ) → slice_split (λ b. eqb b x) s ≡ all-parts (parted x s)
unfolding parted
split-parts x [] = refl
split-parts x (b ∷ s) = by (eqb b x) (split-parts x s)
  where
    by :
        (t : Bool) → slice_split (λ b. eqb b x) s ≡ all-parts (parted x s)
        → cond t ([] ∷ slice_split (λ b. eqb b x) s) (onto_first b (slice_split (λ b. eqb b x) s))
        ≡ all-parts (cond t (before [] (parted x s)) (longer b (parted x s)))
    by true h = ap (◌∷◌ []) h
    by false h = ap (onto_first b) h

none-dots : (l : List (List ℕ)) → list_all (λ s. not (is_dots s)) l ≡ no_dots l
unfolding no_dots
none-dots [] = refl
none-dots (s ∷ l) = ap (λ t. not (is_dots s) && t) (none-dots l)

pub segments-listed : (p : List ℕ) → list_all (λ s. not (is_dots s)) (slice_split (λ b. eqb b 47) p) ≡ segments_right p
unfolding segments_right
segments-listed p = ap (list_all (λ s. not (is_dots s))) (split-parts 47 p) ∙ none-dots (all-parts (parted 47 p))
