-- What holds of each entry of a list, and equal lists that are parted at a byte or at a length.
-- Assumes nothing.
use Prim.Native.Nat.{ℕ, zero, suc}
use mathlib.Core.Path.{◌≡◌, refl, sym, ap, ◌∙◌}
use mathlib.Core.Bool.{Bool, true, false, false≢true, not, ◌&&◌}
use mathlib.Core.List.{List, [], ◌∷◌, ◌++◌, map}
use lib.Dec.{eqb}
use lib.ListN.{length, take, drop}
use lib.Seq.{take-append_seam, drop-append_seam}
use borrow.Author.Tests.{eqb-false, not-true}
use Rattle.std.specs.List.{list_all}
use Rattle.octets.specs.Lists.{All, no_more, ◌&◌, Without, NoNul}
use Rattle.octets.specs.Scan.{all_of}
use Rattle.octets.proofs.Bools.{and_left, and_right}

module _ {A : Type 0} {P : A → Type 0} where
  pub all_append : {l k : List A} → All P l → All P k → All P (l ++ k)
  all_append no_more q = q
  all_append (p & ps) q = p & all_append ps q

  pub all-implies : {Q : A → Type 0} {l : List A} → ((a : A) → P a → Q a) → All P l → All Q l
  all-implies g no_more = no_more
  all-implies g (◌&◌ {a} p ps) = g a p & all-implies g ps

  pub all_map : {B : Type 0} {Q : B → Type 0} {l : List A} (f : A → B) → ((a : A) → P a → Q (f a)) → All P l → All Q (map f l)
  all_map f g no_more = no_more
  all_map f g (◌&◌ {a} p ps) = g a p & all_map f g ps

-- of a text, by computation
abbrev pub has_no_nul : List ℕ → Bool
has_no_nul [] = true
has_no_nul (b ∷ s) = not (eqb b 0) && has_no_nul s

pub no_nul : (s : List ℕ) → has_no_nul s ≡ true → NoNul s
no_nul [] t = no_more
no_nul (b ∷ s) t = eqb-false b 0 (not-true _ (and_left _ (has_no_nul s) t)) & (no_nul s (and_right (not (eqb b 0)) _ t))

-- parts before the first x
pub cut-first : (x : ℕ) (a b s t : List ℕ) → Without x a → Without x b → a ++ x ∷ s ≡ b ++ x ∷ t → (a ≡ b) × (s ≡ t)
cut-first x [] [] s t p q e = (refl, cc)
cut-first x [] (y ∷ b) s t p (n & q) e = absurd (n (cc))
cut-first x (y ∷ a) [] s t (n & p) q e = absurd (n (cc))
cut-first x (y ∷ a) (z ∷ b) s t (n & p) (m & q) e =
    let r = cut-first x a b s t p q (cc) in
    let h : y ≡ z = cc in (cc r.0, r.1)

-- parts of equal length
pub cut-length : {A : Type 0} (a b s t : List A) → length a ≡ length b → a ++ s ≡ b ++ t → (a ≡ b) × (s ≡ t)
cut-length a b s t n e =
    (sym (take-append_seam a s) ∙ ap (take (length a)) e ∙ rw n (take-append_seam b t), sym (drop-append_seam a s) ∙ ap (drop (length a)) e ∙ rw n (drop-append_seam b t))

-- a byte that fails a test is in no list whose bytes pass it
pub all_without : (p : ℕ → Bool) (x : ℕ) (s : List ℕ) → p x ≡ false → all_of p s ≡ true → Without x s
unfolding all_of
all_without p x [] f e = no_more
all_without p x (b ∷ s) f e =
    (λ q. false≢true (sym f ∙ ap p (sym q) ∙ and_left (p b) (all_of p s) e)) & all_without p x s f (and_right (p b) (all_of p s) e)

-- a test of each byte, as what holds of each
pub all-each : (p : ℕ → Bool) (s : List ℕ) → all_of p s ≡ true → All (λ b. p b ≡ true) s
unfolding all_of
all-each p [] e = no_more
all-each p (b ∷ s) e = and_left (p b) (all_of p s) e & all-each p s (and_right (p b) (all_of p s) e)

-- what holds of each holds of those after the first k
pub all_after : {A : Type 0} {P : A → Type 0} (k : ℕ) (l : List A) → All P l → All P (drop k l)
all_after zero l p = p
all_after (suc k) [] no_more = no_more
all_after (suc k) (a ∷ l) (p & ps) = all_after k l ps

-- the library's word for a test of each byte is the crate's
pub all-listed : (p : ℕ → Bool) (s : List ℕ) → list_all p s ≡ all_of p s
unfolding all_of
all-listed p [] = refl
all-listed p (b ∷ s) = ap (λ t. p b && t) (all-listed p s)
