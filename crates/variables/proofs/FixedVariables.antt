-- The variables before the fields, row by row.
-- Assumes nothing.
use Prim.Native.Nat.{ℕ, min, ◌+◌, ◌-◌, ◌≤◌}
use Prim.Native.String.{String}
use Prim.{absurd}
use denote.Bor.{Bor}
use mathlib.Core.Path.{◌≡◌, refl, sym, ap, ◌∙◌}
use mathlib.Core.List.{List, [], ◌∷◌, ◌++◌, append_assoc}
use Rattle.std.specs.Prelude.{option_map, MatchOption, IsSomeAnd}
use Rattle.std.proofs.Common.{Option, None, Some}
use native.Mathlib.Omega.{arith}
use lib.ListN.{length, take, drop, length-take, length-drop}
use lib.Seq.{length-take-le, take-add, drop_at, drop-drop}
use Rattle.std.proofs.lemmas.List.{drop_min}
use Rattle.octets.specs.Text.{bytes}
use Rattle.octets.specs.Decimal.{decimal}
use Rattle.headers.specs.Block.{Header, printed}
use Rattle.lent.specs.declared.places.Auth.{Auth}
use Rattle.targets.specs.Target.{query_of}
use Rattle.variables.specs.Variables.{always, if_present, Rows, present}
use Rattle.variables.specs.Put.{variable, optional}

pub printed-append : (a b : List Header) → printed (a ++ b) ≡ printed a ++ printed b
unfolding printed
printed-append [] b = refl
printed-append (h ∷ a) b = rw (printed-append a b) (simp append_assoc)

-- a variable, and those after it
pub print-one : (h : Header) (hs : List Header) → printed (h ∷ hs) ≡ variable h.name h.value ++ printed hs
unfolding printed
print-one h hs = simp append_assoc

pub print-last : (h : Header) → printed (h ∷ []) ≡ variable h.name h.value
unfolding printed
print-last h = sym (append_assoc h.name (0 ∷ []) (h.value ++ 0 ∷ []))

-- groups of rows
pub rows_append : (a b : Rows) → printed (present (a ++ b)) ≡ printed (present a) ++ printed (present b)
rows_append a b = ap printed (present-append a b) ∙ printed-append (present a) (present b)
  where
    present-append : (a b : Rows) → present (a ++ b) ≡ present a ++ present b
    present-append [] b = refl
    present-append (None ∷ a) b = present-append a b
    present-append (Some h ∷ a) b = ap (λ (hs : List Header). h ∷ hs) (present-append a b)

-- CONTENT_LENGTH and SCGI, in three pieces
abbrev pub behind_digits : Rows → List ℕ
behind_digits rows = (0 ∷ (bytes "SCGI" ++ 0 ∷ (bytes "1" ++ 0 ∷ []))) ++ printed (present rows)

pub content-start :
    (size : ℕ) (rows : Rows)
    → printed (present (always "CONTENT_LENGTH" (decimal size) ∷ always "SCGI" (bytes "1") ∷ rows))
    ≡ (bytes "CONTENT_LENGTH" ++ 0 ∷ []) ++ (decimal size ++ behind_digits rows)
unfolding printed
content-start size rows = refl

-- a row that may be none, and those after it
pub if-row : (n : String) (o : Option (List ℕ)) (rows : Rows) → printed (present (if_present n o ∷ rows)) ≡ optional (bytes n) o ++ printed (present rows)
if-row n None rows = refl
if-row n (Some v) rows = print-one _ _

pub if-last : (n : String) (o : Option (List ℕ)) → printed (present (if_present n o ∷ [])) ≡ optional (bytes n) o
unfolding printed
if-last n None = refl
if-last n (Some v) = print-last _

-- What stands for a user's name or kind where they are given: a closure hands over the part v, whatever they are. R is what is known of a
-- call of it.

module _ (x : Option Auth → List ℕ) (f : Option Auth → Option (List ℕ)) (none : f None ≡ None) (one : (a : Auth) → Some (x (Some a)) ≡ f (Some a)) where
  pub part-given :
      {R : Auth → Bor (List ℕ) → Type 0} (o : Option Auth) (r : Option (Bor (List ℕ))) (v : List ℕ) → v ≡ x o
      → MatchOption o (r ≡ None) (λ a. IsSomeAnd r (R a)) → ((a : Auth) (b : Bor (List ℕ)) → R a b → b.now ≡ v) → option_map (λ b. b.now) r ≡ f o
  part-given None r v e h is = rw h (sym none)
  part-given (Some a) None v e h is = absurd h
  part-given (Some a) (Some b) v e h is = ap Some (is a b h ∙ e) ∙ one a

-- what `&s[k..n]` holds is the rest of `&s[..n]`
pub rest-take : (s : List ℕ) (k n : ℕ) → k ≤ n → n ≤ length s → take (n - k) (drop k s) ≡ drop k (take n s)
rest-take s k n h l =
    let e : n ≡ k + (n - k) = omega arith in
    sym (ap (λ (m : ℕ). drop k (take m s)) e ∙ ap (drop k) (take-add k (n - k) s) ∙ drop_at (take k s) (take (n - k) (drop k s)) k (length-take-le k s (omega arith)))

-- The query, whose start is told by the path's length p in a target of n bytes at t.

module _ (s : List ℕ) (t n p : ℕ) (inside : t + n ≤ length s) (h : p ≤ n) (e : query_of (take n (drop t s)) ≡ drop (p + 1) (take n (drop t s))) where
  pub query-part : (m : ℕ) → m ≡ min (t + n) (t + p + 1) → take (t + n - m) (drop m s) ≡ query_of (take n (drop t s))
  query-part m q =
      let d : t + min (p + 1) n ≡ m = omega arith in
      let l : n ≤ length (drop t s) = omega (arith, length-drop t s) in
      let z : t + n - m ≡ n - min (p + 1) n = omega arith in
      let k : length (take n (drop t s)) ≡ n = omega (arith, length-take n (drop t s)) in
      sym
      (e ∙ sym (drop_min (p + 1) (take n (drop t s)))
      ∙ ap (λ (i : ℕ). drop (min (p + 1) i) (take n (drop t s))) k
      ∙ sym (rest-take (drop t s) (min (p + 1) n) n (omega arith) l)
      ∙ rw (drop-drop (min (p + 1) n) t s, d, z))
