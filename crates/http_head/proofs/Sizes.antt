-- A head has its request line and its field lines in it.
-- Assumes nothing.
use Prim.Native.Nat.{ℕ, zero, suc, ◌+◌, ◌≤◌}
use Prim.{absurd}
use mathlib.Core.Path.{◌≡◌, refl, ap}
use mathlib.Core.Bool.{Bool, true, false, cond, ◌||◌}
use mathlib.Core.List.{List, [], ◌∷◌}
use Rattle.std.proofs.Common.{Option, None, Some}
use native.Mathlib.Omega.{arith}
use lib.Dec.{eqb, leb}
use lib.ListN.{length, drop, get_or, length-append, length-take}
use borrow.Author.Tests.{eqb-true}
use Rattle.octets.specs.Text.{bytes}
use Rattle.octets.specs.Outcome.{gives}
use Rattle.octets.specs.Compare.{same_bytes}
use Rattle.octets.specs.Parts.{Parts, before, longer}
use Rattle.octets.proofs.Bools.{and_right}
use Rattle.octets.proofs.Lists.{there}
use Rattle.octets.proofs.Compares.{same_true}
use Rattle.octets.proofs.Outcomes.{given-gives}
use Rattle.http_head.specs.Lines.{ends_line, lines_from, lines_of}
use Rattle.http_head.specs.RequestLine.{is_served}
use Rattle.http_head.specs.Fields.{Field, field_of, ahead, each_field, fields_in, fields_of, name_length, value_start, value_length}
use Rattle.http_head.specs.Claims.{fields_size, HeadHolds}
use Rattle.http_head.proofs.FieldLines.{field-stands}

-- The lines.

-- each with the CR LF before it
unfoldable others_size : List (List ℕ) → ℕ
others_size [] = 0
others_size (l ∷ ls) = 2 + length l + others_size ls

abbrev lines_size : Parts → ℕ
lines_size p = length p.first + others_size p.others

lines-size : (k : ℕ) (s : List ℕ) → k ≤ length s → lines_size (lines_from k s) + k ≤ length s
unfolding lines_from others_size
lines-size zero [] h = omega arith
lines-size (suc k) [] h = absurd (omega arith)
lines-size (suc k) (b ∷ s) h = omega (arith, lines-size k s (omega arith))
lines-size zero (b ∷ s) h = by (ends_line (b ∷ s)) refl (lines-size 1 s) (lines-size 0 s (omega arith))
  where
    by :
        (t : Bool) → ends_line (b ∷ s) ≡ t → (1 ≤ length s → lines_size (lines_from 1 s) + 1 ≤ length s) → lines_size (lines_from 0 s) + 0 ≤ length s
        → lines_size (cond t (before [] (lines_from 1 s)) (longer b (lines_from 0 s))) + 0 ≤ suc (length s)
    by true e a c =
        let z = there s 0 9 (eqb-true _ _ (and_right (eqb b 13) (eqb (get_or s 0 0) 10) e)) in
        omega (arith, a (omega arith))
    by false e a c = omega arith

-- The fields.

field-size : (rule : ℕ → Bool) (l : List ℕ) (f : Field) → field_of rule l ≡ Some f → length f.name + length f.value + 1 ≤ length l
field-size rule l f e =
    let s = field-stands rule l f e in
    let n : length f.name ≤ name_length l = rw s.name (simp length-take (omega arith)) in
    let v = length-take (value_length l) (drop (value_start l) l) in
    omega (arith, s.value_inside, ap length s.value)

each-size : (rule : ℕ → Bool) (ls : List (List ℕ)) (fs : List Field) → each_field rule ls ≡ Some fs → fields_size fs ≤ others_size ls
unfolding each_field fields_size others_size
each-size rule [] fs e =
    let z : [] ≡ fs = cc in
    omega (arith, ap fields_size z)
each-size rule (l ∷ ls) fs e = by (field_of rule l) (each_field rule ls) refl refl e (each-size rule ls)
  where
    by :
        (f : Option Field) (o : Option (List Field)) → field_of rule l ≡ f → each_field rule ls ≡ o → ahead f o ≡ Some fs
        → ((gs : List Field) → each_field rule ls ≡ Some gs → fields_size gs ≤ others_size ls) → fields_size fs ≤ 2 + length l + others_size ls
    by None o a b x ih = let z : ◌≡◌ {A = ℕ} 0 1 = cc in omega arith
    by (Some f) None a b x ih = let z : ◌≡◌ {A = ℕ} 0 1 = cc in omega arith
    by (Some f) (Some gs) a b x ih =
        let z : f ∷ gs ≡ fs = cc in
        omega (arith, ap fields_size z, field-size rule l f a, ih gs b)

fields-size : (rule : ℕ → Bool) (ls : List (List ℕ)) (fs : List Field) → fields_of rule ls ≡ gives fs → fields_size fs ≤ others_size ls
fields-size rule ls fs e = by (leb (length ls) 64) (given-gives (fields_in 64 rule ls) 15 fs e)
  where
    by : (t : Bool) → cond t (each_field rule ls) None ≡ Some fs → fields_size fs ≤ others_size ls
    by true x = each-size rule ls fs x
    by false x = let z : ◌≡◌ {A = ℕ} 0 1 = cc in omega arith

-- The request line.

version-size : (v : List ℕ) → is_served v ≡ true → length v ≡ 8
version-size v = by (same_bytes v (bytes "HTTP/1.0")) (same_bytes v (bytes "HTTP/1.1")) refl refl
  where
    by : (t u : Bool) → same_bytes v (bytes "HTTP/1.0") ≡ t → same_bytes v (bytes "HTTP/1.1") ≡ u → t || u ≡ true → length v ≡ 8
    by true u p q e = ap length (same_true v (bytes "HTTP/1.0") p)
    by false true p q e = ap length (same_true v (bytes "HTTP/1.1") q)
    by false false p q e = cc

pub head-holds : HeadHolds
head-holds rule head f fs r e =
    let v = version-size f.version r.served in
    (v, omega (arith, simp length-append at (ap length r.parts), lines-size 0 head (omega arith), fields-size rule (lines_of head).others fs e))
