-- The variables of a request's fields, one field after the other: what is still to be written from a field on.
-- Assumes nothing.
use Prim.Native.Nat.{ℕ, zero, suc, ◌+◌, ◌-◌, ◌≤◌, ◌<◌}
use mathlib.Core.Path.{◌≡◌, refl, sym, ap, ◌∙◌}
use mathlib.Core.Bool.{Bool, true, false, cond, not, ◌&&◌, ◌||◌}
use mathlib.Core.List.{List, [], ◌∷◌, ◌++◌, map, append_assoc}
use native.Mathlib.Numerals.{add-one}
use native.Mathlib.Omega.{arith}
use lib.Dec.{eqb}
use lib.ListN.{length, drop, get_or, set, length-map, drop_of_length-le}
use Rattle.octets.specs.Compare.{same_bytes, lower_of, upper_of}
use Rattle.octets.specs.Lists.{is_in}
use Rattle.octets.specs.Copy.{over, Wrote}
use Rattle.octets.proofs.Lists.{next}
use Rattle.octets.proofs.Compares.{same_true}
use Rattle.octets.proofs.Cases.{upper-lower, lower-eqb}
use Rattle.octets.proofs.Copies.{first_then, over-nil}
use Rattle.headers.specs.Block.{printed}
use Rattle.http_head.specs.Fields.{Field, field_at}
use Rattle.http_head.specs.declared.fields.Field.{Field as Spans}
use Rattle.http_head.proofs.Claims.{fields-in-turn}
use Rattle.request.specs.Named.{lowered}
use Rattle.variables.specs.Fields.{not_passed, passed, separator, added_by, joined, grouped}
use Rattle.variables.specs.Variables.{variable_byte, http_variable}
use Rattle.variables.specs.Put.{if_there}
use Rattle.variables.specs.FieldVariables.{low_name, names_before, low_from, added_at, makes, variable_from, variable_if, fields_bytes}
use Rattle.variables.proofs.FixedVariables.{print-one}
use Rattle.variables.proofs.Grouping.{unlike}

-- A field's name as its variable has it.

pub variable-byte-lower : (b : ℕ) → variable_byte (lower_of b) ≡ cond (eqb b 45) 95 (upper_of b)
variable-byte-lower b = rw (lower-eqb 45 (omega arith) b, upper-lower b)

abbrev pub in_name : List ℕ → List ℕ
in_name n = map variable_byte (map lower_of n)

pub name-next :
    (out name : List ℕ) (at i b : ℕ) → i < length name → at + i < length out → b ≡ variable_byte (lower_of (get_or name i 0))
    → over (set out (at + i) b) (at + (i + 1)) (in_name (drop (i + 1) name)) ≡ over out (at + i) (in_name (drop i name))
name-next out name at i b h room e =
    let z : at + i + 1 ≡ at + (i + 1) = omega arith in
    rw e
    (sym
    (ap (λ (s : List ℕ). over out (at + i) (in_name s)) (next name i h)
    ∙ first_then out (at + i) (variable_byte (lower_of (get_or name i 0))) (in_name (drop (i + 1) name)) room
    ∙ ap (λ (k : ℕ). over (set out (at + i) (variable_byte (lower_of (get_or name i 0)))) k (in_name (drop (i + 1) name))) z))

pub name_done :
    (d out name : List ℕ) (at i : ℕ) → i ≡ length name
    → over out (at + i) (in_name (drop i name)) ≡ over d at (in_name name) → Wrote d at (in_name name) out (at + i)
name_done d out name at i e h =
    let l : length (in_name name) ≡ length name = simp length-map in
    let passed-all : length name ≤ i = omega arith in
    let none_left : drop i name ≡ [] = drop_of_length-le name passed-all in
    record {
      ends = omega arith;
      holds = sym (over-nil out (at + i)) ∙ ap (λ (s : List ℕ). over out (at + i) (in_name s)) (sym none_left) ∙ h;
    }

-- Names that stand before.

names_more : (head : List ℕ) (fs : List Spans) (k : ℕ) → names_before head fs (k + 1) ≡ low_name head fs k ∷ names_before head fs k
unfolding names_before
names_more head fs k = ap (names_before head fs) (add-one k)

pub seen_none : (x head : List ℕ) (fs : List Spans) → is_in x (names_before head fs 0) ≡ false
unfolding is_in names_before
seen_none x head fs = refl

pub seen_next :
    (x head : List ℕ) (fs : List Spans) (j : ℕ)
    → is_in x (names_before head fs (j + 1)) ≡ same_bytes x (low_name head fs j) || is_in x (names_before head fs j)
unfolding is_in
seen_next x head fs j = ap (is_in x) (names_more head fs j)

-- .. from the last on
pub seen_down :
    (x head : List ℕ) (fs : List Spans) (j : ℕ) → 0 < j
    → is_in x (names_before head fs j) ≡ same_bytes x (low_name head fs (j - 1)) || is_in x (names_before head fs (j - 1))
seen_down x head fs j h =
    let z : j ≡ j - 1 + 1 = omega arith in
    ap (λ (m : ℕ). is_in x (names_before head fs m)) z ∙ seen_next x head fs (j - 1)

-- a name among some is among more
pub seen_more : (x head : List ℕ) (fs : List Spans) (j d k : ℕ) → k ≡ j + d → is_in x (names_before head fs j) ≡ true → is_in x (names_before head fs k) ≡ true
seen_more x head fs j zero k e h =
    let z : k ≡ j = omega arith in
    rw z h
seen_more x head fs j (suc d) k e h =
    seen_more x head fs (j + 1) d k (omega arith) (seen_next x head fs j ∙ rw h (or-true (same_bytes x (low_name head fs j))))
  where
    or-true : (t : Bool) → t || true ≡ true
    or-true true = refl
    or-true false = refl

-- What later fields add to a value.

pub added_next :
    (head : List ℕ) (fs : List Spans) (x : List ℕ) (j : ℕ) → j < length fs
    → added_by (low_from head fs j) x ≡ added_at head fs x (separator x) j ++ added_by (low_from head fs (j + 1)) x
unfolding added_by
added_next head fs x j h = ap (λ (gs : List Field). added_by (lowered gs) x) (fields-in-turn.next head fs j h) ∙ by (same_bytes (low_name head fs j) x)
  where
    by :
        (t : Bool)
        → cond t (separator x ++ ((field_at head fs j).value ++ added_by (low_from head fs (j + 1)) x)) (added_by (low_from head fs (j + 1)) x)
        ≡ if_there t (separator x ++ (field_at head fs j).value) ++ added_by (low_from head fs (j + 1)) x
    by true = sym (append_assoc (separator x) _ _)
    by false = refl

pub added-end : (head : List ℕ) (fs : List Spans) (x : List ℕ) (j : ℕ) → length fs ≤ j → added_by (low_from head fs j) x ≡ []
unfolding added_by
added-end head fs x j h = ap (λ (gs : List Field). added_by (lowered gs) x) (fields-in-turn.end head fs j h)

-- Names that are not passed count for nothing.

-- a name that is not in a list is not one that is
unlike-back : (n m : List ℕ) (ns : List (List ℕ)) → is_in n ns ≡ true → is_in m ns ≡ false → same_bytes m n ≡ false
unlike-back n m ns e d = by (same_bytes m n) refl
  where
    by : (t : Bool) → same_bytes m n ≡ t → t ≡ false
    by true q =
        let h : m ≡ n = same_true m n q in
        cc
    by false q = refl

-- fields that are not passed add nothing to one that is
added-passed : (fs : List Field) (n : List ℕ) → is_in n not_passed ≡ false → added_by (passed fs) n ≡ added_by fs n
unfolding passed added_by
added-passed [] n h = refl
added-passed (f ∷ fs) n h = by (is_in f.name not_passed) refl (added-passed fs n h)
  where
    by :
        (t : Bool) → is_in f.name not_passed ≡ t → added_by (passed fs) n ≡ added_by fs n
        → added_by (cond t (passed fs) (f ∷ passed fs)) n
        ≡ cond (same_bytes f.name n) (separator n ++ (f.value ++ added_by fs n)) (added_by fs n)
    by true q ih = rw (unlike f.name n not_passed q h) ih
    by false q ih = rw ih

-- two lists of names that hold the same of the names that are passed
abbrev Alike : List (List ℕ) → List (List ℕ) → Type 0
Alike a b = (n : List ℕ) → is_in n not_passed ≡ false → is_in n a ≡ is_in n b

alike-more : (m : List ℕ) (a b : List (List ℕ)) → Alike a b → Alike (m ∷ a) (m ∷ b)
unfolding is_in
alike-more m a b h n p = ap (λ (t : Bool). same_bytes n m || t) (h n p)

alike-one : (m : List ℕ) (a : List (List ℕ)) → is_in m not_passed ≡ true → Alike a (m ∷ a)
unfolding is_in
alike-one m a e n p = rw (unlike-back m n not_passed e p)

grouped-alike : (fs : List Field) (a b : List (List ℕ)) → Alike a b → grouped a (passed fs) ≡ grouped b (passed fs)
unfolding passed grouped
grouped-alike [] a b h = refl
grouped-alike (f ∷ fs) a b h =
    by (is_in f.name not_passed) refl (grouped-alike fs a b h) (grouped-alike fs (f.name ∷ a) (f.name ∷ b) (alike-more f.name a b h))
  where
    by :
        (t : Bool) → is_in f.name not_passed ≡ t → grouped a (passed fs) ≡ grouped b (passed fs)
        → grouped (f.name ∷ a) (passed fs) ≡ grouped (f.name ∷ b) (passed fs)
        → grouped a (cond t (passed fs) (f ∷ passed fs)) ≡ grouped b (cond t (passed fs) (f ∷ passed fs))
    by true q i j = i
    by false q i j = rw (h f.name q, j)

-- the first field, where seen are the names of all before it
group-one :
    (f : Field) (fs : List Field) (seen : List (List ℕ))
    → grouped seen (passed (f ∷ fs))
    ≡ cond (not (is_in f.name not_passed) && not (is_in f.name seen)) (joined f fs ∷ grouped (f.name ∷ seen) (passed fs)) (grouped (f.name ∷ seen) (passed fs))
unfolding passed grouped
group-one f fs seen = by (is_in f.name not_passed) (is_in f.name seen) refl
  where
    rest : List Field
    rest = grouped (f.name ∷ seen) (passed fs)

    by :
        (t u : Bool) → is_in f.name not_passed ≡ t
        → grouped seen (cond t (passed fs) (f ∷ passed fs))
        ≡ cond (not t && not (is_in f.name seen)) (joined f fs ∷ rest) rest
    by true u q = grouped-alike fs seen (f.name ∷ seen) (alike-one f.name seen q)
    by false u q = rw (added-passed fs f.name q) (turned (is_in f.name seen))
      where
        turned : (t : Bool) → cond t rest (joined f fs ∷ rest) ≡ cond (not t) (joined f fs ∷ rest) rest
        turned true = refl
        turned false = refl

-- The variables from a field on.

abbrev pub variables_from : List ℕ → List Spans → ℕ → List ℕ
variables_from head fs k = printed (map http_variable (grouped (names_before head fs k) (passed (low_from head fs k))))

pub variables-start : (head : List ℕ) (fs : List Spans) → fields_bytes head fs ≡ variables_from head fs 0
unfolding names_before
variables-start head fs = refl

pub variables-end : (head : List ℕ) (fs : List Spans) (k : ℕ) → length fs ≤ k → variables_from head fs k ≡ []
unfolding passed grouped printed
variables-end head fs k h =
    ap (λ (gs : List Field). printed (map http_variable (grouped (names_before head fs k) (passed (lowered gs))))) (fields-in-turn.end head fs k h)

pub variables-next :
    (head : List ℕ) (fs : List Spans) (k : ℕ) → k < length fs → variables_from head fs k ≡ variable_if head fs k ++ variables_from head fs (k + 1)
variables-next head fs k h =
    ap (λ (gs : List Field). printed (map http_variable (grouped (names_before head fs k) (passed (lowered gs))))) (fields-in-turn.next head fs k h)
    ∙ ap (λ (gs : List Field). printed (map http_variable gs)) (group-one f later (names_before head fs k))
    ∙ by (makes head fs k)
    ∙ ap (λ (ns : List (List ℕ)). if_there (makes head fs k) (variable_from head fs k) ++ printed (map http_variable (grouped ns (passed later)))) (sym (names_more head fs k))
  where
    f : Field
    f = record { name = low_name head fs k; value = (field_at head fs k).value }

    later : List Field
    later = low_from head fs (k + 1)

    rest : List Field
    rest = grouped (low_name head fs k ∷ names_before head fs k) (passed later)

    by :
        (t : Bool)
        → printed (map http_variable (cond t (joined f later ∷ rest) rest)) ≡ if_there t (variable_from head fs k) ++ printed (map http_variable rest)
    by true = print-one (http_variable (joined f later)) (map http_variable rest)
    by false = refl
