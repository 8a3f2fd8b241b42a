-- Grouped fields have different names in lower case, and are no more than the lines.
-- Assumes nothing.
use Prim.Native.Nat.{ℕ, suc, ◌≤◌}
use mathlib.Core.Path.{◌≡◌, refl}
use mathlib.Core.Bool.{Bool, true, false, cond, ◌||◌}
use mathlib.Core.List.{List, [], ◌∷◌, ◌++◌}
use native.Mathlib.Omega.{arith}
use lib.ListN.{length, length-map}
use Rattle.octets.specs.Text.{bytes}
use Rattle.octets.specs.Kinds.{is_name}
use Rattle.octets.specs.Compare.{same_bytes, lower_of}
use Rattle.octets.specs.Lists.{All, no_more, ◌&◌, NoNul, is_in, different}
use Rattle.octets.proofs.Alls.{all_append, all_map, no_nul}
use Rattle.octets.proofs.Compares.{same_true, same_refl}
use Rattle.http_head.specs.Fields.{Field}
use Rattle.request.specs.Named.{lowered, values_of, first_found}
use Rattle.variables.specs.Fields.{not_passed, passed, separator, added_by, joined, grouped, grouped_of}
use Rattle.variables.specs.Claims.{is_lower_name, ProperField, field_names, Optionally, absent, there}
use Rattle.variables.proofs.NameBytes.{lower-byte}

-- Names.

or_right : (t : Bool) {u : Bool} → u ≡ true → t || u ≡ true
or_right true e = refl
or_right false e = e

-- a name that was seen differs from one that was not
pub unlike : (n m : List ℕ) (seen : List (List ℕ)) → is_in n seen ≡ true → is_in m seen ≡ false → same_bytes n m ≡ false
unlike n m seen e d = by (same_bytes n m) refl
  where
    by : (t : Bool) → same_bytes n m ≡ t → t ≡ false
    by true q =
        let h : n ≡ m = same_true n m q in
        cc
    by false q = refl

-- what was seen does not come again
not-again : (fs : List Field) (seen : List (List ℕ)) (n : List ℕ) → is_in n seen ≡ true → is_in n (field_names (grouped seen fs)) ≡ false
unfolding grouped is_in
not-again [] seen n e = refl
not-again (f ∷ fs) seen n e = by (is_in f.name seen) refl (not-again fs (f.name ∷ seen) n (or_right (same_bytes n f.name) e))
  where
    rest : List Field
    rest = grouped (f.name ∷ seen) fs

    by :
        (t : Bool) → is_in f.name seen ≡ t → is_in n (field_names rest) ≡ false
        → is_in n (field_names (cond t rest (joined f fs ∷ rest))) ≡ false
    by true q ih = ih
    by false q ih = rw (unlike n f.name seen e q, ih)

all-different : (fs : List Field) (seen : List (List ℕ)) → different (field_names (grouped seen fs)) ≡ true
unfolding grouped different is_in
all-different [] seen = refl
all-different (f ∷ fs) seen = by (is_in f.name seen) (all-different fs (f.name ∷ seen))
  where
    rest : List Field
    rest = grouped (f.name ∷ seen) fs

    by : (t : Bool) → different (field_names rest) ≡ true → different (field_names (cond t rest (joined f fs ∷ rest))) ≡ true
    by true ih = ih
    by false ih = rw (not-again fs (f.name ∷ seen) f.name (rw (same_refl f.name)), ih)

-- Bytes.

either-bytes : (t : Bool) {a b : List ℕ} → NoNul a → NoNul b → NoNul (cond t a b)
either-bytes true p q = p
either-bytes false p q = q

separator-bytes : (n : List ℕ) → NoNul (separator n)
unfolding separator
separator-bytes n = either-bytes (same_bytes n (bytes "cookie")) (no_nul _ refl) (no_nul _ refl)

module _ {k : ℕ → Bool} where
  added-bytes : (fs : List Field) (n : List ℕ) → All (ProperField k) fs → NoNul (added_by fs n)
  unfolding added_by
  added-bytes [] n no_more = no_more
  added-bytes (f ∷ fs) n (p & ps) = by (same_bytes f.name n) (added-bytes fs n ps)
    where
      by : (t : Bool) → NoNul (added_by fs n) → NoNul (cond t (separator n ++ (f.value ++ added_by fs n)) (added_by fs n))
      by true ih = all_append (separator-bytes n) (all_append p.value_bytes ih)
      by false ih = ih

  grouped-proper : (fs : List Field) (seen : List (List ℕ)) → All (ProperField k) fs → All (ProperField k) (grouped seen fs)
  unfolding grouped
  grouped-proper [] seen no_more = no_more
  grouped-proper (f ∷ fs) seen (p & ps) = by (is_in f.name seen) (grouped-proper fs (f.name ∷ seen) ps)
    where
      by : (t : Bool) {rest : List Field} → All (ProperField k) rest → All (ProperField k) (cond t rest (joined f fs ∷ rest))
      by true ih = ih
      by false ih = record { name_bytes = p.name_bytes; value_bytes = all_append p.value_bytes (added-bytes fs f.name ps) } & ih

  passed-proper : (fs : List Field) → All (ProperField k) fs → All (ProperField k) (passed fs)
  unfolding passed
  passed-proper [] no_more = no_more
  passed-proper (f ∷ fs) (p & ps) = by (is_in f.name not_passed) (passed-proper fs ps)
    where
      by : (t : Bool) {rest : List Field} → All (ProperField k) rest → All (ProperField k) (cond t rest (f ∷ rest))
      by true ih = ih
      by false ih = p & ih

  values-bytes : (n : List ℕ) (fs : List Field) → All (ProperField k) fs → All NoNul (values_of n fs)
  unfolding values_of
  values-bytes n [] no_more = no_more
  values-bytes n (f ∷ fs) (p & ps) = by (same_bytes f.name n) (values-bytes n fs ps)
    where
      by : (t : Bool) {vs : List (List ℕ)} → All NoNul vs → All NoNul (cond t (f.value ∷ vs) vs)
      by true ih = p.value_bytes & ih
      by false ih = ih

first-bytes : {vs : List (List ℕ)} → All NoNul vs → Optionally NoNul (first_found vs)
first-bytes no_more = absent
first-bytes (p & ps) = there p

pub lowered-proper : (fs : List Field) → All (ProperField is_name) fs → All (ProperField is_lower_name) (lowered fs)
lowered-proper fs ps =
    all_map _ (λ f p. record { name_bytes = all_map lower_of lower-byte p.name_bytes; value_bytes = p.value_bytes }) ps

-- the first value of a name
pub value-bytes-of : (n : List ℕ) (fs : List Field) → All (ProperField is_name) fs → Optionally NoNul (first_found (values_of n (lowered fs)))
value-bytes-of n fs p = first-bytes (values-bytes n (lowered fs) (lowered-proper fs p))

-- Counts.

one_more : (t : Bool) (f : Field) (rest : List Field) (n : ℕ) → length rest ≤ n → length (cond t rest (f ∷ rest)) ≤ suc n
one_more true f rest n h = omega arith
one_more false f rest n h = omega arith

passed-count : (fs : List Field) → length (passed fs) ≤ length fs
unfolding passed
passed-count [] = omega arith
passed-count (f ∷ fs) = one_more (is_in f.name not_passed) f (passed fs) (length fs) (passed-count fs)

grouped-count : (fs : List Field) (seen : List (List ℕ)) → length (grouped seen fs) ≤ length fs
unfolding grouped
grouped-count [] seen = omega arith
grouped-count (f ∷ fs) seen = one_more (is_in f.name seen) _ (grouped (f.name ∷ seen) fs) (length fs) (grouped-count fs (f.name ∷ seen))

lowered-count : (fs : List Field) → length (lowered fs) ≡ length fs
lowered-count fs = simp length-map

-- one field for each name
pub record Grouped (lines fields : List Field) : Type 0 where
  pub names : different (field_names fields) ≡ true
  pub proper : All (ProperField is_lower_name) fields
  pub count : length fields ≤ length lines

pub grouped-once : (lines : List Field) → All (ProperField is_name) lines → Grouped lines (grouped_of lines)
grouped-once lines p =
    record {
      names = all-different (passed (lowered lines)) [];
      proper = grouped-proper (passed (lowered lines)) [] (passed-proper (lowered lines) (lowered-proper lines p));
      count = omega (arith, grouped-count (passed (lowered lines)) [], passed-count (lowered lines), lowered-count lines);
    }
