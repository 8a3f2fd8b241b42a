-- Fields no two of which have the same name: each one that is passed makes a variable of its own value alone.
-- Assumes nothing.
use Prim.Native.Nat.{ℕ, zero, suc, ◌+◌, ◌-◌, ◌<◌}
use mathlib.Core.Path.{◌≡◌, refl, sym, ap, ◌∙◌}
use mathlib.Core.Bool.{Bool, true, false, not, ◌&&◌, ◌||◌}
use mathlib.Core.List.{List, [], append-nil}
use native.Mathlib.Numerals.{add-one}
use native.Mathlib.Omega.{arith}
use lib.ListN.{length}
use borrow.Author.Tests.{not-true, not-false}
use Rattle.std.proofs.Common.{Option, None, Some}
use Rattle.octets.specs.Compare.{same_bytes}
use Rattle.octets.specs.Lists.{is_in, different}
use Rattle.octets.proofs.Bools.{and_left, and_right}
use Rattle.http_head.specs.Fields.{field_at}
use Rattle.http_head.specs.declared.fields.Field.{Field as Spans}
use Rattle.variables.specs.Fields.{not_passed, added_by}
use Rattle.variables.specs.FieldVariables.{low_name, names_before, low_from, variable_from, variable_alone, variable_if, repeats, RepeatsFrom}
use Rattle.variables.proofs.FieldVariables.{added_next, added-end}

-- Whether names differ, one field after the other from the last on.

pub differ-none : (head : List ℕ) (ps : List Spans) → different (names_before head ps 0) ≡ true
unfolding different names_before
differ-none head ps = refl

pub differ-next :
    (head : List ℕ) (ps : List Spans) (k : ℕ)
    → different (names_before head ps (k + 1)) ≡ not (is_in (low_name head ps k) (names_before head ps k)) && different (names_before head ps k)
unfolding different names_before
differ-next head ps k = ap (λ (m : ℕ). different (names_before head ps m)) (add-one k)

-- What holds of fewer fields.

or-neither : (a b : Bool) → a || b ≡ false → (a ≡ false) × (b ≡ false)
or-neither true b e = (e, cc)
or-neither false b e = (refl, e)

-- what one field less keeps, d fields less keep
fewer : (P : ℕ → Type 0) → ((k : ℕ) → P (suc k) → P k) → (d n k : ℕ) → n ≡ k + d → P n → P k
fewer P f zero n k e p =
    let z : n ≡ k = omega arith in
    rw z at p
fewer P f (suc d) n k e p = f k (fewer P f d n (suc k) (omega arith) p)

-- a name that is not one of those before number n is unlike each of them
unlike-one :
    (x head : List ℕ) (ps : List Spans) (n k : ℕ) → k < n → is_in x (names_before head ps n) ≡ false → same_bytes x (low_name head ps k) ≡ false
unfolding is_in names_before
unlike-one x head ps n k h e = (neither k (fewer (λ m. is_in x (names_before head ps m) ≡ false) (λ m q. (neither m q).1) (n - suc k) n (suc k) (omega arith) e)).0
  where
    neither :
        (m : ℕ) → is_in x (names_before head ps (suc m)) ≡ false
        → (same_bytes x (low_name head ps m) ≡ false) × (is_in x (names_before head ps m) ≡ false)
    neither m q = or-neither (same_bytes x (low_name head ps m)) (is_in x (names_before head ps m)) q

-- Where the names of the fields before number n differ, none of them stands before.
pub new-before :
    (head : List ℕ) (ps : List Spans) (n k : ℕ) → different (names_before head ps n) ≡ true → k < n
    → is_in (low_name head ps k) (names_before head ps k) ≡ false
unfolding different names_before
new-before head ps n k d h = not-true (here k) (and_left (not (here k)) (different (names_before head ps k)) up_to)
  where
    here : ℕ → Bool
    here m = is_in (low_name head ps m) (names_before head ps m)

    up_to : different (names_before head ps (suc k)) ≡ true
    up_to =
        fewer (λ m. different (names_before head ps m) ≡ true) (λ m q. and_right (not (here m)) (different (names_before head ps m)) q) (n - suc k) n (suc k)
        (omega arith)
        d

-- Where the names of all fields differ.

module _ (head : List ℕ) (ps : List Spans) (d : different (names_before head ps (length ps)) ≡ true) where
  -- no field before has the name of the one with number k
  pub new-name : (k : ℕ) → k < length ps → is_in (low_name head ps k) (names_before head ps k) ≡ false
  new-name k h = new-before head ps (length ps) k d h

  -- the m fields from number j on add nothing to the value of one before them
  none-added : (k m j : ℕ) → length ps ≡ j + m → k < j → added_by (low_from head ps j) (low_name head ps k) ≡ []
  none-added k zero j e h = added-end head ps (low_name head ps k) j (omega arith)
  none-added k (suc m) j e h =
      let l : j < length ps = omega arith in
      added_next head ps (low_name head ps k) j l
      ∙ rw (unlike-one (low_name head ps j) head ps j k h (new-name j l), none-added k m (j + 1) (omega arith) (omega arith))

  -- the variable has the field's value alone
  pub value-alone : (k : ℕ) → k < length ps → variable_from head ps k ≡ variable_alone head ps k
  value-alone k h = rw (none-added k (length ps - (k + 1)) (k + 1) (omega arith) (omega arith), append-nil (field_at head ps k).value)

-- a field with the name of one before it
pub repeats-at :
    (head : List ℕ) (ps : List Spans) (k : ℕ) → k < length ps → is_in (low_name head ps k) (names_before head ps k) ≡ true
    → repeats head ps ≡ true
repeats-at head ps k h e = by (different (names_before head ps (length ps))) refl
  where
    by : (t : Bool) → different (names_before head ps (length ps)) ≡ t → not t ≡ true
    by true d =
        let z : is_in (low_name head ps k) (names_before head ps k) ≡ false = new-name head ps d k h in
        cc
    by false d = refl

-- What the number says from which on names are looked for.

pub none-twice : (head : List ℕ) (ps : List Spans) {r : Option ℕ} → RepeatsFrom head ps r → r ≡ None → repeats head ps ≡ false
none-twice head ps h e = sym (rw e at h.0)

pub new-up-to :
    (head : List ℕ) (ps : List Spans) {r : Option ℕ} (n k : ℕ) → RepeatsFrom head ps r → r ≡ Some n → k < n
    → is_in (low_name head ps k) (names_before head ps k) ≡ false
new-up-to head ps n k h e l = new-before head ps n k (rw e at h.1) l

-- where no name is there twice, a field that is passed makes a variable of its own value
pub if-alone :
    (head : List ℕ) (ps : List Spans) (k : ℕ) → k < length ps → repeats head ps ≡ false → is_in (low_name head ps k) not_passed ≡ false
    → variable_if head ps k ≡ variable_alone head ps k
if-alone head ps k h r p =
    let d : different (names_before head ps (length ps)) ≡ true = not-false _ r in
    rw (p, new-name head ps d k h, value-alone head ps d k h)
