-- How many bytes the variables take: those of the fields four more for each field line than the lines, the others what they are made of.
-- Assumes nothing.
use Prim.Native.Nat.{ℕ, ◌+◌, ◌*◌, ◌≤◌}
use mathlib.Core.Path.{◌≡◌, refl, sym, ap, ◌∙◌}
use mathlib.Core.Bool.{Bool, true, false, cond, not, ◌&&◌, ◌||◌}
use mathlib.Core.List.{List, [], ◌∷◌, ◌++◌, map}
use Rattle.std.proofs.Common.{Option, None, Some}
use native.Mathlib.Omega.{arith}
use lib.ListN.{length, length-append, length-map}
use borrow.Author.Tests.{not-true}
use Rattle.octets.specs.Text.{bytes}
use Rattle.octets.specs.Kinds.{is_name}
use Rattle.octets.specs.Compare.{same_bytes, lower_of}
use Rattle.octets.specs.Lists.{is_in, different}
use Rattle.octets.specs.Decimal.{decimal}
use Rattle.octets.proofs.Bools.{and_left, and_right}
use Rattle.octets.proofs.Compares.{same_true}
use Rattle.octets.proofs.Decimals.{seven-digits}
use Rattle.headers.specs.Block.{Header, printed}
use Rattle.http_head.specs.Fields.{Field}
use Rattle.http_head.specs.Claims.{fields_size}
use Rattle.http_head.proofs.Claims.{head-holds}
use Rattle.targets.specs.Target.{query_of}
use Rattle.lent.specs.Settings.{Auth, Settings}
use Rattle.mounts.specs.Mounts.{Route}
use Rattle.lent.specs.Claims.{settings_size}
use Rattle.request.specs.Named.{lowered, values_of, first_found}
use Rattle.request.proofs.Claims.{requests-obey}
use Rattle.variables.specs.Fields.{not_passed, passed, separator, added_by, joined, grouped, grouped_of}
use Rattle.variables.specs.Meaning.{Meaning, meaning_of}
use Rattle.variables.specs.Variables.{fixed, http_variable, variables}
use Rattle.variables.specs.Claims.{VariablesTake}
use Rattle.variables.proofs.Variables.{authed, typed}

-- what headers take: name, NUL, value, NUL
unfoldable sizes : List Header → ℕ
sizes [] = 0
sizes (h ∷ hs) = length h.name + length h.value + 2 + sizes hs

printed-sizes : (hs : List Header) → length (printed hs) ≡ sizes hs
unfolding sizes printed
printed-sizes [] = refl
printed-sizes (h ∷ hs) = simp length-append (omega (arith, printed-sizes hs))

-- THE VARIABLES OF THE FIELDS

abbrev http_size : List Field → ℕ
http_size fs = sizes (map http_variable fs)

-- what they take where no two fields have the same name: HTTP_, the name, NUL, the value, NUL
unfoldable costs : List Field → ℕ
costs [] = 0
costs (f ∷ fs) = length f.name + length f.value + 7 + costs fs

-- what the fields add to the values of these names
unfoldable adds_to : List (List ℕ) → List Field → ℕ
adds_to [] fs = 0
adds_to (n ∷ ns) fs = length (added_by fs n) + adds_to ns fs

-- names that were seen count as a set

abbrev Alike : List (List ℕ) → List (List ℕ) → Type 0
Alike a b = (n : List ℕ) → is_in n a ≡ is_in n b

grouped-alike : (fs : List Field) (a b : List (List ℕ)) → Alike a b → grouped a fs ≡ grouped b fs
unfolding grouped is_in
grouped-alike [] a b h = refl
grouped-alike (f ∷ fs) a b h = rw (h f.name, grouped-alike fs (f.name ∷ a) (f.name ∷ b) (λ n. ap (λ (t : Bool). same_bytes n f.name || t) (h n)))

again : (m : List ℕ) (ns : List (List ℕ)) → is_in m ns ≡ true → Alike (m ∷ ns) ns
unfolding is_in
again m ns e n = by (same_bytes n m) refl
  where
    by : (t : Bool) → same_bytes n m ≡ t → t || is_in n ns ≡ is_in n ns
    by true q =
        let z : n ≡ m = same_true n m q in
        sym (ap (λ (x : List ℕ). is_in x ns) z ∙ e)
    by false q = refl

-- a field more adds to one of the names, or to none

either-length : (t : Bool) (a b : List ℕ) (k : ℕ) → length a ≡ k → length b ≡ k → length (cond t a b) ≡ k
either-length true a b k p q = p
either-length false a b k p q = q

separator-length : (n : List ℕ) → length (separator n) ≡ 2
unfolding separator
separator-length n = either-length (same_bytes n (bytes "cookie")) _ _ 2 refl refl

added-one : (f : Field) (fs : List Field) (n : List ℕ) → length (added_by (f ∷ fs) n) ≡ cond (same_bytes f.name n) (2 + length f.value) 0 + length (added_by fs n)
unfolding added_by
added-one f fs n = by (same_bytes f.name n)
  where
    by :
        (t : Bool) → length (cond t (separator n ++ (f.value ++ added_by fs n)) (added_by fs n)) ≡ cond t (2 + length f.value) 0 + length (added_by fs n)
    by true = simp (length-append, separator-length n) (omega arith)
    by false = omega arith

adds_one : (f : Field) (fs : List Field) (ns : List (List ℕ)) → different ns ≡ true → adds_to ns (f ∷ fs) ≤ cond (is_in f.name ns) (2 + length f.value) 0 + adds_to ns fs
unfolding adds_to is_in different
adds_one f fs [] d = omega arith
adds_one f fs (n ∷ ns) d = by (same_bytes f.name n) refl (is_in f.name ns) refl (adds_one f fs ns (and_right (not (is_in n ns)) (different ns) d)) (added-one f fs n)
  where
    by :
        (t : Bool) → same_bytes f.name n ≡ t → (u : Bool) → is_in f.name ns ≡ u → adds_to ns (f ∷ fs) ≤ cond u (2 + length f.value) 0 + adds_to ns fs
        → length (added_by (f ∷ fs) n) ≡ cond t (2 + length f.value) 0 + length (added_by fs n)
        → length (added_by (f ∷ fs) n) + adds_to ns (f ∷ fs) ≤ cond (t || u) (2 + length f.value) 0 + (length (added_by fs n) + adds_to ns fs)
    by true e true g ih a =
        let z : f.name ≡ n = same_true f.name n e in
        let y : is_in n ns ≡ false = not-true (is_in n ns) (and_left (not (is_in n ns)) (different ns) d) in
        let x : ◌≡◌ {A = ℕ} 0 1 = cc in
        omega arith
    by true e false g ih a = omega arith
    by false e true g ih a = omega arith
    by false e false g ih a = omega arith

none-added : (ns : List (List ℕ)) → adds_to ns [] ≤ 0
unfolding adds_to added_by
none-added [] = omega arith
none-added (n ∷ ns) = omega (arith, none-added ns)

-- the variables of the fields, and what the fields add to names that stand before them
grouped-size : (fs : List Field) (ns : List (List ℕ)) → different ns ≡ true → http_size (grouped ns fs) + adds_to ns fs ≤ costs fs
unfolding grouped costs different adds_to sizes
grouped-size [] ns d = omega (arith, none-added ns)
grouped-size (f ∷ fs) ns d = by (is_in f.name ns) refl (grouped-size fs ns d) (grouped-size fs (f.name ∷ ns)) (adds_one f fs ns d)
  where
    rest : List Field
    rest = grouped (f.name ∷ ns) fs

    by :
        (t : Bool) → is_in f.name ns ≡ t → http_size (grouped ns fs) + adds_to ns fs ≤ costs fs
        → (not (is_in f.name ns) && different ns ≡ true → http_size rest + (length (added_by fs f.name) + adds_to ns fs) ≤ costs fs)
        → adds_to ns (f ∷ fs) ≤ cond (is_in f.name ns) (2 + length f.value) 0 + adds_to ns fs
        → http_size (cond t rest (joined f fs ∷ rest)) + adds_to ns (f ∷ fs) ≤ length f.name + length f.value + 7 + costs fs
    by true e a b c =
        let z : rest ≡ grouped ns fs = grouped-alike fs (f.name ∷ ns) ns (again f.name ns e) in
        omega (arith, ap http_size z, rw e at c)
    by false e a b c = simp (length-append, length-map) (omega (arith, rw e at c, b (rw e d)))

-- THE FIELD LINES

-- Content-Type is not passed, and has a variable of its own
abbrev type_size : Option (List ℕ) → ℕ
type_size None = 0
type_size (Some v) = 14 + length v

passed-size : (fs : List Field) → costs (passed fs) + type_size (first_found (values_of (bytes "content-type") fs)) ≤ costs fs
unfolding passed costs values_of is_in same_bytes
passed-size [] = omega arith
passed-size (f ∷ fs) = by (same_bytes f.name (bytes "content-type")) refl (is_in f.name not_passed) refl (passed-size fs)
  where
    by :
        (t : Bool) → same_bytes f.name (bytes "content-type") ≡ t → (u : Bool) → is_in f.name not_passed ≡ u
        → costs (passed fs) + type_size (first_found (values_of (bytes "content-type") fs)) ≤ costs fs
        → costs (cond u (passed fs) (f ∷ passed fs)) + type_size (first_found (cond t (f.value ∷ values_of (bytes "content-type") fs) (values_of (bytes "content-type") fs)))
        ≤ length f.name + length f.value + 7 + costs fs
    by true e true g ih = omega (arith, ap length (same_true f.name (bytes "content-type") e))
    by true e false g ih =
        let y : is_in f.name not_passed ≡ true = ap (λ (n : List ℕ). is_in n not_passed) (same_true f.name (bytes "content-type") e) in
        let x : ◌≡◌ {A = ℕ} 0 1 = cc in
        omega arith
    by false e true g ih = omega arith
    by false e false g ih = omega arith

lowered-costs : (fs : List Field) → costs (lowered fs) ≡ fields_size fs + 4 * length fs
unfolding costs fields_size
lowered-costs [] = omega arith
lowered-costs (f ∷ fs) = omega (arith, lowered-costs fs, length-map f.name lower_of)

lines-size : (fs : List Field) → http_size (grouped_of fs) + type_size (first_found (values_of (bytes "content-type") (lowered fs))) ≤ fields_size fs + 4 * length fs
unfolding different
lines-size fs = omega (arith, grouped-size (passed (lowered fs)) [] refl, passed-size (lowered fs), lowered-costs fs)

-- ALL VARIABLES

-- by their parts; 133 are the names, the NULs, and the values `1` and `CGI/1.1`
module _ (s : Settings) (r : Route) (m : Meaning) where
  parts_size : Option Auth → Option (List ℕ) → ℕ
  parts_size a c =
      133 + length (decimal (length m.body)) + settings_size (authed s a) + type_size c + (length r.script_name + length r.path_info) + length (query_of m.target)
      + length m.method + length m.target + length m.version + http_size m.fields

  parts_at : (a : Option Auth) (c : Option (List ℕ)) → sizes (variables (authed s a) r (typed m c)) ≡ parts_size a c
  unfolding fixed sizes parts_size
  parts_at None None = omega arith
  parts_at None (Some c) = omega arith
  parts_at (Some a) None = omega arith
  parts_at (Some a) (Some c) = omega arith

  parts-size : length (printed (variables s r m)) ≡ parts_size s.auth m.content_type
  parts-size = printed-sizes (variables s r m) ∙ parts_at s.auth m.content_type

pub variables-take : VariablesTake
unfolding parts_size
variables-take s head body q r e route size =
    let o = requests-obey head q e in
    let a = o.target_obeys in
    let h = head-holds is_name head q.first q.fields o.line o.fields_read in
    omega
    (arith, parts-size s r (meaning_of q.first q.fields body), seven-digits (length body) (omega arith), lines-size q.fields, h.0, h.1, a.parts_fit, ap length a.query_is, ap length o.path)
