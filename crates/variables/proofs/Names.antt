-- The variables have different names where the fields have, and are at most 16 more than the fields.
-- Assumes nothing.
use Prim.Native.Nat.{ℕ, ◌+◌, ◌≤◌}
use mathlib.Core.Path.{◌≡◌, refl, ap, ◌∙◌}
use mathlib.Core.Bool.{Bool, true, false, not, ◌&&◌}
use mathlib.Core.List.{List, [], ◌∷◌, ◌++◌, map}
use Rattle.std.proofs.Common.{Option, None, Some}
use native.Mathlib.Omega.{arith}
use lib.Dec.{eqb}
use lib.ListN.{length, length-append, length-map}
use borrow.Author.Tests.{eqb-true, eqb-false, eq-eqb, ne_eqb, not-true}
use Rattle.octets.specs.Compare.{same_bytes}
use Rattle.octets.specs.Lists.{All, no_more, ◌&◌, is_in, different}
use Rattle.octets.proofs.Bools.{and_left, and_right}
use Rattle.octets.proofs.Names.{different-append}
use Rattle.headers.specs.Block.{Header, names}
use Rattle.http_head.specs.Fields.{Field}
use Rattle.lent.specs.Settings.{Auth, Settings}
use Rattle.mounts.specs.Mounts.{Route}
use Rattle.variables.specs.Meaning.{Meaning}
use Rattle.variables.specs.Variables.{variable_byte, http_name, http_variable, fixed, variables}
use Rattle.variables.specs.Claims.{is_lower_name, ProperField, field_names}
use Rattle.variables.proofs.NameBytes.{Lower, variable-byte-once}
use Rattle.variables.proofs.Variables.{authed, typed}

-- HTTP_ names are equal where the fields' names are

same_byte : (x y : ℕ) → is_lower_name x ≡ true → is_lower_name y ≡ true → eqb (variable_byte x) (variable_byte y) ≡ eqb x y
same_byte x y i j = by (eqb x y) refl
  where
    by : (t : Bool) → eqb x y ≡ t → eqb (variable_byte x) (variable_byte y) ≡ t
    by true e = eq-eqb _ _ (ap variable_byte (eqb-true x y e))
    by false e = ne_eqb _ _ (λ q. eqb-false x y e (variable-byte-once x y i j q))

same_map : (a b : List ℕ) → Lower a → Lower b → same_bytes (map variable_byte a) (map variable_byte b) ≡ same_bytes a b
unfolding same_bytes
same_map [] [] p q = refl
same_map [] (y ∷ b) p q = refl
same_map (x ∷ a) [] p q = refl
same_map (x ∷ a) (y ∷ b) (i & p) (j & q) = rw (same_byte x y i j, same_map a b p q)

same-http : (a b : List ℕ) → Lower a → Lower b → same_bytes (http_name a) (http_name b) ≡ same_bytes a b
unfolding same_bytes
same-http a b p q = same_map a b p q

in-http :
    (n : List ℕ) (fs : List Field) → Lower n → All (ProperField is_lower_name) fs → is_in (http_name n) (names (map http_variable fs)) ≡ is_in n (field_names fs)
unfolding is_in
in-http n [] p q = refl
in-http n (f ∷ fs) p (q & qs) = rw (same-http n f.name p q.name_bytes, in-http n fs p qs)

different-http : (fs : List Field) → All (ProperField is_lower_name) fs → different (names (map http_variable fs)) ≡ different (field_names fs)
unfolding different
different-http [] q = refl
different-http (f ∷ fs) (q & qs) = rw (in-http f.name fs q.name_bytes qs, different-http fs qs)

-- no name before the fields begins with `H`

abbrev begins : List ℕ → Bool
begins [] = false
begins (b ∷ s) = eqb b 72

abbrev none_begins : List (List ℕ) → Bool
none_begins [] = true
none_begins (n ∷ ns) = not (begins n) && none_begins ns

apart : (n : List ℕ) (fs : List Field) → begins n ≡ false → is_in n (names (map http_variable fs)) ≡ false
unfolding is_in same_bytes
apart n [] e = refl
apart [] (f ∷ fs) e = apart [] fs e
apart (b ∷ n) (f ∷ fs) e = rw e (apart (b ∷ n) fs e)

all_apart : (ns : List (List ℕ)) (fs : List Field) → none_begins ns ≡ true → All (λ n. is_in n (names (map http_variable fs)) ≡ false) ns
all_apart [] fs t = no_more
all_apart (n ∷ ns) fs t = apart n fs (not-true _ (and_left _ (none_begins ns) t)) & all_apart ns fs (and_right (not (begins n)) _ t)

record Fixed (hs : List Header) : Type 0 where
  differ : different (names hs) ≡ true
  no_http : none_begins (names hs) ≡ true
  count : length hs ≤ 16

fixed-at : (s : Settings) (r : Route) (m : Meaning) (n : ℕ) (a : Option Auth) (c : Option (List ℕ)) → Fixed (fixed (authed s a) r (typed m c) n)
unfolding fixed different is_in same_bytes
fixed-at s r m n None None = record { differ = refl; no_http = refl; count = omega arith }
fixed-at s r m n None (Some c) = record { differ = refl; no_http = refl; count = omega arith }
fixed-at s r m n (Some a) None = record { differ = refl; no_http = refl; count = omega arith }
fixed-at s r m n (Some a) (Some c) = record { differ = refl; no_http = refl; count = omega arith }

names-append : (hs ks : List Header) → names (hs ++ ks) ≡ names hs ++ names ks
names-append [] ks = refl
names-append (h ∷ hs) ks = rw (names-append hs ks)

module _ (s : Settings) (r : Route) (m : Meaning) where
  abbrev before : List Header
  before = fixed s r m (length m.body)

  f : Fixed before
  f = fixed-at s r m (length m.body) s.auth m.content_type

  pub names_differ : All (ProperField is_lower_name) m.fields → different (field_names m.fields) ≡ true → different (names (variables s r m)) ≡ true
  names_differ p d =
      rw (names-append before (map http_variable m.fields))
      (different-append (names before) (names (map http_variable m.fields)) f.differ (all_apart (names before) m.fields f.no_http)
      (different-http m.fields p ∙ d))

  pub variable-count : length (variables s r m) ≤ 16 + length m.fields
  variable-count = simp (length-append, length-map) (omega (arith, f.count))
