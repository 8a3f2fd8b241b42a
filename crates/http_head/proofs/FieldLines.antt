-- Laws of field lines: what each test of the reader says, and the bytes of a field.
-- Assumes nothing.
use mathlib.Core.Path.{◌≡◌, refl, sym, ap, ◌∙◌}
use mathlib.Core.Bool.{Bool, true, false, cond, ◌&&◌, ◌||◌, and-false}
use mathlib.Core.List.{List, [], ◌∷◌}
use Rattle.std.proofs.Common.{Option, None, Some}
use Prim.Native.Nat.{ℕ, zero, suc, ◌+◌, ◌≤◌, ◌<◌}
use native.Mathlib.Omega.{arith}
use lib.Dec.{leb, ltb, eqb}
use lib.ListN.{length, take, drop, length-take, length-drop}
use lib.Seq.{drop-drop, length-take-le}
use borrow.Author.Tests.{eqb-true, lt-ltb, le-ltb, le-leb, lt-leb, ltb-true}
use Rattle.octets.specs.Lists.{All, no_more, ◌&◌}
use Rattle.octets.specs.Outcome.{gives}
use Rattle.octets.proofs.Outcomes.{given-gives}
use Rattle.octets.specs.Kinds.{is_digit, is_letter, is_token, is_name, is_blank, is_value}
use Rattle.octets.specs.Scan.{run, all_of, other}
use Rattle.octets.specs.Trim.{kept, trimmed, trimmed_end}
use Rattle.octets.proofs.Alls.{all_without}
use Rattle.octets.proofs.Scans.{run-within, all_take}
use Rattle.octets.proofs.Trims.{kept-le}
use Rattle.http_head.specs.Fields.{Field, is_field_name, field_with, field_of, ahead, each_field, fields_in, fields_of, name_length, value_start, value_length, spans_of}
use Rattle.http_head.specs.Claims.{Clean, FieldStands}

-- the first colon stands at n
module _ (rule : ℕ → Bool) (line : List ℕ) (n : ℕ) (colon : n ≡ 0 + run (other 58) (drop 0 line)) where
  at-colon : field_of rule line ≡ field_with rule line n
  unfolding field_of
  at-colon =
      let e : run (other 58) line ≡ n = omega arith in
      ap (field_with rule line) e

  pub no-colon : length line ≤ n → field_of rule line ≡ None
  no-colon h = at-colon ∙ simp (le-ltb n (length line) h)

  pub no_name : n ≡ 0 → field_of rule line ≡ None
  no_name h = at-colon ∙ rw h (simp and-false)

  module _ (l : n < length line) where
    name-test : all_of rule (take n line) ≡ leb n (run rule line)
    name-test = all_take rule line n (omega arith)

    pub bad-name : (j : ℕ) → j ≡ 0 + run rule (drop 0 line) → j < n → field_of rule line ≡ None
    bad-name j e h = at-colon ∙ simp (name-test, lt-leb n (run rule line) (omega arith), and-false)

    -- .. and the value begins at v and has k bytes
    module _ (v k : ℕ) (start : v ≡ n + 1 + run is_blank (drop (n + 1) line)) (stays : k ≡ kept (drop v line)) where
      value_is : trimmed (drop (n + 1) line) ≡ take k (drop v line)
      value_is =
          let r : drop (run is_blank (drop (n + 1) line)) (drop (n + 1) line) ≡ drop v line = drop-drop (run is_blank (drop (n + 1) line)) (n + 1) line ∙ ap (λ (i : ℕ). drop i line) (sym start) in
          ap trimmed_end r ∙ ap (λ (i : ℕ). take i (drop v line)) (sym stays)

      value-test : all_of is_value (take k (drop v line)) ≡ leb k (run is_value (drop v line))
      value-test = all_take is_value (drop v line) k (omega (arith, kept-le (drop v line)))

      pub bad-value : (e : ℕ) → e ≡ v + run is_value (drop v line) → e < v + k → field_of rule line ≡ None
      bad-value e q h = at-colon ∙ simp (value_is, value-test, lt-leb k (run is_value (drop v line)) (omega arith), and-false)

      there :
          (n ≡ 0 → ⊥) → n ≤ 0 + run rule (drop 0 line) → v + k ≤ v + run is_value (drop v line)
          → field_of rule line ≡ Some (record { name = take n line; value = take k (drop v line) })
      there z a b =
          let m : 0 < length (take n line) = simp length-take (omega arith) in
          at-colon
          ∙ simp (value_is, value-test, name-test, lt-ltb n (length line) l, lt-ltb 0 (length (take n line)) m, le-leb n (run rule line) (omega arith), le-leb k (run is_value (drop v line)) (omega arith))

      pub whole :
          (n ≡ 0 → ⊥) → n ≤ 0 + run rule (drop 0 line) → v + k ≤ v + run is_value (drop v line)
          → spans_of rule line ≡ Some (record { name = record { start = 0; len = n }; value = record { start = v; len = k } })
      whole z a b =
          let e : name_length line ≡ n = omega arith in
          let y : length (take k (drop v line)) ≡ k = length-take-le k (drop v line) (omega (arith, kept-le (drop v line))) in
          let s : value_start line ≡ v = ap (λ (m : ℕ). m + 1 + run is_blank (drop (m + 1) line)) e ∙ sym start in
          rw (there z a b, s, e, value_is, y)

-- "A line that begins with space or tab is refused"
first_byte : (rule : ℕ → Bool) (b : ℕ) (s : List ℕ) (n : ℕ) → rule b ≡ false → field_with rule (b ∷ s) n ≡ None
unfolding all_of
first_byte rule b s zero e = simp and-false
first_byte rule b s (suc n) e = simp (e, and-false)

blank-token : (b : ℕ) → is_blank b ≡ true → is_token b ≡ false
unfolding is_blank is_token is_digit is_letter
blank-token b = by (eqb b 32) (eqb b 9) refl refl
  where
    by : (t u : Bool) → eqb b 32 ≡ t → eqb b 9 ≡ u → t || u ≡ true → is_token b ≡ false
    by true u p q e = ap is_token (eqb-true b 32 p)
    by false true p q e = ap is_token (eqb-true b 9 q)
    by false false p q e = cc

module _ (b : ℕ) (s : List ℕ) (blank : is_blank b ≡ true) where
  pub blank-first : field_of is_token (b ∷ s) ≡ None
  unfolding field_of
  blank-first = first_byte is_token b s (run (other 58) (b ∷ s)) (blank-token b blank)

  pub blank-first-name : field_of is_name (b ∷ s) ≡ None
  unfolding field_of is_name
  blank-first-name = first_byte is_name b s (run (other 58) (b ∷ s)) (rw (blank-token b blank))

-- THE FIELD OF A LINE: the tests that it passed

record Passes (rule : ℕ → Bool) (line : List ℕ) (n : ℕ) (f : Field) : Type 0 where
  is : f ≡ record { name = take n line; value = trimmed (drop (n + 1) line) }
  colon : n < length line
  name : is_field_name rule (take n line) ≡ true
  value : all_of is_value (trimmed (drop (n + 1) line)) ≡ true

passes : (rule : ℕ → Bool) (line : List ℕ) (n : ℕ) (f : Field) → field_with rule line n ≡ Some f → Passes rule line n f
passes rule line n f = by (ltb n (length line)) (is_field_name rule (take n line)) (all_of is_value (trimmed (drop (n + 1) line))) refl refl refl
  where
    by :
        (a b c : Bool) → ltb n (length line) ≡ a → is_field_name rule (take n line) ≡ b → all_of is_value (trimmed (drop (n + 1) line)) ≡ c
        → cond (a && b && c) (Some (record { name = take n line; value = trimmed (drop (n + 1) line) })) None ≡ Some f → Passes rule line n f
    by true true true l p q e = record { is = cc; colon = ltb-true n (length line) l; name = p; value = q }
    by true true false l p q e = absurd (let z : ◌≡◌ {A = ℕ} 0 1 = cc in omega arith)
    by true false c l p q e = absurd (let z : ◌≡◌ {A = ℕ} 0 1 = cc in omega arith)
    by false b c l p q e = absurd (let z : ◌≡◌ {A = ℕ} 0 1 = cc in omega arith)

module _ (rule : ℕ → Bool) (line : List ℕ) (f : Field) (e : field_of rule line ≡ Some f) where
  passed : Passes rule line (name_length line) f
  unfolding field_of
  passed = passes rule line (name_length line) f e

  field-clean : Clean rule f
  unfolding is_value
  field-clean =
      rw passed.is
      (record { name = passed.name; value = passed.value; value_no_nul = all_without is_value 0 (trimmed (drop (name_length line + 1) line)) refl passed.value })

  abbrev behind : List ℕ
  behind = drop (name_length line + 1) line

  rest-is : drop (run is_blank behind) behind ≡ drop (value_start line) line
  rest-is = drop-drop (run is_blank behind) (name_length line + 1) line

  value-kept : trimmed behind ≡ trimmed_end (drop (value_start line) line)
  value-kept = ap trimmed_end rest-is

  value-length : value_length line ≡ kept (drop (value_start line) line)
  value-length =
      ap length value-kept
      ∙ length-take-le (kept (drop (value_start line) line)) (drop (value_start line) line) (kept-le (drop (value_start line) line))

  -- its name and its value stand where they are said to
  pub field-stands : FieldStands line f
  field-stands =
      let c : name_length line < length line = passed.colon in
      let s : value_start line ≤ length line = run-within is_blank line (name_length line + 1) (omega arith) in
      record {
        name = ap (λ (g : Field). g.name) passed.is;
        value =
            ap (λ (g : Field). g.value) passed.is ∙ value-kept ∙ ap (λ (k : ℕ). take k (drop (value_start line) line)) (sym value-length);
        colon_inside = omega arith;
        value_inside = omega (arith, value-length, kept-le (drop (value_start line) line), length-drop (value_start line) line);
      }

-- FIELDS OF LINES

each-clean : (rule : ℕ → Bool) (ls : List (List ℕ)) (fs : List Field) → each_field rule ls ≡ Some fs → All (Clean rule) fs
unfolding each_field
each-clean rule [] fs e = let z : fs ≡ [] = cc in rw z no_more
each-clean rule (l ∷ ls) fs e = by (field_of rule l) (each_field rule ls) refl refl (each-clean rule ls) e
  where
    by :
        (f : Option Field) (o : Option (List Field)) → field_of rule l ≡ f → each_field rule ls ≡ o
        → ((gs : List Field) → each_field rule ls ≡ Some gs → All (Clean rule) gs) → ahead f o ≡ Some fs → All (Clean rule) fs
    by None o p q ih e = absurd (let z : ◌≡◌ {A = ℕ} 0 1 = cc in omega arith)
    by (Some f) None p q ih e = absurd (let z : ◌≡◌ {A = ℕ} 0 1 = cc in omega arith)
    by (Some f) (Some gs) p q ih e = let z : fs ≡ f ∷ gs = cc in rw z (field-clean rule l f p & ih gs q)

pub fields-clean : (rule : ℕ → Bool) (ls : List (List ℕ)) (fs : List Field) → fields_of rule ls ≡ gives fs → All (Clean rule) fs
fields-clean rule ls fs e = by (leb (length ls) 64) (given-gives (fields_in 64 rule ls) 15 fs e)
  where
    by : (t : Bool) → cond t (each_field rule ls) None ≡ Some fs → All (Clean rule) fs
    by true q = each-clean rule ls fs q
    by false q = absurd (let z : ◌≡◌ {A = ℕ} 0 1 = cc in omega arith)
