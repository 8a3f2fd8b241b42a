-- Laws of the fields of one name among stored fields.
-- Assumes nothing.
use Prim.Native.Nat.{ℕ, suc, ◌+◌, ◌≤◌, ◌<◌}
use Prim.{absurd}
use mathlib.Core.Path.{◌≡◌, refl, sym, ap}
use mathlib.Core.Bool.{Bool, true, false, cond}
use mathlib.Core.List.{List, [], ◌∷◌, ◌++◌, map, append-nil}
use Rattle.std.proofs.Common.{Option, None, Some}
use Rattle.std.specs.Option.{option_or}
use native.Mathlib.Omega.{arith}
use lib.ListN.{length, drop, get_or, length-append, drop_of_length-le}
use lib.Seq.{append_snoc}
use Rattle.std.proofs.lemmas.List.{at_drop_more}
use Rattle.octets.specs.Compare.{lower_of, same_letters}
use Rattle.octets.specs.declared.span.Span.{Span}
use Rattle.http_head.specs.Fields.{part_at, field_in, fields_at, nowhere, InHead, AllInside}
use Rattle.http_head.specs.declared.fields.Field.{Field as Spans}
use Rattle.request.specs.Named.{lowered, values_of, first_found}
use Rattle.request.specs.Rules.{with_field, found_from, found_of}
use Rattle.request.specs.RequestRead.{part_if, PartInside}
use Rattle.request.specs.declared.rules.Found.{Found}

-- of some values: how many they are, and where the first of them stands in the head
pub record FoundIn (head : List ℕ) (values : List (List ℕ)) (r : Found) : Type 0 where
  pub count_is : r.count ≡ length values
  pub first_is : first_found values ≡ part_if head r.first
  pub inside : PartInside head r.first

module _ (head : List ℕ) where
  -- one value more, which stands at s
  found-more :
      (vs : List (List ℕ)) (n : ℕ) (o : Option Span) → n ≡ length vs → first_found vs ≡ part_if head o → PartInside head o
      → (s : Span) → s.start + s.len ≤ length head → FoundIn head (vs ++ (part_at head s ∷ [])) (record { count = n + 1; first = option_or o (Some s) })
  found-more [] n None c f i s h = record { count_is = omega (arith, c); first_is = refl; inside = h }
  found-more [] n (Some t) c f i s h = absurd (let z : ◌≡◌ {A = ℕ} 0 1 = cc in omega arith)
  found-more (v ∷ vs) n None c f i s h = absurd (let z : ◌≡◌ {A = ℕ} 0 1 = cc in omega arith)
  found-more (v ∷ vs) n (Some t) c f i s h =
      record { count_is = omega (arith, c, length-append vs (part_at head s ∷ [])); first_is = f; inside = i }

  module _ (name : List ℕ) where
    -- one field more
    found-step :
        (p : Spans) → InHead head p → (seen : Found) (vs : List (List ℕ)) → FoundIn head vs seen
        → FoundIn head (vs ++ cond (same_letters (field_in head p).name name) ((field_in head p).value ∷ []) []) (with_field name head p seen)
    found-step p i seen vs f = by (same_letters (field_in head p).name name)
      where
        by :
            (t : Bool)
            → FoundIn head (vs ++ cond t ((field_in head p).value ∷ []) [])
            (cond t (record { count = seen.count + 1; first = option_or seen.first (Some p.value) }) seen)
        by false = rw (append-nil vs) f
        by true = found-more vs seen.count seen.first f.count_is f.first_is f.inside p.value i.value

    -- what is found of fields behind those that are done
    found-behind :
        (ps : List Spans) → AllInside head ps → (seen : Found) (vs : List (List ℕ)) → FoundIn head vs seen
        → FoundIn head (vs ++ values_of (map lower_of name) (lowered (fields_at head ps))) (found_from name head seen ps)
    unfolding found_from values_of
    found-behind [] i seen vs f = rw (append-nil vs) f
    found-behind (p ∷ ps) i seen vs f =
        let us = values_of (map lower_of name) (lowered (fields_at head ps)) in
        rw (by (same_letters (field_in head p).name name) us)
        (found-behind ps (λ k h. i (suc k) (omega arith)) (with_field name head p seen) (vs ++ cond (same_letters (field_in head p).name name) ((field_in head p).value ∷ []) []) (found-step p (i 0 (omega arith)) seen vs f))
      where
        by :
            (t : Bool) (us : List (List ℕ))
            → vs ++ cond t ((field_in head p).value ∷ us) us ≡ (vs ++ cond t ((field_in head p).value ∷ []) []) ++ us
        by true us = sym (append_snoc vs (field_in head p).value us)
        by false us = rw (append-nil vs)

    -- what is found of fields
    pub found_in : (ps : List Spans) → AllInside head ps → FoundIn head (values_of (map lower_of name) (lowered (fields_at head ps))) (found_of name head ps)
    found_in ps i = found-behind ps i (record { count = 0; first = None }) [] (record { count_is = refl; first_is = refl; inside = tt })

    -- one field more is one more of the name at most
    with-few : (p : Spans) (seen : Found) → (with_field name head p seen).count ≤ seen.count + 1
    with-few p seen = by (same_letters (field_in head p).name name)
      where
        by : (t : Bool) → (cond t (record { count = seen.count + 1; first = option_or seen.first (Some p.value) }) seen).count ≤ seen.count + 1
        by true = omega arith
        by false = omega arith

    few-behind : (ps : List Spans) (seen : Found) → (found_from name head seen ps).count ≤ seen.count + length ps
    unfolding found_from
    few-behind [] seen = omega arith
    few-behind (p ∷ ps) seen = omega (arith, few-behind ps (with_field name head p seen), with-few p seen)

    -- they are no more than the fields
    pub found-few : (ps : List Spans) → (found_of name head ps).count ≤ length ps
    found-few ps = omega (arith, few-behind ps (record { count = 0; first = None }))

    -- one field after the other
    module _ (seen : Found) (ps : List Spans) (k : ℕ) where
      pub found-next :
          k < length ps
          → found_from name head seen (drop k ps) ≡ found_from name head (with_field name head (get_or ps k nowhere) seen) (drop (k + 1) ps)
      unfolding found_from
      found-next h = at_drop_more (found_from name head seen) ps k nowhere h

      pub found-end : length ps ≤ k → found_from name head seen (drop k ps) ≡ seen
      unfolding found_from
      found-end h = ap (found_from name head seen) (drop_of_length-le ps h)
