-- Laws of the rules over all fields, for the code that judges them step by step.
-- Assumes nothing.
use Prim.Native.Nat.{ℕ, ◌+◌, ◌≤◌, ◌<◌}
use Prim.{absurd}
use mathlib.Core.Path.{◌≡◌, refl, sym, ap, ◌∙◌}
use mathlib.Core.Bool.{Bool, true, false}
use mathlib.Core.List.{List, [], ◌∷◌, map}
use Rattle.std.proofs.Common.{None, Some}
use native.Mathlib.Omega.{arith}
use lib.Dec.{eqb, leb}
use lib.ListN.{length}
use borrow.Author.Tests.{ne_eqb, eq-eqb, le-leb, lt-leb}
use Rattle.octets.specs.Text.{bytes}
use Rattle.octets.specs.Outcome.{Outcome, refused, gives, then, need, given}
use Rattle.octets.specs.Compare.{same_bytes, lower_of}
use Rattle.octets.specs.Decimal.{number_of}
use Rattle.http_head.specs.RequestLine.{version_text}
use Rattle.octets.specs.declared.span.Span.{Span}
use Rattle.http_head.specs.Fields.{Field, part_at, fields_at, AllInside}
use Rattle.http_head.specs.declared.fields.Field.{Field as Spans}
use Rattle.request.specs.Named.{lowered, values_of}
use Rattle.request.specs.Request.{host_right, stated_by, content_of, rules_of}
use Rattle.request.specs.Rules.{found_of, judged, judged_of}
use Rattle.request.specs.RequestRead.{part_if}
use Rattle.request.specs.declared.rules.Found.{Found}
use Rattle.request.proofs.NamedFields.{FoundIn, found_in}

-- The names that the rules ask for have no upper case.

module _ (head : List ℕ) (ps : List Spans) (i : AllInside head ps) {r : Found} where
  in-lower :
      (name : List ℕ) → map lower_of name ≡ name → r ≡ found_of name head ps → FoundIn head (values_of name (lowered (fields_at head ps))) r
  in-lower name e f = rw f (rw e at (found_in head name ps i))

  pub hosts : r ≡ found_of (bytes "host") head ps → FoundIn head (values_of (bytes "host") (lowered (fields_at head ps))) r
  unfolding lower_of
  hosts = in-lower (bytes "host") refl

  pub lengths :
      r ≡ found_of (bytes "content-length") head ps → FoundIn head (values_of (bytes "content-length") (lowered (fields_at head ps))) r
  unfolding lower_of
  lengths = in-lower (bytes "content-length") refl

  pub types : r ≡ found_of (bytes "content-type") head ps → FoundIn head (values_of (bytes "content-type") (lowered (fields_at head ps))) r
  unfolding lower_of
  types = in-lower (bytes "content-type") refl

  pub codings :
      r ≡ found_of (bytes "transfer-encoding") head ps → FoundIn head (values_of (bytes "transfer-encoding") (lowered (fields_at head ps))) r
  unfolding lower_of
  codings = in-lower (bytes "transfer-encoding") refl

-- Hosts.

version-one : (d : ℕ) → d ≡ 1 → same_bytes (version_text d) (bytes "HTTP/1.1") ≡ true
unfolding same_bytes
version-one d e = rw e

version-other : (d : ℕ) → (d ≡ 1 → ⊥) → same_bytes (version_text d) (bytes "HTTP/1.1") ≡ false
unfolding same_bytes
version-other d h = rw (ne_eqb (48 + d) 49 (λ e. h (omega arith)))

module _ (fs : List Field) {head : List ℕ} {r : Found} (f : FoundIn head (values_of (bytes "host") fs) r) (d : ℕ) where
  pub host-one : d ≡ 1 → eqb r.count 1 ≡ host_right (version_text d) fs
  unfolding host_right
  host-one e = rw (version-one d e) (ap (λ (n : ℕ). eqb n 1) f.count_is)

  pub host-few : (d ≡ 1 → ⊥) → leb r.count 1 ≡ host_right (version_text d) fs
  unfolding host_right
  host-few h = rw (version-other d h) (ap (λ (n : ℕ). leb n 1) f.count_is)

-- The stated body length.

module _ {head : List ℕ} {r : Found} where
  pub states-none : (vs : List (List ℕ)) → FoundIn head vs r → r.first ≡ None → stated_by vs ≡ gives 0
  states-none [] f z = refl
  states-none (v ∷ vs) f z = absurd (let e : Some v ≡ None = f.first_is ∙ ap (part_if head) z in let y : ◌≡◌ {A = ℕ} 0 1 = cc in omega arith)

  pub states-two : (vs : List (List ℕ)) → FoundIn head vs r → 1 < r.count → stated_by vs ≡ refused 17
  states-two [] f h = absurd (omega (arith, f.count_is))
  states-two (v ∷ []) f h = absurd (omega (arith, f.count_is))
  states-two (v ∷ (w ∷ vs)) f h = refl

  module _ (s : Span) (first : r.first ≡ Some s) where
    pub states-one : (vs : List (List ℕ)) → FoundIn head vs r → r.count ≤ 1 → stated_by vs ≡ given (number_of (part_at head s)) 17
    states-one [] f h = absurd (let e : None ≡ Some (part_at head s) = f.first_is ∙ ap (part_if head) first in let y : ◌≡◌ {A = ℕ} 0 1 = cc in omega arith)
    states-one (v ∷ (w ∷ vs)) f h = absurd (omega (arith, f.count_is))
    states-one (v ∷ []) f h =
        let e : Some v ≡ Some (part_at head s) = f.first_is ∙ ap (part_if head) first in
        let q : v ≡ part_at head s = cc in
        ap (λ (t : List ℕ). given (number_of t) 17) q

    pub value-inside : {vs : List (List ℕ)} → FoundIn head vs r → s.start + s.len ≤ length head
    value-inside f = rw first at f.inside

-- The whole chain.

chain :
    (h : Bool) (o : Outcome ℕ) (t e : Bool)
    → need h 16 (then (then o (λ n. need t 17 (gives n))) (λ n. need e 18 (gives n)))
    ≡ need h 16 (then o (λ n. need t 17 (need e 18 (gives n))))
chain true (gives n) true true = refl
chain true (gives n) true false = refl
chain true (gives n) false e = refl
chain true (refused n) t e = refl
chain false o t e = refl

module _ (version head : List ℕ) (ps : List Spans) where
  abbrev fs : List Field
  fs = lowered (fields_at head ps)

  abbrev stated : Outcome ℕ
  stated = stated_by (values_of (bytes "content-length") fs)

  abbrev coded : Bool
  coded = eqb (length (values_of (bytes "transfer-encoding") fs)) 0

  rules-are :
      rules_of version fs
      ≡ need (host_right version fs) 16 (then stated (λ m. need (leb (length (values_of (bytes "content-type") fs)) 1) 17 (need coded 18 (gives m))))
  unfolding rules_of content_of
  rules-are = chain (host_right version fs) (stated_by (values_of (bytes "content-length") fs)) (leb (length (values_of (bytes "content-type") fs)) 1) coded

  pub bad-host : host_right version fs ≡ false → refused 16 ≡ judged_of version head ps
  bad-host h = sym (rw (rules-are, h))

  module _ (host : host_right version fs ≡ true) where
    pub unstated : (k : ℕ) → stated ≡ refused k → refused k ≡ judged_of version head ps
    unstated k e = sym (rw (rules-are, host, e))

    module _ (m : ℕ) (said : stated ≡ gives m) {type : Found} (t : FoundIn head (values_of (bytes "content-type") fs) type) where
      pub two-types : 1 < type.count → refused 17 ≡ judged_of version head ps
      two-types h = sym (rw (rules-are, host, said, lt-leb (length (values_of (bytes "content-type") fs)) 1 (omega (arith, t.count_is))))

      module _ (one : type.count ≤ 1) {coding : Found} (c : FoundIn head (values_of (bytes "transfer-encoding") fs) coding) where
        one_type : leb (length (values_of (bytes "content-type") fs)) 1 ≡ true
        one_type = le-leb (length (values_of (bytes "content-type") fs)) 1 (omega (arith, t.count_is))

        pub is-coded : 0 < coding.count → refused 18 ≡ judged_of version head ps
        is-coded h =
            sym (rw (rules-are, host, said, one_type, ne_eqb (length (values_of (bytes "transfer-encoding") fs)) 0 (λ z. omega (arith, c.count_is))))

        pub passes : coding.count ≤ 0 → type ≡ found_of (bytes "content-type") head ps → gives (judged m type) ≡ judged_of version head ps
        passes h e =
            ap (λ (f : Found). gives (judged m f)) e
            ∙ sym (rw (rules-are, host, said, one_type, eq-eqb (length (values_of (bytes "transfer-encoding") fs)) 0 (omega (arith, c.count_is))))
