-- Laws of the search for a mount, one try at a time.
-- Assumes nothing.
use Prim.Native.Nat.{ℕ, ◌+◌, ◌<◌}
use mathlib.Core.Path.{◌≡◌, refl, sym, ap, subst, ◌∙◌}
use mathlib.Core.Bool.{Bool, true, false, cond}
use mathlib.Core.List.{List, [], ◌∷◌}
use Rattle.std.proofs.Common.{Option, None, Some}
use native.Mathlib.Omega.{arith}
use lib.ListN.{length, take, length-take}
use Rattle.octets.specs.Outcome.{refused, gives, is_good, then, given}
use Rattle.octets.specs.Compare.{same_bytes}
use Rattle.octets.proofs.Compares.{same_true}
use Rattle.octets.proofs.Outcomes.{Given, good-gives, gives-once, then-gives}
use Rattle.headers.specs.Block.{Header, well_formed}
use Rattle.octets.specs.declared.span.Span.{Span}
use Rattle.headers.specs.Lookup.{part_in, part_option, value_in, place_in, lookup_of}
use Rattle.headers.proofs.Claims.{well-formed-headed, lookup-finds-value}
use Rattle.mounts.specs.Mounts.{Mount, mount_at, mounts_from, mounts_of}
use Rattle.mounts.specs.Search.{shortened, mount_named, tried, place_of, place_by, search_of}
use Rattle.mounts.proofs.Mounts.{shortened-shorter, tried_here, tried-last, tried-on}
use Rattle.mounts.proofs.Pools.{mount-made, Held, held}

-- the path without its last segment is a front of the path
pub front-shorter : (path : List ℕ) (k : ℕ) → shortened path ≡ Some (take k path) → k < length path
front-shorter path k e = omega (arith, length-take k path, shortened-shorter path (take k path) e)

-- The mount with a name is that of the header with the name, whose value stands where the lookup finds it.

pub record Named (name : List ℕ) (p : Span) (v : List ℕ) (ms : List Mount) : Type 0 where
  pub m : Mount
  pub is : mount_named name ms ≡ Some m
  pub made : mount_at p.start (record { name = name; value = v }) ≡ gives m

abbrev NamedBy : List ℕ → Option Span → Option (List ℕ) → List Mount → Type 0
NamedBy name (Some p) (Some v) ms = Named name p v ms
NamedBy name (Some p) None ms = ⊥
NamedBy name None (Some v) ms = ⊥
NamedBy name None None ms = mount_named name ms ≡ None

-- a mount of another name before them changes nothing
named-later : (name : List ℕ) (m : Mount) (ms : List Mount) → same_bytes m.name name ≡ false → (o : Option Span) (v : Option (List ℕ)) → NamedBy name o v ms → NamedBy name o v (m ∷ ms)
unfolding mount_named
named-later name m ms q (Some p) (Some v) x = record { m = x.m; is = rw q x.is; made = x.made }
named-later name m ms q None None x = rw q x
named-later name m ms q None (Some v) x = elim x [ ]
named-later name m ms q (Some p) None x = elim x [ ]

named : (name : List ℕ) (i : ℕ) (hs : List Header) (ms : List Mount) → mounts_from i hs ≡ gives ms → NamedBy name (place_in name i hs) (value_in name hs) ms
unfolding mounts_from place_in value_in mount_named
named name i [] ms e = ap (mount_named name) (sym (gives-once [] ms e))
named name i (h ∷ hs) ms e =
    let j : ℕ = i + length h.name + 1 in
    let f = then-gives (mount_at j h) _ ms e in
    let g = then-gives (mounts_from (j + length h.value + 1) hs) _ ms f.next in
    let n : h.name ≡ f.it.name = ap (λ (x : Mount). x.name) (mount-made j h f.it f.first).is in
    subst (NamedBy name (place_in name i (h ∷ hs)) (value_in name (h ∷ hs))) (gives-once _ ms g.next)
    (by f.it g.it n f.first (same_bytes h.name name) refl (named name (j + length h.value + 1) hs g.it g.first))
  where
    by :
        (m : Mount) (rest : List Mount) → h.name ≡ m.name → mount_at (i + length h.name + 1) h ≡ gives m → (t : Bool) → same_bytes h.name name ≡ t
        → (let k = i + length h.name + 1 + length h.value + 1 in
        NamedBy name (place_in name k hs) (value_in name hs) rest
        → NamedBy name (cond t (Some (record { start = i + length h.name + 1; len = length h.value })) (place_in name k hs)) (cond t (Some h.value) (value_in name hs)) (m ∷ rest))
    by m rest n d true q ih =
        let z : h.name ≡ name = same_true h.name name q in
        record {
          m = m;
          is = rw (sym (ap (λ (x : List ℕ). same_bytes x name) n) ∙ q);
          made = ap (λ (x : List ℕ). mount_at (i + length h.name + 1) (record { name = x; value = h.value })) (sym z) ∙ d;
        }
    by m rest n d false q ih =
        named-later name m rest (sym (ap (λ (x : List ℕ). same_bytes x name) n) ∙ q) (place_in name (i + length h.name + 1 + length h.value + 1) hs) (value_in name hs) ih

-- Mounts that are what they must be.

good-held : (mounts : List ℕ) (good : is_good (mounts_of mounts) ≡ true) → Held mounts (good-gives (mounts_of mounts) good).it
good-held mounts good =
    let g = good-gives (mounts_of mounts) good in
    held mounts g.it g.is

pub good-formed : (mounts : List ℕ) → is_good (mounts_of mounts) ≡ true → well_formed mounts ≡ true
good-formed mounts good =
    let h = good-held mounts good in
    (well-formed-headed mounts).1 (record { hs = h.hs; is = h.headers })

module _ (mounts path : List ℕ) (good : is_good (mounts_of mounts) ≡ true) where
  g : Given (mounts_of mounts)
  g = good-gives (mounts_of mounts) good

  h : Held mounts g.it
  h = held mounts g.it g.is

  -- what the lookup says of the path as a name
  looked : (o : Option Span) → lookup_of mounts path ≡ gives o → NamedBy path o (part_option mounts o) g.it
  unfolding lookup_of
  looked o e =
      let z : place_in path 0 h.hs ≡ o = gives-once _ o (rw h.headers at e) in
      let v = lookup-finds-value mounts path h.hs o h.headers e in
      subst (λ (x : Option (List ℕ)). NamedBy path o x g.it) (sym v)
      (subst (λ (x : Option Span). NamedBy path x (value_in path h.hs) g.it) z (named path 0 h.hs g.it h.made))

  searched : (o : Option Mount) → tried g.it path ≡ o → search_of mounts path ≡ then (given o 19) (λ m. gives (place_of m))
  searched o e = rw (g.is, e)

  pub path-is-mount : (p : Span) → lookup_of mounts path ≡ gives (Some p) → place_by (length path) p.start (part_in mounts p) ≡ search_of mounts path
  path-is-mount p e =
      let n = looked (Some p) e in
      let d = mount-made p.start (record { name = path; value = part_in mounts p }) n.m n.made in
      rw d.read (ap (λ (m : Mount). gives (place_of m)) d.is) ∙ sym (searched (Some n.m) (tried_here g.it path n.m n.is))

  pub no-mount : lookup_of mounts path ≡ gives None → shortened path ≡ None → refused 19 ≡ search_of mounts path
  no-mount e s = sym (searched None (tried-last g.it path (looked None e) s))

  pub shorter-path : (t : List ℕ) → lookup_of mounts path ≡ gives None → shortened path ≡ Some t → search_of mounts t ≡ search_of mounts path
  shorter-path t e s = rw (g.is, tried-on g.it path t (looked None e) s)
