-- Laws of the steps of the call, for the code that makes them.
-- Assumes nothing.
use Prim.Native.Nat.{ℕ, ◌≤◌}
use mathlib.Core.Path.{◌≡◌, refl, sym, ap, ◌∙◌}
use mathlib.Core.Bool.{true, false, ◌&&◌}
use mathlib.Core.List.{List}
use Rattle.std.proofs.Common.{Option, None, Some}
use native.Mathlib.Omega.{arith}
use lib.ListN.{length, take}
use Rattle.octets.specs.Text.{bytes}
use Rattle.octets.specs.Outcome.{refused, gives}
use Rattle.octets.proofs.Bools.{and_left, and_right}
use Rattle.response.specs.Head.{Value, Head, head_with, lines_at, head_of}
use Rattle.response.specs.Seen.{none_seen, seen_head, value_at, SeenIn, not_twice}
use Rattle.response.specs.Status.{stated_in}
use Rattle.response.specs.Location.{filled, location_right}
use Rattle.response.specs.Table.{script_of, table_of}
use Rattle.response.specs.Response.{named, at_most_once, each_once, is_there, judged, response_of}
use Rattle.response.specs.declared.head.HeadPlace.{HeadPlace}
use Rattle.response.proofs.FieldPlaces.{some_is}
use Rattle.response.proofs.Lies.{HeadIn, head_in}
use Rattle.response.proofs.Seens.{marks_from, seen-marks, seen-in, value_of, once-marks}

-- The three fields and the table.

module _ (s : List ℕ) (ends n : ℕ) (c l t : Option Value) (e : filled c ≡ true) (h : filled l && location_right l ≡ true) where
  pub bad-status : (k : ℕ) → stated_in t ≡ refused k → judged s ends n c l t ≡ refused k
  bad-status k q = rw (e, h, q)

  pub in_table : (x : Option ℕ) → stated_in t ≡ gives x → judged s ends n c l t ≡ table_of (script_of s ends n (is_there c) l x)
  in_table x q = rw (e, h, q)

-- The head.

abbrev pub head_seen : List ℕ → Option HeadPlace
head_seen s = seen_head (head_with 64 (lines_at 0 (take 8192 s)))

pub no-head : (s : List ℕ) → head_seen s ≡ None → response_of s ≡ refused 24
unfolding response_of head_of
no-head s = by (head_with 64 (lines_at 0 (take 8192 s))) refl
  where
    by : (o : Option Head) → head_with 64 (lines_at 0 (take 8192 s)) ≡ o → seen_head o ≡ None → response_of s ≡ refused 24
    by None p e = rw p
    by (Some h) p e = cc

-- the head of which the numbers and the marks are kept
pub record Got (s : List ℕ) (p : HeadPlace) : Type 0 where
  pub head : Head
  pub is : head_of s ≡ gives head
  pub ends_is : head.ends ≡ p.end
  pub count : length head.fields ≡ p.fields
  pub seen_is : p.seen ≡ marks_from none_seen head.fields

pub got : (s : List ℕ) (p : HeadPlace) → head_seen s ≡ Some p → Got s p
unfolding head_of
got s p = by (head_with 64 (lines_at 0 (take 8192 s))) refl
  where
    by :
        (o : Option Head) → head_with 64 (lines_at 0 (take 8192 s)) ≡ o → seen_head o ≡ Some p → Got s p
    by None q e = absurd (let z : ◌≡◌ {A = ℕ} 0 1 = cc in omega arith)
    by (Some h) q e =
        let k = some_is e in
        record {
          head = h;
          is = rw q;
          ends_is = ap (λ (x : HeadPlace). x.end) k;
          count = omega (arith, ap (λ (x : HeadPlace). x.fields) k);
          seen_is = sym (ap (λ (x : HeadPlace). x.seen) k) ∙ seen-marks h.fields none_seen;
        }

module _ {s : List ℕ} {p : HeadPlace} (g : Got s p) where
  lies : HeadIn s g.head
  lies = head_in s g.head g.is

  pub ends-in : p.end ≤ length s
  ends-in = omega (arith, lies.ends, g.ends_is)

  pub all_in : SeenIn s p.seen
  all_in = rw g.seen_is (seen-in s g.head.fields lies.each)

  once_is : not_twice p.seen.content && not_twice p.seen.location && not_twice p.seen.status ≡ each_once g.head.fields
  once_is = rw g.seen_is (once-marks g.head.fields)

  pub twice : not_twice p.seen.content && not_twice p.seen.location && not_twice p.seen.status ≡ false → response_of s ≡ refused 25
  unfolding response_of
  twice e =
      let z : each_once g.head.fields ≡ false = sym once_is ∙ e in
      rw (g.is, z)

  pub judged-is :
      not_twice p.seen.content && not_twice p.seen.location && not_twice p.seen.status ≡ true
      → response_of s ≡ judged s p.end p.fields (value_at s p.seen.content) (value_at s p.seen.location) (value_at s p.seen.status)
  unfolding response_of
  judged-is e =
      let fs = g.head.fields in
      let a = at_most_once (named (bytes "content-type") fs) in
      let b = at_most_once (named (bytes "location") fs) in
      let d = at_most_once (named (bytes "status") fs) in
      let z : a && b && d ≡ true = sym once_is ∙ e in
      let ab : a && b ≡ true = and_left (a && b) d z in
      rw (g.is, z, g.seen_is, value_of s fs lies.each (bytes "content-type") (and_left a b ab), value_of s fs lies.each (bytes "location") (and_right a b ab), value_of s fs lies.each (bytes "status") (and_right (a && b) d z), sym g.ends_is, sym g.count)
