-- The step link by link, as the code makes it.
-- Assumes nothing.
use Prim.Native.Nat.{ℕ, ◌+◌, ◌-◌, ◌≤◌}
use mathlib.Core.Path.{◌≡◌, sym, ap, ◌∙◌}
use mathlib.Core.Bool.{Bool, true, false}
use Rattle.std.proofs.Common.{Option, None, Some, Ok, Err}
use mathlib.Core.List.{List, ◌++◌}
use native.Mathlib.Omega.{arith}
use lib.Dec.{leb}
use lib.ListN.{length, take, drop, length-append}
use lib.Seq.{length-take-le, take-append_seam}
use Rattle.octets.specs.Outcome.{Outcome, refused, gives, then, need, given}
use Rattle.octets.proofs.Lists.{from}
use Rattle.octets.proofs.Outcomes.{given-gives, gives-once, then-gives}
use Rattle.headers.specs.Block.{printed}
use Rattle.scgi.specs.Write.{in_room, output_after, WrittenOut}
use Rattle.octets.specs.Refusal.{number_of}
use Rattle.octets.specs.declared.refusal.Refusal.{Refusal}
use Rattle.http_head.specs.Head.{head_of}
use Rattle.mounts.specs.Mounts.{Mount, Route, mounts_of, mount_of, mount_for, route_of}
use Rattle.mounts.specs.Search.{MountPlace, place_of, search_of, mount_outcome}
use Rattle.mounts.proofs.Claims.{longest-wins, route-is-path}
use Rattle.lent.specs.Lent.{Lent, lent_of}
use Rattle.lent.specs.Places.{settings_at}
use Rattle.variables.specs.Meaning.{Meaning, meaning_of}
use Rattle.variables.specs.Variables.{fixed, variables}
use Rattle.variables.specs.Block.{route_at, block_at}
use Rattle.variables.specs.declared.sources.Sources.{Sources}
use Rattle.request.specs.RequestRead.{line_in, path_in, fields_in}
use Rattle.request.specs.Request.{Request, request_of}
use Rattle.gateway.specs.Body.{Body, body_of, length_of, body_outcome}
use Rattle.gateway.specs.Step.{bytes_of, Forward, forward_by, forward_of, step_with, step_of}
use Rattle.gateway.specs.Stepping.{Stepped}
use Rattle.gateway.proofs.Winners.{winner}
use Rattle.gateway.proofs.Links.{body-links}

-- A refusal leaves the output as it is.

pub left_alone : (o : Outcome Forward) (d : List ℕ) (k : Refusal) → o ≡ refused (number_of k) → Stepped o d d (Err k)
left_alone o d k e = record { answer = rw e; output = rw e }

-- The links before it hold: what the next one refuses, the step refuses.

module _ (facts site mounts http : List ℕ) (room : ℕ) where
  abbrev o : Outcome Forward
  o = step_of facts site mounts http room

  pub step-lent : (k : ℕ) → lent_of facts site mounts ≡ refused k → o ≡ refused k
  unfolding step_with forward_of
  step-lent k e = rw e

  module _ (l : Lent) (e : lent_of facts site mounts ≡ gives l) where
    pub step-head : (k : ℕ) → head_of http ≡ refused k → o ≡ refused k
    unfolding step_with forward_of
    step-head k f = rw (e, f)

    module _ (h : ℕ) (f : head_of http ≡ gives h) where
      pub step-read : (k : ℕ) → request_of (take (h - 4) http) ≡ refused k → o ≡ refused k
      unfolding step_with forward_of
      step-read k r = rw (e, f, r)

      module _ (q : Request) (r : request_of (take (h - 4) http) ≡ gives q) where
        pub step-mount : (k : ℕ) → mount_for l.mounts q.path ≡ refused k → o ≡ refused k
        unfolding step_with forward_of
        step-mount k w = rw (e, f, r, w)

        module _ (m : Mount) (w : mount_for l.mounts q.path ≡ gives m) where
          pub step-body : (k : ℕ) → body_of m.limit q.body_length (drop h http) ≡ refused k → o ≡ refused k
          unfolding step_with forward_of
          step-body k b = rw (e, f, r, w, b)

          module _ (b : Body) (t : body_of m.limit q.body_length (drop h http) ≡ gives b) where
            -- what is written
            abbrev forward : Forward
            forward = forward_by m (bytes_of l.settings (route_of m q.path) (meaning_of q.first q.fields b.body)) (h + b.used)

            pub step-written : o ≡ need (leb (length forward.scgi) room) 21 (gives forward)
            unfolding step_with forward_of
            step-written = rw (e, f, r, w, t)

-- The bytes that were written are those of the step.

pub answered-by :
    (f : Forward) (d after : List ℕ) (n : ℕ) → WrittenOut (in_room f.scgi (length d)) d after (Ok n)
    → Stepped (need (leb (length f.scgi) (length d)) 21 (gives f)) d after
    (Ok (record { written = n; pool = record { start = f.pool_start; len = f.pool_length }; used = f.used }))
answered-by f d after n x = by (leb (length f.scgi) (length d)) x.answer x.output
  where
    by :
        (t : Bool) → gives n ≡ then (need t 21 (gives f.scgi)) (λ s. gives (length s))
        → after ≡ output_after (need t 21 (gives f.scgi)) d
        → Stepped (need t 21 (gives f)) d after
        (Ok (record { written = n; pool = record { start = f.pool_start; len = f.pool_length }; used = f.used }))
    by true e p =
        let z : n ≡ length f.scgi = gives-once n _ e in
        record { answer = rw z; output = p }
    by false e p =
        let z : ◌≡◌ {A = ℕ} 0 1 = cc in
        absurd (omega arith)

-- .. or were refused
pub refused-by :
    (f : Forward) (d after : List ℕ) (k : Refusal) → WrittenOut (in_room f.scgi (length d)) d after (Err k)
    → Stepped (need (leb (length f.scgi) (length d)) 21 (gives f)) d after (Err k)
refused-by f d after k x = by (leb (length f.scgi) (length d)) x.answer x.output
  where
    by :
        (t : Bool) → refused (number_of k) ≡ then (need t 21 (gives f.scgi)) (λ s. gives (length s))
        → after ≡ output_after (need t 21 (gives f.scgi)) d
        → Stepped (need t 21 (gives f)) d after (Err k)
    by true e p =
        let z : ◌≡◌ {A = ℕ} 0 1 = cc in
        absurd (omega arith)
    by false e p =
        let z : number_of k ≡ 21 = cc in
        record { answer = rw z; output = p }

-- The mount that wins, by what the search says.

-- the mount that a search names by numbers: its name is the path's front
abbrev pub mount_by : List ℕ → MountPlace → Mount
mount_by path p = record { name = take p.name_len path; pool_start = p.pool.start; pool_length = p.pool.len; limit = p.limit }

module _ (mounts path : List ℕ) (ms : List Mount) (are : mounts_of mounts ≡ gives ms) where
  -- the search finds the mount that wins
  search-wins : search_of mounts path ≡ then (mount_for ms path) (λ m. gives (place_of m))
  search-wins = rw are (ap (λ (o : Option Mount). then (given o 19) (λ m. gives (place_of m))) (longest-wins ms path))

  pub lost : (k : Refusal) → mount_outcome (Err k) ≡ search_of mounts path → mount_for ms path ≡ refused (number_of k)
  lost k e = by (mount_of ms path) (e ∙ search-wins)
    where
      by : (w : Option Mount) → refused (number_of k) ≡ then (given w 19) (λ m. gives (place_of m)) → given w 19 ≡ refused (number_of k)
      by None q = cc
      by (Some m) q = cc

  pub record Won (p : MountPlace) : Type 0 where
    pub wins : mount_for ms path ≡ gives (mount_by path p)
    pub inside : p.name_len ≤ length path
    pub small : p.limit ≤ 1048576

  pub won : (p : MountPlace) → mount_outcome (Ok p) ≡ search_of mounts path → Won p
  won p e =
      let h = then-gives (mount_for ms path) (λ m. gives (place_of m)) _ (sym (e ∙ search-wins)) in
      let m : Mount = h.it in
      let q : place_of m ≡ p = gives-once _ _ h.next in
      let l : length m.name ≡ p.name_len = ap (λ (x : MountPlace). x.name_len) q in
      let t : m.name ++ drop (length m.name) path ≡ path = route-is-path ms path m (given-gives (mount_of ms path) 19 m h.first) in
      let f : take p.name_len path ≡ m.name =
      ap (λ (x : ℕ). take x path) (sym l) ∙ ap (take (length m.name)) (sym t) ∙ take-append_seam m.name (drop (length m.name) path) in
      let named = ap {B = Mount} (λ (x : List ℕ). record { name = x; pool_start = m.pool_start; pool_length = m.pool_length; limit = m.limit }) (sym f) in
      let placed = ap {B = Mount} (λ (x : MountPlace). record { name = take p.name_len path; pool_start = x.pool.start; pool_length = x.pool.len; limit = x.limit }) q in
      record {
        wins = h.first ∙ ap gives (named ∙ placed);
        inside = omega (arith, l, length-append m.name (drop (length m.name) path), ap length t);
        small = omega (arith, (winner mounts path ms m are h.first).of.small, ap (λ (x : MountPlace). x.limit) q);
      }

-- its route is the path, cut behind the name
pub route-by : (path : List ℕ) (p : MountPlace) → p.name_len ≤ length path → route_at path p.name_len ≡ route_of (mount_by path p) path
route-by path p h =
    ap (λ (k : ℕ). record { script_name = take p.name_len path; path_info = drop k path }) (sym (length-take-le p.name_len path h))

-- The block that was written is that of the variables.
module _ (s : Sources) (body : List ℕ) (p : MountPlace) where
  abbrev route : Route
  route = route_of (mount_by (path_in s.path.now s.line) p) (path_in s.path.now s.line)

  abbrev meaning : Meaning
  meaning = meaning_of (line_in s.head.now s.line) (fields_in s.head.now s.places.now s.fields) body

  pub block_is :
      s.name ≡ p.name_len → p.name_len ≤ length (path_in s.path.now s.line)
      → block_at s (length body) ≡ printed (variables (settings_at s.facts.now s.site.now s.settings) route meaning)
  unfolding fixed
  block_is n h =
      rw n
      (ap (λ (r : Route). printed (variables (settings_at s.facts.now s.site.now s.settings) r meaning)) (route-by (path_in s.path.now s.line) p h))

-- The body, by its length in the bytes after a head of h bytes.

module _ (most n : ℕ) (http : List ℕ) (h : ℕ) where
  -- as the code takes them
  abbrev after : List ℕ
  after = take (length http - h) (drop h http)

  read-there : body_of most n after ≡ body_of most n (drop h http)
  read-there = ap (body_of most n) (from http h)

  pub body_refused : (k : Refusal) → body_outcome (Err k) ≡ length_of most n after → body_of most n (drop h http) ≡ refused (number_of k)
  body_refused k e = sym read-there ∙ by (body_of most n after) e
    where
      by : (o : Outcome Body) → refused (number_of k) ≡ then o (λ b. gives b.used) → o ≡ refused (number_of k)
      by (refused m) q = cc
      by (gives b) q = cc

  pub record BodyThere (u : ℕ) : Type 0 where
    pub is : body_of most n (drop h http) ≡ gives (record { body = take u after; used = u })
    pub limit : u ≤ most
    pub inside : u ≤ length after

  pub body_there : (u : ℕ) → body_outcome (Ok u) ≡ length_of most n after → BodyThere u
  body_there u e =
      let g = then-gives (body_of most n after) (λ b. gives b.used) u (sym e) in
      let l = body-links most n after g.it g.first in
      let z : g.it.used ≡ u = gives-once g.it.used u g.next in
      let b : g.it ≡ record { body = take u after; used = u } =
      ap {B = Body} (λ (x : List ℕ). record { body = x; used = g.it.used }) l.is
      ∙ ap {B = Body} (λ (x : ℕ). record { body = take x after; used = x }) z in
      record { is = sym read-there ∙ g.first ∙ ap gives b; limit = omega (arith, l.limit); inside = omega (arith, l.there) }
