-- What is written for an accepted request: its meaning's variables and body, a request of the SCGI text.
-- Assumes nothing.
use Prim.Native.Nat.{ℕ, ◌+◌, ◌-◌, ◌≤◌}
use mathlib.Core.Path.{◌≡◌, refl, ap, ◌∙◌}
use mathlib.Core.List.{List}
use native.Mathlib.Omega.{arith}
use lib.ListN.{length, take, drop, length-take}
use Rattle.octets.specs.Outcome.{gives}
use Rattle.octets.specs.Decimal.{plain}
use Rattle.octets.proofs.Alls.{all_after}
use Rattle.octets.proofs.Decimals.{ten-digits}
use Rattle.headers.specs.Block.{here, later}
use Rattle.scgi.specs.Grammar.{first, IsRequest}
use Rattle.http_head.proofs.Claims.{heads-hold}
use Rattle.targets.specs.Target.{Target, target_of}
use Rattle.mounts.specs.Mounts.{Mount, Route, mount_for, route_of}
use Rattle.lent.specs.Lent.{Lent, lent_of}
use Rattle.lent.proofs.Claims.{lent-is-proper, lent-mounts}
use Rattle.request.specs.Claims.{Obeys}
use Rattle.request.proofs.Claims.{requests-obey}
use Rattle.variables.specs.Meaning.{Meaning, meaning_of}
use Rattle.variables.specs.Variables.{fixed, variables}
use Rattle.variables.specs.Claims.{ProperMeaning, ProperRoute}
use Rattle.variables.proofs.Claims.{meaning-is-proper, variables-are-headers}
use Rattle.gateway.specs.Step.{bytes_of, Forward, forward_by, meaning_at, forward_of}
use Rattle.gateway.specs.Claims.{Small}
use Rattle.gateway.proofs.Winners.{Winner, winner}
use Rattle.gateway.proofs.Links.{body-links, body_length, body-wider, Links, links}
use Rattle.gateway.proofs.Fits.{variables-fit}

-- what holds of what is written for an accepted request: its bytes, and its pool
pub record Account (k : Lent) (http : List ℕ) (f : Forward) : Type 0 where
  pub meaning : Meaning
  pub target : Target
  pub mount : Mount
  pub means : meaning_at http ≡ gives meaning
  pub is_target : target_of meaning.target ≡ gives target
  pub wins : mount_for k.mounts target.path ≡ gives mount
  pub pool : (f.pool_start ≡ mount.pool_start) × (f.pool_length ≡ mount.pool_length)
  pub within : length meaning.body ≤ mount.limit
  pub proper : ProperMeaning meaning
  pub request : IsRequest (variables k.settings (route_of mount target.path) meaning) meaning.body
  pub bytes : f.scgi ≡ bytes_of k.settings (route_of mount target.path) meaning

module _
    (facts site mounts : List ℕ) (k : Lent) (is : lent_of facts site mounts ≡ gives k) (http : List ℕ) (f : Forward) (l : Links k http f) where
  won : Winner mounts l.m
  won = winner mounts l.q.path k.mounts l.m (lent-mounts facts site mounts k is) l.mount

  abbrev meaning : Meaning
  meaning = meaning_of l.q.first l.q.fields l.b.body

  o : Obeys (take (l.h - 4) http) l.q
  o = requests-obey (take (l.h - 4) http) l.q l.request

  abbrev route : Route
  route = route_of l.m o.target.path

  within : length meaning.body ≤ l.m.limit
  within = body_length _ _ l.b (body-links l.m.limit l.q.body_length (drop l.h http) l.b l.body)

  proper : ProperMeaning meaning
  proper = meaning-is-proper (take (l.h - 4) http) l.b.body l.q l.request

  route-proper : ProperRoute route
  route-proper =
      record {
        script_name = won.of.no_nul;
        path_info = all_after (length l.m.name) o.target.path o.target_obeys.path_no_nul;
      }

  means : meaning_at http ≡ gives meaning
  unfolding meaning_at
  means = rw (l.head, l.request, body-wider l.m.limit 1048576 l.q.body_length (drop l.h http) l.b won.of.small l.body)

  wins : mount_for k.mounts o.target.path ≡ gives l.m
  wins = rw (← o.path, l.mount)

  -- the links speak of the path that was kept with the request
  written : f ≡ forward_by l.m (bytes_of k.settings route meaning) (l.h + l.b.used)
  written = l.written ∙ ap (λ (p : List ℕ). forward_by l.m (bytes_of k.settings (route_of l.m p) meaning) (l.h + l.b.used)) o.path

  body_limit : length meaning.body ≤ 1048576
  body_limit = omega (arith, within, won.of.small)

  fits : Small (variables k.settings route meaning)
  fits =
      let limit : length (take (l.h - 4) http) ≤ 8188 = simp length-take (omega (arith, (heads-hold.within http l.h l.head).limit)) in
      rw o.path at (variables-fit facts site mounts (take (l.h - 4) http) l.b.body k l.q l.m is limit l.request l.mount body_limit)

  request : IsRequest (variables k.settings route meaning) meaning.body
  unfolding fixed
  request =
      let v = variables-are-headers k.settings route meaning (lent-is-proper facts site mounts k is) route-proper proper in
      record {
        proper = v.proper;
        differ = v.differ;
        states = first refl plain (ten-digits (length meaning.body) (omega (arith, body_limit)));
        scgi = later here;
        block_limit = omega (arith, fits.bytes);
        header_limit = omega (arith, fits.count);
        body_limit = body_limit;
      }

  pub account-at : Account k http f
  account-at =
      record {
        meaning = meaning;
        target = o.target;
        mount = l.m;
        means = means;
        is_target = o.target_read;
        wins = wins;
        within = within;
        pool = (ap (λ (x : Forward). x.pool_start) written, ap (λ (x : Forward). x.pool_length) written);
        proper = proper;
        request = request;
        bytes = ap (λ (x : Forward). x.scgi) written;
      }

pub account :
    (facts site mounts : List ℕ) (k : Lent) → lent_of facts site mounts ≡ gives k → (http : List ℕ) (f : Forward) → forward_of (gives k) http ≡ gives f
    → Account k http f
account facts site mounts k is http f e = account-at facts site mounts k is http f (links k http f e)
