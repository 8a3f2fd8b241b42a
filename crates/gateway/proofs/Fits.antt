-- The variables of every accepted request stay within the limits of a block.
-- Assumes nothing.
use Prim.Native.Nat.{ℕ, ◌+◌, ◌≤◌}
use mathlib.Core.Path.{◌≡◌, ap}
use mathlib.Core.List.{List}
use native.Mathlib.Omega.{arith}
use lib.ListN.{length, length-append}
use Rattle.octets.specs.Outcome.{gives}
use Rattle.octets.proofs.Outcomes.{given-gives}
use Rattle.headers.specs.Block.{Header, printed}
use Rattle.mounts.specs.Mounts.{Mount, Route, mount_of, mount_for, route_of}
use Rattle.lent.specs.Lent.{Lent, lent_of}
use Rattle.mounts.proofs.Claims.{route-is-path}
use Rattle.lent.proofs.Claims.{settings-fit}
use Rattle.request.specs.Request.{Request, request_of}
use Rattle.request.proofs.Claims.{requests-obey}
use Rattle.variables.specs.Meaning.{meaning_of}
use Rattle.variables.specs.Variables.{variables}
use Rattle.variables.specs.Claims.{bound_of}
use Rattle.variables.proofs.Claims.{meaning-is-proper, variables-few, variables-take}
use Rattle.gateway.specs.Claims.{VariablesFit}

module _
    (facts site mounts head body : List ℕ) (l : Lent) (q : Request) (m : Mount) (e : lent_of facts site mounts ≡ gives l)
    (request : request_of head ≡ gives q) (wins : mount_for l.mounts q.path ≡ gives m) (size : length body ≤ 1048576) where
  abbrev r : Route
  r = route_of m q.path

  abbrev hs : List Header
  hs = variables l.settings r (meaning_of q.first q.fields body)

  abbrev pub bound : ℕ
  bound = bound_of (length facts + length site) (length head) (length q.first.target) (length q.fields)

  pub bound-holds : length (printed hs) ≤ bound
  bound-holds =
      let path = route-is-path l.mounts q.path m (given-gives (mount_of l.mounts q.path) 19 m wins) in
      let t = variables-take l.settings head body q r request (omega (arith, simp length-append at (ap length path))) size in
      omega (arith, t, (settings-fit facts site mounts l e).size)

  pub bound-limit : length head ≤ 8188 → bound ≤ 14726
  bound-limit limit =
      let s = settings-fit facts site mounts l e in
      let o = requests-obey head q request in
      omega (arith, s.facts_limit, s.site_limit, o.target_obeys.raw.short, o.fields_few)

  pub few : length hs ≤ 80
  few = omega (arith, variables-few l.settings r (meaning_of q.first q.fields body), (meaning-is-proper head body q request).few)

pub variables-fit : VariablesFit
variables-fit facts site mounts head body l q m e limit request wins size =
    let b = bound-holds facts site mounts head body l q m e request wins size in
    record {
      bytes = omega (arith, b, bound-limit facts site mounts head body l q m e request wins size limit);
      count = few facts site mounts head body l q m e request wins size;
    }
