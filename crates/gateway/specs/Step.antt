-- The step from an HTTP request to SCGI bytes, in 01's order of refusals.
-- Assumes nothing.
use Rattle.std.specs.Prelude.{ℕ, ◌+◌, ◌-◌, List, leb, length, take, drop}
use Rattle.octets.specs.Outcome.{Outcome, gives, then, need}
use Rattle.scgi.specs.Grammar.{encoded}
use Rattle.http_head.specs.Head.{head_of}
use Rattle.lent.specs.Settings.{Settings}
use Rattle.mounts.specs.Mounts.{Mount, Route, mount_for, route_of}
use Rattle.lent.specs.Lent.{Lent, lent_of}
use Rattle.request.specs.Request.{request_of}
use Rattle.variables.specs.Meaning.{Meaning, meaning_of}
use Rattle.variables.specs.Variables.{variables}
use Rattle.gateway.specs.Body.{body_of}

-- "the block of the variables in their order as netstring, then the body of the meaning"
abbrev pub bytes_of : Settings → Route → Meaning → List ℕ
bytes_of s r m = encoded (variables s r m) m.body

-- the meaning of the request at the front of the HTTP bytes; nothing that is lent takes part in it, so that its body is read with the limit
-- that no mount's is above
unfoldable pub meaning_at : List ℕ → Outcome Meaning
meaning_at http =
    then (head_of http) (λ h.
    then (request_of (take (h - 4) http)) (λ q.
    then (body_of 1048576 q.body_length (drop h http)) (λ b.
    gives (meaning_of q.first q.fields b.body))))

-- the step's answer: the SCGI bytes; "The answer also names the pool and the bytes used.": the pool by its place in the mounts block
pub record Forward : Type 0 where
  pub scgi : List ℕ
  pub pool_start : ℕ
  pub pool_length : ℕ
  pub used : ℕ

-- .. for these bytes, under the mount m
abbrev pub forward_by : Mount → List ℕ → ℕ → Forward
forward_by m scgi used = record { scgi = scgi; pool_start = m.pool_start; pool_length = m.pool_length; used = used }

-- "Order: 20; then 11 or 1; 12; 13; 14; 15; 16; 17; 18; 19; 9; 1 for a short body": what is to be written, whatever the room. 02 §13: 9 by
-- the limit of the mount that wins. 02 §10: no 22, since the variables of every accepted request fit (`VariablesFit`); "keep the number
-- unused"
unfoldable pub forward_of : Outcome Lent → List ℕ → Outcome Forward
forward_of lent http =
    then lent (λ l.
    then (head_of http) (λ h.
    then (request_of (take (h - 4) http)) (λ q.
    then (mount_for l.mounts q.path) (λ m.
    then (body_of m.limit q.body_length (drop h http)) (λ b.
    let meaning = meaning_of q.first q.fields b.body in
    gives (forward_by m (bytes_of l.settings (route_of m q.path) meaning) (h + b.used)))))))

-- ".. 21": "output shorter than the bytes to be written", for an output of `room` bytes
unfoldable pub step_with : Outcome Lent → List ℕ → ℕ → Outcome Forward
step_with lent http room = then (forward_of lent http) (λ f. need (leb (length f.scgi) room) 21 (gives f))

-- the step from an HTTP request, under the three blocks that are lent
abbrev pub step_of : (facts site mounts http : List ℕ) (room : ℕ) → Outcome Forward
step_of facts site mounts http room = step_with (lent_of facts site mounts) http room

-- a request's byte length, for requests that stand end to end: the bytes used of a request that is accepted in room enough
abbrev pub used_by : Outcome Lent → List ℕ → Outcome ℕ
used_by lent http = then (forward_of lent http) (λ f. gives f.used)
