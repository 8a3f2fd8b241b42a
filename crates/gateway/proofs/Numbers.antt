-- Which numbers the step can give.
-- Assumes nothing.
use Prim.Native.Nat.{ℕ, ◌-◌}
use mathlib.Core.Path.{refl}
use mathlib.Core.List.{List, [], ◌∷◌}
use lib.Dec.{leb}
use lib.ListN.{length, take, drop}
use Rattle.octets.specs.Outcome.{Outcome}
use Rattle.octets.specs.Scan.{all_of}
use Rattle.octets.proofs.Refusals.{Refuses, not_refused, number-of, refuses-within, refuses-only, refuses-then, refuses-need, refuses-given}
use Rattle.http_head.specs.Head.{head_of}
use Rattle.http_head.proofs.Claims as Http
use Rattle.mounts.specs.Mounts.{mount_of}
use Rattle.lent.specs.Lent.{Lent, lent_of}
use Rattle.lent.proofs.Claims.{lent-number}
use Rattle.request.specs.Request.{request_of}
use Rattle.request.specs.Claims.{request_numbers}
use Rattle.request.proofs.Claims as Request
use Rattle.gateway.specs.Body.{body_of}
use Rattle.gateway.specs.Step.{forward_of, step_with}
use Rattle.gateway.specs.Claims.{step_numbers, NumbersHold}

head-numbers : (http : List ℕ) → Refuses step_numbers (head_of http)
unfolding all_of
head-numbers http = refuses-within (1 ∷ 11 ∷ []) refl (head_of http) ((Http.numbers-hold).head http)

request-numbers : (head : List ℕ) → Refuses step_numbers (request_of head)
unfolding all_of
request-numbers head = refuses-within request_numbers refl (request_of head) (Request.numbers-hold head)

body-numbers : (most n : ℕ) (s : List ℕ) → Refuses step_numbers (body_of most n s)
unfolding body_of
body-numbers most n s = refuses-need (leb n most) 9 refl (refuses-need (leb n (length s)) 1 refl not_refused)

lent-numbers : (facts site mounts : List ℕ) → Refuses step_numbers (lent_of facts site mounts)
lent-numbers facts site mounts = refuses-only (lent_of facts site mounts) 20 refl (lent-number facts site mounts)

forward-numbers : (lent : Outcome Lent) → Refuses step_numbers lent → (http : List ℕ) → Refuses step_numbers (forward_of lent http)
unfolding forward_of
forward-numbers lent number http =
    refuses-then number
    (λ k. refuses-then (head-numbers http)
    (λ h. refuses-then (request-numbers (take (h - 4) http))
    (λ q. refuses-then (refuses-given (mount_of k.mounts q.path) 19 refl)
    (λ m. refuses-then (body-numbers m.limit q.body_length (drop h http))
    (λ b. not_refused)))))

pub numbers-hold : NumbersHold
unfolding step_with
numbers-hold facts site mounts http room n e =
    number-of n
    (refuses-then (forward-numbers (lent_of facts site mounts) (lent-numbers facts site mounts) http)
    (λ f. refuses-need (leb (length f.scgi) room) 21 refl not_refused))
    e
