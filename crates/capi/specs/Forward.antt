-- The numbers of oy_gateway, and the output that it leaves.
-- Assumes nothing.
use Rattle.std.specs.Prelude.{ℕ, ◌≡◌, List, [], ◌∷◌, length}
use Rattle.octets.specs.Outcome.{Outcome, gives, then}
use Rattle.scgi.specs.Write.{output_after}
use Rattle.gateway.specs.Step.{Forward, step_of}
use Rattle.capi.specs.Answer.{fitting, Answered}

-- "reports n", and "The answer also names the pool and the bytes used": the pool by its place in the mounts
abbrev pub forward_numbers : Forward → List ℕ
forward_numbers f = length f.scgi ∷ f.pool_start ∷ f.pool_length ∷ f.used ∷ []

-- Of the three blocks and the HTTP bytes, for an output of `room` bytes.
module _ (facts site mounts http : List ℕ) where
  abbrev pub gateway_gives : ℕ → Outcome (List ℕ)
  gateway_gives room = then (step_of facts site mounts http room) (λ f. gives (forward_numbers f))

  -- what is written: the step's bytes, where the answer's list has room for the numbers
  abbrev pub scgi_for : ℕ → List ℕ → Outcome (List ℕ)
  scgi_for room answer = then (fitting (gateway_gives room) answer) (λ ns. then (step_of facts site mounts http room) (λ f. gives f.scgi))

  -- "Success writes the first n bytes, reports n, and leaves the rest"
  pub record GatewayAnswered (out out' answer answer' : List ℕ) (r : ℕ) : Type 0 where
    pub answers : Answered (gateway_gives (length out)) answer answer' r
    pub output : out' ≡ output_after (scgi_for (length out) answer) out
