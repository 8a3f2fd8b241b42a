-- The step's answer, and the output after it.
-- Assumes nothing.
use Rattle.std.specs.Prelude.{ℕ, min, ◌≤◌, ◌≡◌, Bool, true, List, leb, length, Result, Ok, Err}
use Rattle.octets.specs.Outcome.{Outcome, gives, then}
use Rattle.octets.specs.Refusal.{outcome}
use Rattle.octets.specs.declared.refusal.Refusal.{Refusal}
use Rattle.scgi.specs.Write.{output_after}
use Rattle.http_head.specs.Head.{head_of, head_outcome}
use Rattle.gateway.specs.Step.{Forward}
use Rattle.gateway.specs.declared.step.Written.{Written}

-- the step's answer in numbers: "The answer also names the pool and the bytes used."
abbrev pub answer_of : Forward → Written
answer_of f = record { written = length f.scgi; pool = record { start = f.pool_start; len = f.pool_length }; used = f.used }

-- what the code's answer says
abbrev pub stepping_outcome : Result Written Refusal → Outcome Written
stepping_outcome = outcome (λ w. w)

-- the answer r, and the output at exit, are those of what the step gives: "Success writes the first n bytes, reports n, and leaves the
-- rest"; a refusal "changes no byte of the output"
pub record Stepped (o : Outcome Forward) (before after : List ℕ) (r : Result Written Refusal) : Type 0 where
  pub answer : stepping_outcome r ≡ then o (λ f. gives (answer_of f))
  pub output : after ≡ output_after (then o (λ f. gives f.scgi)) before

-- whether a head is short, or there is none
abbrev pub is_short : Result ℕ Refusal → Bool
is_short (Ok n) = leb n 1024
is_short (Err e) = true

-- a buffer of so many bytes is long enough for the decoded path of a request whose head has n bytes
abbrev pub PathFits : Result ℕ Refusal → ℕ → Type 0
PathFits (Ok n) room = min n 4096 ≤ room
PathFits (Err e) room = Unit {0}

-- what is known of the head of a request, and of the buffer
pub record HeadKnown (http : List ℕ) (h : Result ℕ Refusal) (room : ℕ) : Type 0 where
  pub answer : head_outcome h ≡ head_of http
  pub path : PathFits h room
