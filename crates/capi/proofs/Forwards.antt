-- Laws of what oy_gateway gives and writes.
-- Assumes nothing.
use Rattle.std.proofs.Common.{ℕ, ◌≡◌, ◌≤◌, ◌<◌, List, [], ◌∷◌, length, sym, ap, ◌∙◌, Result, Ok, Err}
use borrow.Author.Tests.{le-leb}
use Rattle.octets.specs.Outcome.{refused, gives}
use Rattle.octets.specs.Refusal.{number_of}
use Rattle.octets.proofs.Outcomes.{gives-once, then-gives}
use Rattle.octets.specs.declared.refusal.Refusal.{Refusal}
use Rattle.lent.specs.Lent.{lent_of}
use Rattle.gateway.specs.Step.{forward_of, step_of}
use Rattle.gateway.specs.Stepping.{answer_of, Stepped}
use Rattle.gateway.specs.declared.step.Written.{Written}
use Rattle.gateway.proofs.Claims.{room-is-last}
use Rattle.capi.specs.Answer.{fitting, returned, Answered, untold}
use Rattle.capi.specs.Forward.{forward_numbers, gateway_gives, GatewayAnswered}
use Rattle.capi.proofs.Answers.{due_number, refused-with, untold-due, untold-all}

module _ (facts site mounts http d after : List ℕ) where
  -- the number that is due where the numbers have no room
  pub due :
      (s : Result Written Refusal) → Stepped (step_of facts site mounts http (length d)) d after s
      → due_number s ≡ returned (untold (forward_of (lent_of facts site mounts) http))
  due s x =
      untold-due (λ f. f.scgi) answer_of (λ w. w) (forward_of (lent_of facts site mounts) http) (length d) s
      (x.answer ∙ rw (room-is-last facts site mounts http (length d)))

  -- the step refused: so does the call
  pub step-refused :
      (answer : List ℕ) (k : Refusal) → Stepped (step_of facts site mounts http (length d)) d after (Err k)
      → GatewayAnswered facts site mounts http d after answer answer (number_of k)
  step-refused answer k x =
      let r : step_of facts site mounts http (length d) ≡ refused (number_of k) = refused-with answer_of _ _ x.answer in
      record { answers = record { number = rw r; list = rw r }; output = x.output ∙ rw r }

  -- the step wrote, and its numbers are told
  pub step-told :
      (answer : List ℕ) → 4 ≤ length answer → (w : Written) → Stepped (step_of facts site mounts http (length d)) d after (Ok w)
      → (answer' : List ℕ) (r : ℕ) → Answered (gives (w.written ∷ w.pool.start ∷ w.pool.len ∷ w.used ∷ [])) answer answer' r
      → GatewayAnswered facts site mounts http d after answer answer' r
  step-told answer h w x answer' r a =
      let g = then-gives (step_of facts site mounts http (length d)) (λ f. gives (answer_of f)) w (sym x.answer) in
      let z : answer_of g.it ≡ w = gives-once _ _ g.next in
      let c : forward_numbers g.it ≡ w.written ∷ w.pool.start ∷ w.pool.len ∷ w.used ∷ [] =
      ap (λ (t : Written). t.written ∷ t.pool.start ∷ t.pool.len ∷ t.used ∷ []) z in
      let t : Answered (gives (forward_numbers g.it)) answer answer' r = rw c a in
      record { answers = rw g.first t; output = x.output ∙ rw (g.first, le-leb 4 (length answer) h) }

-- the answer has no room for the numbers: nothing is changed
pub no_room :
    (facts site mounts http out answer : List ℕ) → length answer < 4 → (r : ℕ)
    → r ≡ returned (untold (forward_of (lent_of facts site mounts) http)) → GatewayAnswered facts site mounts http out out answer answer r
no_room facts site mounts http out answer h r e =
    let u : fitting (gateway_gives facts site mounts http (length out)) answer ≡ refused (returned (untold (forward_of (lent_of facts site mounts) http))) =
    rw (room-is-last facts site mounts http (length out))
    (untold-all (λ f. f.scgi) forward_numbers (forward_of (lent_of facts site mounts) http) (length out) answer (λ f. h)) in
    record { answers = record { number = rw u e; list = rw u }; output = rw u }
