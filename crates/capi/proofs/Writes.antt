-- Laws of what oy_scgi_write gives and writes.
-- Assumes nothing.
use Rattle.std.proofs.Common.{ℕ, ◌≡◌, ◌≤◌, ◌<◌, List, [], ◌∷◌, length, sym, ap, ◌∙◌, Result, Ok, Err}
use borrow.Author.Tests.{le-leb}
use Rattle.octets.specs.Outcome.{refused, gives}
use Rattle.octets.specs.Refusal.{number_of}
use Rattle.octets.proofs.Outcomes.{gives-once, then-gives}
use Rattle.octets.specs.declared.refusal.Refusal.{Refusal}
use Rattle.scgi.specs.Write.{to_write, write_of, Written}
use Rattle.scgi.proofs.Claims.{room-is-last}
use Rattle.capi.specs.Answer.{fitting, returned, Answered, untold}
use Rattle.capi.specs.Write.{count_numbers, write_gives, WriteAnswered}
use Rattle.capi.proofs.Answers.{due_number, refused-with, untold-due, untold-all}

module _ (block body d after : List ℕ) where
  -- the number that is due where the count has no room
  pub due : (w : Result ℕ Refusal) → Written block body d after w → due_number w ≡ returned (untold (to_write block body))
  due w x = untold-due (λ v. v) length (λ n. n) (to_write block body) (length d) w (x.answer ∙ rw (room-is-last block body (length d)))

  -- the writer refused: so does the call
  pub write-refused : (answer : List ℕ) (k : Refusal) → Written block body d after (Err k) → WriteAnswered block body d after answer answer (number_of k)
  write-refused answer k x =
      let r : write_of block body (length d) ≡ refused (number_of k) = refused-with length _ _ x.answer in
      record { answers = record { number = rw r; list = rw r }; output = x.output ∙ rw r }

  -- the writer wrote, and its count is told
  pub write-told :
      (answer : List ℕ) → 1 ≤ length answer → (n : ℕ) → Written block body d after (Ok n) → (answer' : List ℕ) (r : ℕ)
      → Answered (gives (n ∷ [])) answer answer' r → WriteAnswered block body d after answer answer' r
  write-told answer h n x answer' r a =
      let g = then-gives (write_of block body (length d)) (λ v. gives (length v)) n (sym x.answer) in
      let z : length g.it ≡ n = gives-once _ _ g.next in
      let c : count_numbers g.it ≡ n ∷ [] = ap (λ (m : ℕ). m ∷ []) z in
      let t : Answered (gives (count_numbers g.it)) answer answer' r = rw c a in
      record { answers = rw g.first t; output = x.output ∙ rw (g.first, le-leb 1 (length answer) h) }

-- the answer has no room for the count: nothing is changed
pub no_room :
    (block body out answer : List ℕ) → length answer < 1 → (r : ℕ) → r ≡ returned (untold (to_write block body))
    → WriteAnswered block body out out answer answer r
no_room block body out answer h r e =
    let u : fitting (write_gives block body (length out)) answer ≡ refused (returned (untold (to_write block body))) =
    rw (room-is-last block body (length out)) (untold-all (λ v. v) count_numbers (to_write block body) (length out) answer (λ w. h)) in
    record { answers = record { number = rw u e; list = rw u }; output = rw u }
