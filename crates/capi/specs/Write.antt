-- The number of oy_scgi_write, and the output that it leaves.
-- Assumes nothing.
use Rattle.std.specs.Prelude.{ℕ, ◌≡◌, List, [], ◌∷◌, length}
use Rattle.octets.specs.Outcome.{Outcome, gives, then}
use Rattle.scgi.specs.Write.{write_of, output_after}
use Rattle.capi.specs.Answer.{fitting, Answered}

-- "reports n"
abbrev pub count_numbers : List ℕ → List ℕ
count_numbers w = length w ∷ []

-- for an output of `room` bytes
abbrev pub write_gives : List ℕ → List ℕ → ℕ → Outcome (List ℕ)
write_gives block body room = then (write_of block body room) (λ w. gives (count_numbers w))

-- what is written: the writer's bytes, where the answer's list has room for their count
abbrev pub bytes_for : List ℕ → List ℕ → ℕ → List ℕ → Outcome (List ℕ)
bytes_for block body room answer = then (fitting (write_gives block body room) answer) (λ ns. write_of block body room)

-- "Success writes the first n bytes, reports n, and leaves the rest"
pub record WriteAnswered (block body out out' answer answer' : List ℕ) (r : ℕ) : Type 0 where
  pub answers : Answered (write_gives block body (length out)) answer answer' r
  pub output : out' ≡ output_after (bytes_for block body (length out) answer) out
