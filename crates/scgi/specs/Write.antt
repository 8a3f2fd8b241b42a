-- The writer of SCGI requests.
-- Assumes nothing.
use Rattle.std.specs.Prelude.{Result, ℕ, ◌≡◌, List, ◌++◌, eqb, leb, length, drop}
use Rattle.octets.specs.Outcome.{Outcome, refused, gives, then, need}
use Rattle.octets.specs.Refusal.{outcome}
use Rattle.octets.specs.declared.refusal.Refusal.{Refusal}
use Rattle.scgi.specs.Grammar.{netstring}
use Rattle.scgi.specs.Check.{check_block}

-- the writer's order up to 23, "The writer takes a block and a body": gives the bytes to be written
unfoldable pub to_write : List ℕ → List ℕ → Outcome (List ℕ)
to_write block body =
    need (leb (length block) 16384) 3
    (then (check_block block) (λ n.
    need (eqb (length body) n) 23 (gives (netstring block ++ body))))

-- 21: "output shorter than the bytes to be written", for an output of `room` bytes
abbrev pub in_room : List ℕ → ℕ → Outcome (List ℕ)
in_room w room = need (leb (length w) room) 21 (gives w)

-- "Its order is 3, 5, 6, 7, 8, 9, 10, 23, 21"
unfoldable pub write_of : List ℕ → List ℕ → ℕ → Outcome (List ℕ)
write_of block body room = then (to_write block body) (λ w. in_room w room)

-- what the code's answer says
abbrev pub writing_outcome : Result ℕ Refusal → Outcome ℕ
writing_outcome = outcome (λ n. n)

-- "Success writes the first n bytes, reports n, and leaves the rest"; a refusal "changes no byte of the output"
abbrev pub output_after : Outcome (List ℕ) → List ℕ → List ℕ
output_after (refused n) d = d
output_after (gives w) d = w ++ drop (length w) d

-- of the bytes that are to be written, or the refusal: what the answer r says, and what the output is after it
pub record WrittenOut (o : Outcome (List ℕ)) (before after : List ℕ) (r : Result ℕ Refusal) : Type 0 where
  pub answer : writing_outcome r ≡ then o (λ w. gives (length w))
  pub output : after ≡ output_after o before

abbrev pub Written : (block body before after : List ℕ) → Result ℕ Refusal → Type 0
Written block body before after r = WrittenOut (write_of block body (length before)) before after r
