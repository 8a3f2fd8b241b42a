-- The numbers of oy_spool, and the lengths that it stores.
-- Assumes nothing.
use Rattle.std.specs.Prelude.{ℕ, ◌≡◌, List, [], ◌∷◌, length}
use Rattle.octets.specs.Outcome.{Outcome, gives, then}
use Rattle.framing.specs.Spool.{Ending, whole, cut, refused_by, full, Spool}
use Rattle.scgi.specs.Spool.{ending_refusal, requests_of}
use Rattle.scgi.specs.Write.{output_after}
use Rattle.capi.specs.Answer.{fitting, Answered}

-- the endings in the order in which they are tried: "whole at the end of the bytes, cut where the reader gives 1, refused N, list full"
abbrev pub ending_number : Ending → ℕ
ending_number whole = 0
ending_number cut = 1
ending_number (refused_by n) = 2
ending_number full = 3

-- "how many it stored and the ending"
abbrev pub spool_numbers : Spool → List ℕ
spool_numbers s = length s.lengths ∷ ending_number s.ending ∷ ending_refusal s.ending ∷ []

-- for a list of lengths with so much room. "These are endings": the call refuses no bytes
abbrev pub spool_gives : List ℕ → ℕ → Outcome (List ℕ)
spool_gives bytes room = gives (spool_numbers (requests_of bytes room))

-- what it stores in the list of lengths, where the answer's list has room
abbrev pub lengths_for : List ℕ → ℕ → List ℕ → Outcome (List ℕ)
lengths_for bytes room answer = then (fitting (spool_gives bytes room) answer) (λ ns. gives (requests_of bytes room).lengths)

-- "lengths stored before them stay, unused entries are unchanged"
pub record SpoolAnswered (bytes lengths lengths' answer answer' : List ℕ) (r : ℕ) : Type 0 where
  pub answers : Answered (spool_gives bytes (length lengths)) answer answer' r
  pub stored : lengths' ≡ output_after (lengths_for bytes (length lengths) answer) lengths
