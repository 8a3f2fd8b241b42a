-- Requests that stand end to end, read by any reader.
-- Assumes nothing.
use Rattle.std.specs.Prelude.{ℕ, zero, suc, ◌+◌, ◌-◌, ◌≡◌, cond, List, [], ◌∷◌, ◌++◌, length, drop, eqb, leb}
use Rattle.octets.specs.Outcome.{Outcome, refused, gives}

-- how a spool ends: "whole at the end of the bytes, cut where the reader gives 1, refused N, list full"
pub data Ending : Type 0 where
  whole : Ending
  cut : Ending
  refused_by : ℕ → Ending
  full : Ending

-- the spool call's answer: "how many it stored and the ending", and the numbers that it stored
pub record Spool : Type 0 where
  pub lengths : List ℕ
  pub ending : Ending

-- no request before the ending
abbrev pub ended : Ending → Spool
ended e = record { lengths = []; ending = e }

-- a request of n bytes before what follows it: "lengths stored before them stay"
abbrev pub before : ℕ → Spool → Spool
before n s = record { lengths = n ∷ s.lengths; ending = s.ending }

-- requests of the lengths ls before what follows them
abbrev pub behind : List ℕ → Spool → Spool
behind ls s = record { lengths = ls ++ s.lengths; ending = s.ending }

-- a reader: how many bytes the request at the front has, or a refusal; "A request in a spool is exactly the bytes that the reader counts as used"
abbrev pub Reader : Type 0
Reader = List ℕ → Outcome ℕ

-- what the reader's answer makes of a spool, where `rest` is the answer over the bytes behind the request: "tried in this order before each
-- request: whole at the end of the bytes, cut where the reader gives 1, refused N, list full"
abbrev pub after_read : Outcome ℕ → ℕ → (ℕ → ℕ → Spool) → Spool
after_read (refused n) room rest = cond (eqb n 1) (ended cut) (ended (refused_by n))
after_read (gives u) zero rest = ended full
after_read (gives u) (suc room) rest = before u (rest room u)

-- the spool's requests, at most `room` of them; fuel is any number above the bytes
unfoldable pub spool_in : Reader → ℕ → ℕ → List ℕ → Spool
spool_in read zero room s = ended whole
spool_in read (suc fuel) room [] = ended whole
spool_in read (suc fuel) room (b ∷ s) = after_read (read (b ∷ s)) room (λ left u. spool_in read fuel left (drop u (b ∷ s)))

-- "a proved call over a spool in a lent buffer. It stores each request's byte length in a lent list"; `room` is the length of that list
unfoldable pub spool_of : Reader → ℕ → List ℕ → Spool
spool_of read room s = spool_in read (suc (length s)) room s

-- requests end to end
unfoldable pub joined : List (List ℕ) → List ℕ
joined [] = []
joined (r ∷ rs) = r ++ joined rs

-- the lengths of the requests that lie whole before the cut k: "A request lies whole before the cut if its last byte is among those k"
unfoldable pub whole_before : ℕ → List (List ℕ) → List ℕ
whole_before k [] = []
whole_before k (r ∷ rs) = cond (leb (length r) k) (length r ∷ whole_before (k - length r) rs) []

-- the bytes of requests of these lengths; "the bytes of the k that are in no such request are left over"
unfoldable pub total : List ℕ → ℕ
total [] = 0
total (n ∷ ns) = n + total ns

-- each of them is a request, whole, to the reader
pub data Requests (read : Reader) : List (List ℕ) → Type 0 where
  none : Requests read []
  one : {r : List ℕ} {rs : List (List ℕ)} → read r ≡ gives (length r) → Requests read rs → Requests read (r ∷ rs)
