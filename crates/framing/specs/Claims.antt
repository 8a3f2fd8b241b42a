-- What is claimed of spools, for any reader with the laws below.
-- Assumes nothing.
use Rattle.std.specs.Prelude.{ℕ, ◌+◌, ◌-◌, ◌≤◌, ◌<◌, ◌≡◌, cond, List, ◌++◌, length, take, drop, eqb}
use Rattle.octets.specs.Outcome.{refused, gives}
use Rattle.framing.specs.Spool.{Reader, Requests, joined, whole_before, total, spool_of, behind, whole, cut}

-- the laws of a reader that frames: more bytes keep an answer, "cut: the bytes end before the request does" is 1, and a request
-- has a byte or more, all of them there
pub record Frames (read : Reader) : Type 0 where
  pub more : (s t : List ℕ) (u : ℕ) → read s ≡ gives u → read (s ++ t) ≡ gives u
  pub short : (s : List ℕ) (k : ℕ) → read s ≡ gives (length s) → k < length s → read (take k s) ≡ refused 1
  pub within : (s : List ℕ) (u : ℕ) → read s ≡ gives u → (0 < u) × (u ≤ length s)

-- two lists whose spools have equal bytes are the same list
abbrev pub SpoolsEqual : Reader → Type 0
SpoolsEqual read = (rs ss : List (List ℕ)) → Requests read rs → Requests read ss → joined rs ≡ joined ss → rs ≡ ss

-- wherever a spool is cut, the call gives exactly the requests that lie whole before the cut, and "cut" exactly where bytes are left over, for
-- "a lent list with room for every request that lies whole before the cut"; "one claim over every list and every k"
abbrev pub SpoolCut : Reader → Type 0
SpoolCut read =
    (rs : List (List ℕ)) (k room : ℕ) → Requests read rs → k ≤ length (joined rs) → length (whole_before k rs) ≤ room
    → spool_of read room (take k (joined rs)) ≡ record { lengths = whole_before k rs; ending = cond (eqb k (total (whole_before k rs))) whole cut }

-- what justifies reading a spool through a window: whatever some bytes s gave, with a list of some room, the answer over more bytes and with
-- more room is the requests found so far, followed by the answer over the bytes left over and the new ones
abbrev pub SpoolGoesOn : Reader → Type 0
SpoolGoesOn read =
    (s t : List ℕ) (room more : ℕ)
    → (let found = (spool_of read room s).lengths in
    spool_of read (room + more) (s ++ t) ≡ behind found (spool_of read (room + more - length found) (drop (total found) s ++ t)))
