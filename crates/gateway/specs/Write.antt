-- For the code that writes a request's SCGI bytes: what it must know, and what it leaves.
-- Assumes nothing.
use Rattle.std.specs.Prelude.{ℕ, ◌+◌, ◌≤◌, List, ◌++◌, length, Result}
use Rattle.octets.specs.declared.refusal.Refusal.{Refusal}
use Rattle.scgi.specs.Grammar.{netstring}
use Rattle.scgi.specs.Write.{in_room, WrittenOut}
use Rattle.variables.specs.Block.{block_at, PlacesKnown}
use Rattle.variables.specs.Claims.{bound_of}
use Rattle.variables.specs.declared.sources.Sources.{Sources}

-- what a request's variables are made of, and its body
module _ (s : Sources) (body : List ℕ) where
  -- the bytes of the variables
  abbrev pub block_for : List ℕ
  block_for = block_at s (length body)

  -- how many they are at most, by lengths that are at hand before they are written
  abbrev pub bound_for : ℕ
  bound_for = bound_of (length s.facts.now + length s.site.now) (length s.head.now) s.line.target.len s.fields.count

  pub record RequestFits : Type 0 where
    pub known : PlacesKnown s
    pub small : length body ≤ 1048576
    pub bound : length block_for ≤ bound_for
    pub limit : bound_for ≤ 14726

  -- a buffer of `room` bytes is long enough for them, and no longer than a block
  pub record BlockRoom (room : ℕ) : Type 0 where
    pub known : PlacesKnown s
    pub small : length body ≤ 1048576
    pub fits : length block_for ≤ room
    pub limit : room ≤ 16384

  -- 21: the output before and after, and the answer
  abbrev pub RequestWritten : List ℕ → List ℕ → Result ℕ Refusal → Type 0
  RequestWritten before after r = WrittenOut (in_room (netstring block_for ++ body) (length before)) before after r
