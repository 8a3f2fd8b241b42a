-- What every block is that the gateway is lent; and what the code's answer says of it and of the list for the places of its names.
-- Assumes nothing.
use Rattle.std.specs.Prelude.{ℕ, ◌≤◌, ◌≡◌, Bool, false, cond, ◌&&◌, List, leb, ltb, length, take, Option, None, Some, Result, Ok, Err}
use Rattle.octets.specs.Outcome.{Outcome, refused, gives, then, need, given}
use Rattle.octets.specs.Lists.{different}
use Rattle.octets.specs.declared.span.Span.{Span}
use Rattle.headers.specs.Block.{Header, names, headers_of, parsed}
use Rattle.headers.specs.Names.{NamesIn}
use Rattle.headers.specs.declared.names.Names.{Names}
use Rattle.mounts.specs.declared.blocks.Unfit.{Unfit}
use Rattle.mounts.specs.declared.blocks.Unfit.TheVariants.{Full, Breach}

-- "Three blocks in the form above, no name twice in one", each of at most so many bytes. "Any breach of this section is 20"
abbrev pub block_of : ℕ → List ℕ → Outcome (List Header)
block_of limit block =
    need (leb (length block) limit) 20
    (then (given (headers_of block) 20) (λ hs.
    need (different (names hs)) 20 (gives hs)))

-- the headers of a block that is accepted
pub record BlockGood (limit : ℕ) (block : List ℕ) : Type 0 where
  pub hs : List Header
  pub headers : parsed block ≡ gives hs
  pub accepted : block_of limit block ≡ gives hs

-- For code that stores the places of the names.

-- the headers have more names than a list of so many places has room for
abbrev pub many_for : ℕ → Option (List Header) → Bool
many_for room None = false
many_for room (Some hs) = ltb room (length hs)

-- a list is full for a block that is within its limit and well formed, and has more headers than the list has room for
abbrev pub lacks_room : (limit room : ℕ) → List ℕ → Bool
lacks_room limit room block = leb (length block) limit && many_for room (headers_of block)

-- none where the list is full; else how many headers the block has, or 20
abbrev pub stored_of : (limit room : ℕ) → List ℕ → Option (Outcome ℕ)
stored_of limit room block = cond (lacks_room limit room block) None (Some (then (block_of limit block) (λ hs. gives (length hs))))

-- what the code's answer says, which gives their count
abbrev pub count_stored : Result ℕ Unfit → Option (Outcome ℕ)
count_stored (Ok n) = Some (gives n)
count_stored (Err Breach) = Some (refused 20)
count_stored (Err Full) = None

-- the front of the list has the places of all names of an accepted block
abbrev pub AtFront : List ℕ → List Span → Result ℕ Unfit → Type 0
AtFront block after (Ok n) = (n ≤ length after) × NamesIn block (take n after)
AtFront block after (Err e) = Unit {0}

-- what the code's answer and the caller's list say, which keeps its length
pub record BlockStored (limit : ℕ) (block : List ℕ) (before after : List Span) (r : Result ℕ Unfit) : Type 0 where
  pub answer : count_stored r ≡ stored_of limit (length before) block
  pub size : length after ≡ length before
  pub stored : AtFront block after r

-- what the code's answer says where it gives the names
abbrev pub storing_outcome : Result Names Unfit → Option (Outcome ℕ)
storing_outcome (Ok names) = Some (gives (length names.places.now))
storing_outcome (Err Breach) = Some (refused 20)
storing_outcome (Err Full) = None

-- the names, whose places Names holds to be stored, are those of the block
abbrev pub StoredBy : List ℕ → Result Names Unfit → Type 0
StoredBy block (Ok names) = names.block.now ≡ block
StoredBy block (Err e) = Unit {0}

pub record BlockFound (limit room : ℕ) (block : List ℕ) (r : Result Names Unfit) : Type 0 where
  pub answer : storing_outcome r ≡ stored_of limit room block
  pub stored : StoredBy block r
