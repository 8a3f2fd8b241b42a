-- What is claimed of lent blocks and of mounts.
-- Assumes nothing.
use Rattle.std.specs.Prelude.{ℕ, ◌+◌, ◌≤◌, ◌≡◌, true, false, List, [], ◌∷◌, ◌++◌, length, take, drop, None, Some}
use Rattle.octets.specs.Outcome.{refused, gives}
use Rattle.octets.specs.Lists.{All, NoNul, different}
use Rattle.headers.specs.Block.{Header, names, parsed}
use Rattle.mounts.specs.Blocks.{block_of, BlockGood, lacks_room, stored_of}
use Rattle.mounts.specs.Value.{pool_of, limit_of}
use Rattle.mounts.specs.Mounts.{Mount, mounts_of, fits, mount_of, route_of}
use Rattle.mounts.specs.Search.{tried}

-- Blocks.

-- a block that is accepted
pub record BlockHolds (limit : ℕ) (block : List ℕ) (hs : List Header) : Type 0 where
  pub headers : parsed block ≡ gives hs
  pub within : length block ≤ limit
  pub differ : different (names hs) ≡ true

-- "Any breach of this section is 20"
pub record BlocksHold : Type 0 where
  pub accepts : (limit : ℕ) (block : List ℕ) (hs : List Header) → block_of limit block ≡ gives hs → BlockHolds limit block hs
  pub number : (limit : ℕ) (block : List ℕ) (n : ℕ) → block_of limit block ≡ refused n → n ≡ 20

-- what the answer of the code that stores names says of the block: the list is full exactly where it lacks room, else the block is refused or
-- accepted
pub record BlocksTold : Type 0 where
  pub full : (limit room : ℕ) (block : List ℕ) → None ≡ stored_of limit room block → lacks_room limit room block ≡ true
  pub breach :
      (limit room : ℕ) (block : List ℕ) → Some (refused 20) ≡ stored_of limit room block
      → (lacks_room limit room block ≡ false) × (block_of limit block ≡ refused 20)
  pub good :
      (limit room : ℕ) (block : List ℕ) (n : ℕ) → Some (gives n) ≡ stored_of limit room block
      → (lacks_room limit room block ≡ false) × BlockGood limit block

-- Mounts.

-- "Any breach of this section is 20"
abbrev pub MountsNumber : Type 0
MountsNumber = (block : List ℕ) (n : ℕ) → mounts_of block ≡ refused n → n ≡ 20

-- a mount is what a header says: its pool is the part of the value before `;`, and the bytes at the pool's place in the block are the pool;
-- its limit is the value's, "0 to 1,048,576"
pub record MountOf (block : List ℕ) (m : Mount) (h : Header) : Type 0 where
  pub name : m.name ≡ h.name
  pub no_nul : NoNul m.name
  pub inside : m.pool_start + m.pool_length ≤ length block
  pub pool : take m.pool_length (drop m.pool_start block) ≡ pool_of h.value
  pub limit : limit_of h.value ≡ gives m.limit
  pub small : m.limit ≤ 1048576

-- .. one by one
pub data Each (block : List ℕ) : List Mount → List Header → Type 0 where
  none_left : Each block [] []
  one_more :
      {m : Mount} {h : Header} {ms : List Mount} {hs : List Header} → MountOf block m h → Each block ms hs → Each block (m ∷ ms) (h ∷ hs)

pub record MountsSay (block : List ℕ) (ms : List Mount) : Type 0 where
  pub hs : List Header
  pub are : parsed block ≡ gives hs
  pub each : Each block ms hs

-- the mounts of a block are its headers
abbrev pub MountsAreHeaders : Type 0
MountsAreHeaders = (block : List ℕ) (ms : List Mount) → mounts_of block ≡ gives ms → MountsSay block ms

-- x is one of the mounts
pub data Among (x : Mount) : List Mount → Type 0 where
  here : {ms : List Mount} → Among x (x ∷ ms)
  later : {m : Mount} {ms : List Mount} → Among x ms → Among x (m ∷ ms)

-- m is one of the mounts, fits, and no mount that fits has a longer name
pub record Longest (ms : List Mount) (path : List ℕ) (m : Mount) : Type 0 where
  pub among : Among m ms
  pub it_fits : fits m.name path ≡ true
  pub longest : All (λ o. fits o.name path ≡ true → length o.name ≤ length m.name) ms

-- "the longest mount that fits wins", and where none wins none fits
pub record MountIsLongest : Type 0 where
  pub wins : (ms : List Mount) (path : List ℕ) (m : Mount) → mount_of ms path ≡ Some m → Longest ms path m
  pub none_fits : (ms : List Mount) (path : List ℕ) → mount_of ms path ≡ None → All (λ o. fits o.name path ≡ false) ms

-- trying the path, then the path without its last segment, and so on, no more than one path more than the path has slashes, finds the mount
-- that wins: "the longest mount that fits wins"
abbrev pub LongestWins : Type 0
LongestWins = (ms : List Mount) (path : List ℕ) → tried ms path ≡ mount_of ms path

-- SCRIPT_NAME and PATH_INFO are the path again: "PATH_INFO the rest"
abbrev pub RouteIsPath : Type 0
RouteIsPath =
    (ms : List Mount) (path : List ℕ) (m : Mount) → mount_of ms path ≡ Some m
    → (route_of m path).script_name ++ (route_of m path).path_info ≡ path
