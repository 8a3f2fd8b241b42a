-- What is claimed of blocks of headers and of looking names up in them.
-- Assumes nothing.
use Rattle.std.specs.Prelude.{ℕ, ◌+◌, ◌*◌, ◌≤◌, ◌<◌, ◌≡◌, true, ◌↔◌, List, length, take, Option, Some, Result}
use Rattle.octets.specs.Outcome.{refused, gives}
use Rattle.octets.specs.Lists.{All, different}
use Rattle.headers.specs.Block.{Header, Proper, printed, parsed, well_formed, count_of, header_ends, HeaderFound}
use Rattle.octets.specs.declared.refusal.Refusal.{Refusal}
use Rattle.octets.specs.declared.span.Span.{Span}
use Rattle.headers.specs.Lookup.{part_option, value_in, lookup_of}
use Rattle.headers.specs.Setting.{setting_of}
use Rattle.headers.specs.declared.setting.Held.TheVariants.{First, Second}
use Rattle.headers.specs.Names.{NamesFound, NamesIn}
use Rattle.headers.specs.Sizes.{sizes_of}

-- "Looking up a name hands back the value as that part of the caller's block": the bytes at the place that is given are the value of the first
-- header with that name, and there is a place exactly where there is such a header
abbrev pub LookupFindsValue : Type 0
LookupFindsValue =
    (block name : List ℕ) (hs : List Header) (o : Option Span) → parsed block ≡ gives hs → lookup_of block name ≡ gives o
    → part_option block o ≡ value_in name hs

-- the headers of a block
pub record Headed (block : List ℕ) : Type 0 where
  pub hs : List Header
  pub is : parsed block ≡ gives hs

-- a block is well formed exactly where it has headers, be they none
abbrev pub WellFormedHeaded : Type 0
WellFormedHeaded = (block : List ℕ) → (well_formed block ≡ true) ↔ Headed block

-- a header takes a byte of name and two NULs at least
abbrev pub HeadersFew : Type 0
HeadersFew = (block : List ℕ) (hs : List Header) → parsed block ≡ gives hs → 3 * length hs ≤ length block

-- headers of different names are parts of their block that do not overlap
abbrev pub ValuesFit : Type 0
ValuesFit =
    (block : List ℕ) (hs : List Header) (ns : List (List ℕ)) → parsed block ≡ gives hs → different ns ≡ true
    → sizes_of ns hs ≤ length block

-- the headers of a block are those of the grammar, "name ::= notnull+, value ::= notnull*"
abbrev pub HeadersProper : Type 0
HeadersProper = (block : List ℕ) (hs : List Header) → parsed block ≡ gives hs → All Proper hs

-- a block is what its headers print, and what headers of the grammar print has just these
pub record PrintedParsed : Type 0 where
  pub back : (hs : List Header) → All Proper hs → parsed (printed hs) ≡ gives hs
  pub bytes : (block : List ℕ) (hs : List Header) → parsed block ≡ gives hs → printed hs ≡ block

-- the header that is found at a place is the first of those that the block has from there on; where none is found, the block from there on is
-- malformed
abbrev pub HeaderParses : Type 0
HeaderParses = (block : List ℕ) (i : ℕ) → i < length block → HeaderFound block i (header_ends block i)

-- a list with room for the places of a block's n names has them all in its front after they were stored
abbrev pub NamesHeld : Type 0
NamesHeld =
    (block : List ℕ) (before after : List Span) (r : Result ℕ Refusal) (n : ℕ) → NamesFound block before after r → count_of block ≡ gives n
    → n ≤ length before → NamesIn block (take n after)

-- a place that is given lies in its block
pub record PlacesInside : Type 0 where
  pub of_one : (block name : List ℕ) (p : Span) → lookup_of block name ≡ gives (Some p) → p.start + p.len ≤ length block
  pub of_first : (first second name : List ℕ) (p : Span) → setting_of first second name ≡ gives (Some (First p)) → p.start + p.len ≤ length first
  pub of_second : (first second name : List ℕ) (p : Span) → setting_of first second name ≡ gives (Some (Second p)) → p.start + p.len ≤ length second

-- no other number is given: "Only a malformed block, either one of two, is refused, with 5"
pub record NumbersHold : Type 0 where
  pub lookup : (block name : List ℕ) (n : ℕ) → lookup_of block name ≡ refused n → n ≡ 5
  pub setting : (first second name : List ℕ) (n : ℕ) → setting_of first second name ≡ refused n → n ≡ 5
