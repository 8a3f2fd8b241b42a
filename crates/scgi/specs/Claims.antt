-- What is claimed of the reader and the writer of SCGI requests.
-- Assumes nothing.
use Rattle.std.specs.Prelude.{ℕ, ◌+◌, ◌≤◌, ◌<◌, ◌≡◌, true, false, cond, ◌↔◌, List, [], ◌∷◌, ◌++◌, leb, length, get_or, take, drop}
use Rattle.octets.specs.Outcome.{Outcome, refused, gives, then}
use Rattle.octets.specs.Kinds.{one_of}
use Rattle.octets.specs.Decimal.{decimal}
use Rattle.framing.specs.Spool.{joined}
use Rattle.framing.specs.Claims.{Frames, SpoolsEqual, SpoolCut, SpoolGoesOn}
use Rattle.headers.specs.Block.{Header, printed}
use Rattle.scgi.specs.Grammar.{netstring, encoded, IsRequest}
use Rattle.scgi.specs.Check.{check_block}
use Rattle.scgi.specs.Netstring.{length_of}
use Rattle.scgi.specs.declared.netstring.Length.{Length}
use Rattle.scgi.specs.Digits.{digits_from, length_by}
use Rattle.scgi.specs.declared.netstring.Digits.{Digits}
use Rattle.scgi.specs.Read.{Places, places_at, read_of, used_of, block_in, body_in}
use Rattle.scgi.specs.Spool.{requests_of}
use Rattle.scgi.specs.Window.{largest, through_window}
use Rattle.scgi.specs.Write.{to_write, in_room, write_of}

-- more bytes change no answer but 1: "Bytes after the body are not looked at"
abbrev pub MoreBytesKeepAnswer : Type 0
MoreBytesKeepAnswer = (s t : List ℕ) → (read_of s ≡ refused 1 → ⊥) → read_of (s ++ t) ≡ read_of s

-- a request has a byte or more, all of them in the input: "the number of bytes used"
abbrev pub UsedWithin : Type 0
UsedWithin = (s : List ℕ) (p : Places) → read_of s ≡ gives p → (0 < p.used) × (p.used ≤ length s)

-- a request cut short by one byte or more gives 1: "cut: the bytes end before the request does"
abbrev pub CutGivesOne : Type 0
CutGivesOne = (s : List ℕ) (p : Places) (k : ℕ) → read_of s ≡ gives p → k < p.used → read_of (take k s) ≡ refused 1

-- so requests that stand end to end are found again: equal bytes are equal lists of requests, and a spool that is cut anywhere gives exactly
-- the requests that lie whole before the cut. "What is said of spools is one claim over every list and every k"
pub record SpoolsHold : Type 0 where
  pub frames : Frames used_of
  pub equal : SpoolsEqual used_of
  pub cut : SpoolCut used_of
  pub goes_on : SpoolGoesOn used_of

-- bytes that are taken for a cut request are fewer than the largest request has
abbrev pub LargestRequest : Type 0
LargestRequest = (s : List ℕ) → read_of s ≡ refused 1 → length s < largest

-- reading a spool through the window, however the reads cut it and whatever room a turn has, gives what the spool call gives over the whole
-- input with room for all its requests, each of a byte or more. Turns for each byte, each read and two more are enough
abbrev pub WindowReadsAll : Type 0
WindowReadsAll =
    (reads : List (List ℕ)) (k room n : ℕ) → 0 < room → length (joined reads) + length reads + 2 ≤ k → length (joined reads) ≤ n
    → through_window k room reads ≡ requests_of (joined reads) n

-- where headers and body stand in their bytes; the used count "is the length of the request read"
abbrev pub places_of : List Header → List ℕ → Places
places_of hs body =
    record {
      block_start = length (decimal (length (printed hs))) + 1;
      block_length = length (printed hs);
      body_start = length (netstring (printed hs));
      body_length = length body;
      used = length (encoded hs body);
    }

-- s begins with a request of the 2008 text within our limits, and p are its places
pub record Accepted (s : List ℕ) (p : Places) : Type 0 where
  pub hs : List Header
  pub body : List ℕ
  pub rest : List ℕ
  pub is : s ≡ encoded hs body ++ rest
  pub request : IsRequest hs body
  pub at : p ≡ places_of hs body

-- "accepts exactly": the reader accepts exactly the requests of the grammar, and "Accepted means that these rules give no refusal"
abbrev pub AcceptsExactly : Type 0
AcceptsExactly = (s : List ℕ) (p : Places) → (read_of s ≡ gives p) ↔ Accepted s p

-- bytes begin with one request at most
abbrev pub RequestOnce : Type 0
RequestOnce =
    (hs hs' : List Header) (body body' rest rest' : List ℕ) → IsRequest hs body → IsRequest hs' body'
    → encoded hs body ++ rest ≡ encoded hs' body' ++ rest' → (hs ≡ hs') × (body ≡ body') × (rest ≡ rest')

-- the block and the body are those of a request, whose bytes w are not above the room; 21: "output shorter than the bytes to be written"
pub record Writable (block body : List ℕ) (room : ℕ) (w : List ℕ) : Type 0 where
  pub hs : List Header
  pub block_is : block ≡ printed hs
  pub request : IsRequest hs body
  pub bytes : w ≡ encoded hs body
  pub fits : length w ≤ room

-- the writer writes exactly the requests of the grammar
abbrev pub WritesExactly : Type 0
WritesExactly = (block body : List ℕ) (room : ℕ) (w : List ℕ) → (write_of block body room ≡ gives w) ↔ Writable block body room w

-- "Its order is 3, 5, 6, 7, 8, 9, 10, 23, 21": the room is looked at last, and 21 is all that hangs on it
abbrev pub RoomIsLast : Type 0
RoomIsLast = (block body : List ℕ) (room : ℕ) → write_of block body room ≡ then (to_write block body) (λ w. in_room w room)

-- what the writer wrote is read, whatever stands behind it: the same block, the same body, and just the bytes written
pub record ReadBack (block body w rest : List ℕ) : Type 0 where
  pub places : Places
  pub read : read_of (w ++ rest) ≡ gives places
  pub block_part : block_in (w ++ rest) places ≡ block
  pub body_part : body_in (w ++ rest) places ≡ body
  pub used_all : places.used ≡ length w

-- the "round trip" from the writer to the reader
abbrev pub WriteThenRead : Type 0
WriteThenRead = (block body w rest : List ℕ) (room : ℕ) → write_of block body room ≡ gives w → ReadBack block body w rest

-- what was read is written again byte for byte, where there is room, and what stands behind it is not
abbrev pub ReadThenWrite : Type 0
ReadThenWrite =
    (s : List ℕ) (p : Places) (room : ℕ) → read_of s ≡ gives p
    → write_of (block_in s p) (body_in s p) room ≡ cond (leb p.used room) (gives (take p.used s)) (refused 21)

-- For a reader that takes the bytes in runs.

-- digits that were read from len bytes after n digits: the colon, where it came, is one of the bytes, and else every byte is a digit; of
-- several digits the first is not 0, so they are no more than their number and one
pub record DigitsWithin (n len : ℕ) (d : Digits) : Type 0 where
  pub few : d.count ≤ d.value + 1
  pub small : d.value ≤ 16384
  pub onward : n ≤ d.count
  pub colon_there : d.colon ≡ true → d.count < n + len
  pub all_digits : d.colon ≡ false → d.count ≡ n + len

-- what digits give with the bytes t behind them: where their colon has not come, they go on
abbrev pub go_on : List ℕ → Digits → Outcome Digits
go_on t d = cond d.colon (gives d) (digits_from d.count d.value t)

-- the digits of a length that was read
pub record LengthSaid (s : List ℕ) (l : Length) : Type 0 where
  pub digits : Digits
  pub read : digits_from 0 0 s ≡ gives digits
  pub colon : digits.colon ≡ true
  pub is : l ≡ record { len = digits.value; next = digits.count + 1 }

-- digits cut into two runs say what they say in one
pub record DigitsGoOn : Type 0 where
  pub two_runs :
      (s t : List ℕ) (n v : ℕ)
      → digits_from n v (s ++ t) ≡ then (digits_from n v s) (go_on t)
  pub within :
      (s : List ℕ) (n v : ℕ) (d : Digits) → n ≤ v + 1 → v ≤ 16384 → digits_from n v s ≡ gives d → DigitsWithin n (length s) d
  pub length_is : (s : List ℕ) → length_of s ≡ then (digits_from 0 0 s) length_by
  pub said : (s : List ℕ) (l : Length) → length_of s ≡ gives l → LengthSaid s l

-- a block that passes states no body above the limit
abbrev pub StatedWithin : Type 0
StatedWithin = (b : List ℕ) (n : ℕ) → check_block b ≡ gives n → n ≤ 1048576

-- the block's comma stands in s, where its length is l
pub record CommaAt (s : List ℕ) (l : Length) : Type 0 where
  pub length_read : length_of s ≡ gives l
  pub there : l.next + l.len < length s
  pub comma : get_or s (l.next + l.len) 0 ≡ 44

-- what the reader saw where it gives the places p
pub record Links (s : List ℕ) (p : Places) : Type 0 where
  pub l : Length
  pub n : ℕ
  pub comma_at : CommaAt s l
  pub block_checked : check_block (take l.len (drop l.next s)) ≡ gives n
  pub body_there : l.next + l.len + 1 + n ≤ length s
  pub at : p ≡ places_at l n

-- the reader's chain, link by link
pub record ReadsInSteps (s : List ℕ) : Type 0 where
  pub no_length : (k : ℕ) → length_of s ≡ refused k → read_of s ≡ refused k
  pub no_comma : (l : Length) → length_of s ≡ gives l → length s ≤ l.next + l.len → read_of s ≡ refused 1
  pub other_comma :
      (l : Length) → length_of s ≡ gives l → l.next + l.len < length s → (get_or s (l.next + l.len) 0 ≡ 44 → ⊥) → read_of s ≡ refused 4
  pub block_refused :
      (l : Length) → CommaAt s l → (k : ℕ) → check_block (take l.len (drop l.next s)) ≡ refused k → read_of s ≡ refused k
  pub short_body :
      (l : Length) → CommaAt s l → (n : ℕ) → check_block (take l.len (drop l.next s)) ≡ gives n
      → length s < l.next + l.len + 1 + n → read_of s ≡ refused 1
  pub whole_request :
      (l : Length) → CommaAt s l → (n : ℕ) → check_block (take l.len (drop l.next s)) ≡ gives n
      → l.next + l.len + 1 + n ≤ length s → read_of s ≡ gives (places_at l n)
  pub links : (p : Places) → read_of s ≡ gives p → Links s p

-- the reader's numbers: 1, 2, 3, then 4, "and over the whole block 5, 6, 7, 8, 9, 10"; none is 0
abbrev pub read_numbers : List ℕ
read_numbers = 1 ∷ 2 ∷ 3 ∷ 4 ∷ 5 ∷ 6 ∷ 7 ∷ 8 ∷ 9 ∷ 10 ∷ []

-- those of the length digits, and of a block
abbrev pub digit_numbers : List ℕ
digit_numbers = 2 ∷ 3 ∷ []

abbrev pub block_numbers : List ℕ
block_numbers = 5 ∷ 6 ∷ 7 ∷ 8 ∷ 9 ∷ 10 ∷ []

-- the writer's: "Its order is 3, 5, 6, 7, 8, 9, 10, 23, 21"
abbrev pub write_numbers : List ℕ
write_numbers = 3 ∷ 5 ∷ 6 ∷ 7 ∷ 8 ∷ 9 ∷ 10 ∷ 23 ∷ 21 ∷ []

-- no other number is given: "Every refusal returns its number and nothing else"
pub record NumbersHold : Type 0 where
  pub reader : (s : List ℕ) (n : ℕ) → read_of s ≡ refused n → one_of read_numbers n ≡ true
  pub digits : (s : List ℕ) (i v n : ℕ) → digits_from i v s ≡ refused n → one_of digit_numbers n ≡ true
  pub block : (b : List ℕ) (n : ℕ) → check_block b ≡ refused n → one_of block_numbers n ≡ true
  pub writer : (block body : List ℕ) (room n : ℕ) → write_of block body room ≡ refused n → one_of write_numbers n ≡ true
