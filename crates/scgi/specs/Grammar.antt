-- Requests of the SCGI text of 2008, within the limits of 01 and 02. Nothing here is taken from the reader or the writer.
-- Assumes nothing.
use Rattle.std.specs.Prelude.{ℕ, ◌≤◌, ◌≡◌, List, [], ◌∷◌, ◌++◌, length}
use Rattle.octets.specs.Text.{bytes}
use Rattle.octets.specs.Lists.{All, Different}
use Rattle.octets.specs.Decimal.{decimal, Says}
use Rattle.headers.specs.Block.{Header, Proper, Among, names, printed}

-- "A request is a block as netstring, then the body": the length in decimal, `:` (58), the bytes, `,` (44)
abbrev pub netstring : List ℕ → List ℕ
netstring b = decimal (length b) ++ 58 ∷ (b ++ 44 ∷ [])

-- source document 001: "The headers are sent encoded as a netstring", and "The body is sent following the headers"
abbrev pub encoded : List Header → List ℕ → List ℕ
encoded hs body = netstring (printed hs) ++ body

-- the headers state a body of n bytes. Source document 001: "The first header must have the name CONTENT_LENGTH and a value that is a nonempty
-- sequence of ASCII digits"; "CONTENT_LENGTH may have leading zeros". 02 §2: "a decimal number read has at most 10 digits"
pub data States (n : ℕ) : List Header → Type 0 where
  first : {h : Header} {hs : List Header} → h.name ≡ bytes "CONTENT_LENGTH" → Says n h.value → length h.value ≤ 10 → States n (h ∷ hs)

-- source document 001: "There must also always be a header with the name SCGI and a value of 1"
abbrev pub scgi1 : Header
scgi1 = record { name = bytes "SCGI"; value = bytes "1" }

-- the headers and the body are a request of the text of 2008 within our limits: no block above 16,384 bytes (3), no "more than 128 headers"
-- (6), no body length in more than 10 digits (8), no "stated body length above 1,048,576" (9)
pub record IsRequest (hs : List Header) (body : List ℕ) : Type 0 where
  pub proper : All Proper hs
  pub differ : Different (names hs)
  pub states : States (length body) hs
  pub scgi : Among scgi1 hs
  pub block_limit : length (printed hs) ≤ 16384
  pub header_limit : length hs ≤ 128
  pub body_limit : length body ≤ 1048576
