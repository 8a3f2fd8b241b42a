-- Cases of the reader that 01 settles by its words, and the writer's. Those that 01 marks W stand with the gateway's.
-- Assumes nothing.
use Prim.Native.Nat.{ℕ}
use Prim.Native.String.{String}
use mathlib.Core.Path.{◌≡◌, refl}
use mathlib.Core.List.{List, [], ◌∷◌, ◌++◌, map}
use lib.ListN.{replicate}
use Rattle.octets.specs.Text.{bytes, barred}
use Rattle.octets.specs.Outcome.{Outcome, refused, gives}
use Rattle.octets.specs.Kinds.{is_digit}
use Rattle.octets.specs.Compare.{same_bytes}
use Rattle.octets.specs.Lists.{is_in, different}
use Rattle.octets.specs.Decimal.{number_from, digits_in}
use Rattle.headers.specs.Block.{Header, printed, paired}
use Rattle.octets.specs.Parts.{parted}
use Rattle.scgi.specs.Grammar.{scgi1}
use Rattle.scgi.specs.Check.{has, check_block}
use Rattle.scgi.specs.Netstring.{length_from}
use Rattle.scgi.specs.Read.{Places, read_of}
use Rattle.scgi.specs.Write.{to_write, write_of}

pub record Case : Type 0 where
  pub input : String
  pub answer : Outcome Places

-- cases that 01 settles by its words, and that are easy to slip on
unfoldable pub further : List Case
further =
    record { input = "016385"; answer = refused 2 }
    ∷ record { input = "16384x"; answer = refused 2 }
    ∷ record { input = "163840"; answer = refused 3 }
    ∷ record { input = "12,"; answer = refused 2 }
    ∷ record { input = "3:|||"; answer = refused 1 }
    ∷ record { input = "3:|||x"; answer = refused 4 }
    ∷ record { input = "3:|||,"; answer = refused 5 }
    ∷ record { input = "5:A|B||,"; answer = refused 5 }
    ∷ record { input = "4:A|B|,"; answer = refused 8 }
    ∷ record { input = "16:CONTENT_LENGTH||,"; answer = refused 8 }
    ∷ record { input = "43:CONTENT_LENGTH|x|CONTENT_LENGTH|1|SCGI|1|xx,"; answer = refused 5 }
    ∷ record { input = "41:CONTENT_LENGTH|x|CONTENT_LENGTH|1|SCGI|1|,"; answer = refused 7 }
    ∷ record { input = "24:CONTENT_LENGTH|x|SCGI|1|,"; answer = refused 8 }
    ∷ record { input = "24:SCGI|1|CONTENT_LENGTH|0|,"; answer = refused 8 }
    ∷ record { input = "34:CONTENT_LENGTH|00000000003|SCGI|1|,abc"; answer = refused 8 }
    ∷ record { input = "34:CONTENT_LENGTH|99999999999|SCGI|2|,"; answer = refused 8 }
    ∷ record { input = "33:CONTENT_LENGTH|9999999999|SCGI|2|,"; answer = refused 9 }
    ∷ record { input = "40:CONTENT_LENGTH|00000000003|SCGI|1|A||A||,"; answer = refused 7 }
    ∷ record { input = "27:CONTENT_LENGTH|00000000003|,"; answer = refused 8 }
    ∷ record {
      input = "33:CONTENT_LENGTH|0000000003|SCGI|1|,abc";
      answer = gives (record { block_start = 3; block_length = 33; body_start = 37; body_length = 3; used = 40 });
    }
    ∷ record { input = "30:CONTENT_LENGTH|1048577|SCGI|2|,"; answer = refused 9 }
    ∷ record { input = "24:CONTENT_LENGTH|0|SCGI|2|,"; answer = refused 10 }
    ∷ record { input = "17:CONTENT_LENGTH|0|,"; answer = refused 10 }
    ∷ record { input = "27:CONTENT_LENGTH|0002|SCGI|1|,a"; answer = refused 1 }
    ∷ record {
      input = "27:CONTENT_LENGTH|0002|SCGI|1|,abc";
      answer = gives (record { block_start = 3; block_length = 27; body_start = 31; body_length = 2; used = 33 });
    }
    ∷ []

pub further-right : map (λ c. read_of (barred c.input)) further ≡ map (λ c. c.answer) further
unfolding further read_of length_from check_block parted paired different is_in same_bytes number_from is_digit has
further-right = refl

-- The writer, in its order.

pub record Writing : Type 0 where
  pub block : String
  pub body : String
  pub room : ℕ
  pub written : Outcome (List ℕ)

unfoldable pub writings : List Writing
writings =
    record {
      block = "CONTENT_LENGTH|27|SCGI|1|REQUEST_METHOD|POST|REQUEST_URI|/deepthought|";
      body = "What is the answer to life?";
      room = 101;
      written = gives (barred "70:CONTENT_LENGTH|27|SCGI|1|REQUEST_METHOD|POST|REQUEST_URI|/deepthought|,What is the answer to life?");
    }
    ∷ record {
      block = "CONTENT_LENGTH|27|SCGI|1|REQUEST_METHOD|POST|REQUEST_URI|/deepthought|";
      body = "What is the answer to life?";
      room = 100;
      written = refused 21;
    }
    ∷ record { block = "A"; body = ""; room = 0; written = refused 5 }
    ∷ record { block = "A||A||"; body = ""; room = 0; written = refused 7 }
    ∷ record { block = ""; body = ""; room = 0; written = refused 8 }
    ∷ record { block = "CONTENT_LENGTH|00000000002|SCGI|1|"; body = "ab"; room = 40; written = refused 8 }
    ∷ record { block = "CONTENT_LENGTH|1048577|"; body = ""; room = 0; written = refused 9 }
    ∷ record { block = "CONTENT_LENGTH|2|"; body = "a"; room = 0; written = refused 10 }
    ∷ record { block = "CONTENT_LENGTH|2|SCGI|1|"; body = "a"; room = 0; written = refused 23 }
    ∷ record { block = "CONTENT_LENGTH|2|SCGI|1|"; body = "abc"; room = 0; written = refused 23 }
    ∷ record { block = "CONTENT_LENGTH|02|SCGI|1|"; body = "ab"; room = 31; written = gives (barred "25:CONTENT_LENGTH|02|SCGI|1|,ab") }
    ∷ record { block = "CONTENT_LENGTH|02|SCGI|1|"; body = "ab"; room = 30; written = refused 21 }
    ∷ []

pub writings-right : map (λ c. write_of (barred c.block) (bytes c.body) c.room) writings ≡ map (λ c. c.written) writings
unfolding writings write_of to_write digits_in check_block parted paired different is_in same_bytes number_from is_digit has
writings-right = refl

-- The limits, on inputs that are too long to write out.

-- name `A` and no value
abbrev pub a : Header
a = record { name = bytes "A"; value = [] }

-- 128 headers pass 6 and 129 do not; a malformed tail comes before both
pub header_limit :
    (check_block (printed (replicate 128 a)) ≡ refused 7)
    × (check_block (printed (replicate 129 a)) ≡ refused 6)
    × (check_block (printed (replicate 129 a) ++ bytes "A") ≡ refused 5)
unfolding printed check_block parted paired different is_in same_bytes
header_limit = (refl, refl, refl)

-- 02 §2: "A worker choked on a CONTENT_LENGTH with four thousand leading zeros"
abbrev pub zeros : Header
zeros = record { name = bytes "CONTENT_LENGTH"; value = replicate 4000 48 ++ bytes "3" }

pub many-zeros : check_block (printed (zeros ∷ scgi1 ∷ [])) ≡ refused 8
unfolding printed check_block parted paired different is_in same_bytes number_from is_digit
many-zeros = refl
