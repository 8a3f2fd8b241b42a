-- The reader of SCGI requests.
-- Assumes nothing.
use Rattle.std.specs.Prelude.{Result, ℕ, ◌+◌, List, eqb, leb, ltb, length, get_or, take, drop}
use Rattle.octets.specs.Outcome.{Outcome, gives, then, need}
use Rattle.octets.specs.Refusal.{outcome}
use Rattle.octets.specs.declared.refusal.Refusal.{Refusal}
use Rattle.scgi.specs.Netstring.{length_of}
use Rattle.scgi.specs.Check.{check_block}
use Rattle.scgi.specs.declared.netstring.Length.{Length}
use Rattle.scgi.specs.declared.read.Request.{Request}

-- "the places of block and body and the number of bytes used"
pub record Places : Type 0 where
  pub block_start : ℕ
  pub block_length : ℕ
  pub body_start : ℕ
  pub body_length : ℕ
  pub used : ℕ

-- what the code's answer says
abbrev pub reading_outcome : Result Request Refusal → Outcome Places
reading_outcome =
    outcome
    (λ r.
    record {
      block_start = r.block.start;
      block_length = r.block.len;
      body_start = r.body.start;
      body_length = r.body.len;
      used = r.used;
    })

-- the block of the netstring l, its comma, and n bytes of body
abbrev pub places_at : Length → ℕ → Places
places_at l n =
    record {
      block_start = l.next;
      block_length = l.len;
      body_start = l.next + l.len + 1;
      body_length = n;
      used = l.next + l.len + 1 + n;
    }

-- after the length digits: "Input that ends before the comma's place gives 1. Then 4, and over the whole block 5, 6, 7, 8, 9, 10 in turn;
-- then 1 if the body is short. Bytes after the body are not looked at". A comma is 44
unfoldable pub read_of : List ℕ → Outcome Places
read_of s =
    then (length_of s) (λ l.
    need (ltb (l.next + l.len) (length s)) 1
    (need (eqb (get_or s (l.next + l.len) 0) 44) 4
    (then (check_block (take l.len (drop l.next s))) (λ n.
    need (leb (l.next + l.len + 1 + n) (length s)) 1 (gives (places_at l n))))))

-- the block at the places
abbrev pub block_in : List ℕ → Places → List ℕ
block_in s p = take p.block_length (drop p.block_start s)

-- the body at the places
abbrev pub body_in : List ℕ → Places → List ℕ
body_in s p = take p.body_length (drop p.body_start s)

-- a request's byte length, for spools: "exactly the bytes that the reader counts as used"
abbrev pub used_of : List ℕ → Outcome ℕ
used_of s = then (read_of s) (λ p. gives p.used)
