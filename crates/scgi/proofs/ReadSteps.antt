-- Laws of the reader's steps, for the code that makes them.
-- Assumes nothing.
use Prim.Native.Nat.{ℕ, ◌+◌, ◌≤◌, ◌<◌}
use mathlib.Core.Path.{◌≡◌}
use mathlib.Core.List.{List}
use lib.ListN.{length, get_or, take, drop}
use borrow.Author.Tests.{lt-ltb, le-ltb, eq-eqb, ne_eqb, le-leb, lt-leb}
use Rattle.octets.specs.Outcome.{refused, gives}
use Rattle.scgi.specs.Netstring.{length_of}
use Rattle.scgi.specs.declared.netstring.Length.{Length}
use Rattle.scgi.specs.Check.{check_block}
use Rattle.scgi.specs.Read.{places_at, read_of}
use Rattle.scgi.specs.Claims.{ReadsInSteps}
use Rattle.scgi.proofs.Reader.{links}

pub no_length : (s : List ℕ) (k : ℕ) → length_of s ≡ refused k → read_of s ≡ refused k
unfolding read_of
no_length s k e = rw e

module _ (s : List ℕ) (l : Length) (e : length_of s ≡ gives l) where
  pub no_comma : length s ≤ l.next + l.len → read_of s ≡ refused 1
  unfolding read_of
  no_comma h = rw (e, le-ltb (l.next + l.len) (length s) h)

  module _ (h : l.next + l.len < length s) where
    pub other_comma : (get_or s (l.next + l.len) 0 ≡ 44 → ⊥) → read_of s ≡ refused 4
    unfolding read_of
    other_comma q = rw (e, lt-ltb (l.next + l.len) (length s) h, ne_eqb (get_or s (l.next + l.len) 0) 44 q)

    module _ (q : get_or s (l.next + l.len) 0 ≡ 44) where
      pub block_refused : (k : ℕ) → check_block (take l.len (drop l.next s)) ≡ refused k → read_of s ≡ refused k
      unfolding read_of
      block_refused k c = rw (e, lt-ltb (l.next + l.len) (length s) h, eq-eqb (get_or s (l.next + l.len) 0) 44 q, c)

      module _ (n : ℕ) (c : check_block (take l.len (drop l.next s)) ≡ gives n) where
        pub short_body : length s < l.next + l.len + 1 + n → read_of s ≡ refused 1
        unfolding read_of
        short_body b =
            rw
            (e, lt-ltb (l.next + l.len) (length s) h, eq-eqb (get_or s (l.next + l.len) 0) 44 q, c, lt-leb (l.next + l.len + 1 + n) (length s) b)

        pub whole_request : l.next + l.len + 1 + n ≤ length s → read_of s ≡ gives (places_at l n)
        unfolding read_of
        whole_request b =
            rw
            (e, lt-ltb (l.next + l.len) (length s) h, eq-eqb (get_or s (l.next + l.len) 0) 44 q, c, le-leb (l.next + l.len + 1 + n) (length s) b)

pub reads-in-steps : (s : List ℕ) → ReadsInSteps s
reads-in-steps s =
    record {
      no_length = no_length s;
      no_comma = no_comma s;
      other_comma = other_comma s;
      block_refused = λ l c. block_refused s l c.length_read c.there c.comma;
      short_body = λ l c. short_body s l c.length_read c.there c.comma;
      whole_request = λ l c. whole_request s l c.length_read c.there c.comma;
      links = links s;
    }
