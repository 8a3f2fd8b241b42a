-- The writer writes exactly the requests of the grammar; what is written is read, and what was read is written again.
-- Assumes nothing.
use Prim.Native.Nat.{ℕ, ◌≤◌}
use mathlib.Core.Path.{◌≡◌, refl, sym, ap, ◌∙◌}
use mathlib.Core.Bool.{cond}
use mathlib.Core.List.{List, ◌++◌}
use lib.Dec.{leb, eqb}
use lib.ListN.{length, take}
use borrow.Author.Tests.{eq-eqb, le-leb, leb-true, eqb-true}
use Rattle.octets.specs.Outcome.{refused, gives}
use Rattle.octets.proofs.Outcomes.{need-gives, then-gives}
use Rattle.headers.specs.Block.{Header, printed}
use Rattle.scgi.specs.Grammar.{netstring, encoded, IsRequest}
use Rattle.scgi.specs.Check.{check_block}
use Rattle.scgi.specs.Read.{Places, block_in, body_in}
use Rattle.scgi.specs.Write.{to_write, write_of}
use Rattle.scgi.specs.Claims.{places_of, Writable, WritesExactly, RoomIsLast, WriteThenRead, ReadThenWrite}
use Rattle.scgi.proofs.Checks.{check-request, checked-request}
use Rattle.scgi.proofs.Requests.{places_by, reads, block_at, body_at, request-length, to-accepted, block_is, body_is, front-is}

-- the bytes to be written
record ToWrite (block body w : List ℕ) : Type 0 where
  small : length block ≤ 16384
  checked : check_block block ≡ gives (length body)
  is : w ≡ netstring block ++ body

to_write-gives : (block body w : List ℕ) → to_write block body ≡ gives w → ToWrite block body w
unfolding to_write
to_write-gives block body w e =
    let a = need-gives (leb (length block) 16384) 3 _ w e in
    let c = then-gives (check_block block) _ w a.1 in
    let d = need-gives (eqb (length body) c.it) 23 (gives (netstring block ++ body)) w c.next in
    let f : gives (netstring block ++ body) ≡ gives w = d.1 in
    record {
      small = leb-true (length block) 16384 a.0;
      checked = c.first ∙ ap gives (sym (eqb-true (length body) c.it d.0));
      is = cc;
    }

record Wrote (block body w : List ℕ) (room : ℕ) : Type 0 where
  bytes : ToWrite block body w
  fits : length w ≤ room

wrote : (block body w : List ℕ) (room : ℕ) → write_of block body room ≡ gives w → Wrote block body w room
unfolding write_of
wrote block body w room e =
    let a = then-gives (to_write block body) _ w e in
    let c = need-gives (leb (length a.it) room) 21 (gives a.it) w a.next in
    let f : gives a.it ≡ gives w = c.1 in
    let g : a.it ≡ w = cc in
    record { bytes = to_write-gives block body w (a.first ∙ ap gives g); fits = rw (← g) (leb-true (length a.it) room c.0) }

pub room-is-last : RoomIsLast
unfolding write_of
room-is-last block body room = refl

pub write-then-read : WriteThenRead
write-then-read block body w rest room e =
    let t = (wrote block body w room e).bytes in
    rw t.is
    (record {
      places = places_by (length block) (length body);
      read = reads block body rest t.small t.checked;
      block_part = block_at block body rest;
      body_part = body_at block body rest;
      used_all = sym (request-length block body);
    })

request-written : (hs : List Header) (body : List ℕ) → IsRequest hs body → to_write (printed hs) body ≡ gives (encoded hs body)
unfolding to_write
request-written hs body r =
    rw (le-leb (length (printed hs)) 16384 r.block_limit, check-request hs body r, eq-eqb (length body) (length body) refl)

writable : (block body : List ℕ) (room : ℕ) (w : List ℕ) → write_of block body room ≡ gives w → Writable block body room w
writable block body room w e =
    let t = wrote block body w room e in
    let q = checked-request block body t.bytes.small t.bytes.checked in
    record {
      hs = q.hs;
      block_is = sym q.block;
      request = q.request;
      bytes = t.bytes.is ∙ ap (λ (b : List ℕ). netstring b ++ body) (sym q.block);
      fits = t.fits;
    }

writes : (block body : List ℕ) (room : ℕ) (w : List ℕ) → Writable block body room w → write_of block body room ≡ gives w
unfolding write_of
writes block body room w r =
    rw (r.block_is, request-written r.hs body r.request, ← r.bytes, le-leb (length w) room r.fits)

pub writes-exactly : WritesExactly
writes-exactly block body room w = (writable block body room w, writes block body room w)

written-again :
    (s : List ℕ) (p : Places) (hs : List Header) (body rest : List ℕ) → s ≡ encoded hs body ++ rest → p ≡ places_of hs body
    → (room : ℕ) → IsRequest hs body
    → write_of (block_in s p) (body_in s p) room ≡ cond (leb p.used room) (gives (take p.used s)) (refused 21)
unfolding write_of
written-again s p hs body rest is at room r =
    rw (block_is s p hs body rest is at, body_is s p hs body rest is at, request-written hs body r, front-is s p hs body rest is at, at)

pub read-then-write : ReadThenWrite
read-then-write s p room e =
    let a = to-accepted s p e in
    written-again s p a.hs a.body a.rest a.is a.at room a.request
