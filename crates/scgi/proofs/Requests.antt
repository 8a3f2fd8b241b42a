-- The reader accepts exactly the requests of the grammar.
-- Assumes nothing.
use Prim.Native.Nat.{ℕ, ◌+◌, ◌≤◌, ◌<◌}
use mathlib.Core.Path.{◌≡◌, refl, sym, ap, ◌∙◌}
use mathlib.Core.List.{List, ◌∷◌, ◌++◌, append_assoc}
use native.Mathlib.Nat.{add_assoc}
use native.Mathlib.Numerals.{add-one}
use native.Mathlib.Omega.{arith}
use lib.ListN.{length, get_or, take, drop, length-append, length-drop, take-append-drop}
use lib.Seq.{length-take-le, take-append_seam, drop-append_seam, drop-append-add, get_or-append_seam, get_or-drop, drop-drop, split_at}
use borrow.Author.Tests.{lt-ltb, eq-eqb, le-leb}
use Rattle.octets.specs.Outcome.{gives}
use Rattle.octets.specs.Decimal.{decimal}
use Rattle.headers.specs.Block.{Header, printed, parsed}
use Rattle.scgi.specs.Grammar.{netstring, encoded, IsRequest}
use Rattle.scgi.specs.Check.{check_block}
use Rattle.scgi.specs.declared.netstring.Length.{Length}
use Rattle.scgi.specs.Read.{Places, places_at, read_of, block_in, body_in}
use Rattle.scgi.specs.Claims.{places_of, Accepted, AcceptsExactly, RequestOnce}
use Rattle.scgi.proofs.Lengths.{length_at, read-decimal, written}
use Rattle.headers.proofs.Claims.{printed-parsed}
use Rattle.scgi.proofs.Checks.{check-request, Requested, checked-request}
use Rattle.scgi.proofs.Reader.{links}

-- the places of a block of m bytes and a body of n
abbrev pub places_by : ℕ → ℕ → Places
places_by m n = places_at (length_at m) n

-- a block as netstring, a body, and what stands behind them
module _ (b body rest : List ℕ) where
  spread : netstring b ++ body ++ rest ≡ decimal (length b) ++ 58 ∷ (b ++ 44 ∷ (body ++ rest))
  spread = simp append_assoc

  -- what the reader finds there
  record Found (s : List ℕ) (p : Places) : Type 0 where
    count : length s ≡ p.used + length rest
    block : take p.block_length (drop p.block_start s) ≡ b
    comma : get_or s (p.block_start + p.block_length) 0 ≡ 44
    behind : drop p.body_start s ≡ body ++ rest

  found : Found (decimal (length b) ++ 58 ∷ (b ++ 44 ∷ (body ++ rest))) (places_by (length b) (length body))
  found =
      let s : List ℕ = decimal (length b) ++ 58 ∷ (b ++ 44 ∷ (body ++ rest)) in
      let next : ℕ = length (decimal (length b)) + 1 in
      let d : drop (length (decimal (length b)) + 1) (decimal (length b) ++ 58 ∷ (b ++ 44 ∷ (body ++ rest))) ≡ b ++ 44 ∷ (body ++ rest) = drop-append-add (decimal (length b)) (58 ∷ (b ++ 44 ∷ (body ++ rest))) 1 in
      record {
        count = simp length-append (omega arith);
        block = ap (take (length b)) d ∙ take-append_seam b (44 ∷ (body ++ rest));
        comma = sym (get_or-drop next s (length b) 0) ∙ ap (λ (x : List ℕ). get_or x (length b) 0) d ∙ get_or-append_seam b 44 (body ++ rest) 0;
        behind = rw (add_assoc (length (decimal (length b)) + 1) (length b) 1) (sym (drop-drop (length b + 1) next s) ∙ ap (drop (length b + 1)) d ∙ drop-append-add b (44 ∷ (body ++ rest)) 1);
      }

  pub reads : length b ≤ 16384 → check_block b ≡ gives (length body) → read_of (netstring b ++ body ++ rest) ≡ gives (places_by (length b) (length body))
  unfolding read_of
  reads m e =
      let f = found in
      rw (
        spread,
        read-decimal (length b) (b ++ 44 ∷ (body ++ rest)) m,
        lt-ltb (length (decimal (length b)) + 1 + length b) (length (decimal (length b) ++ 58 ∷ (b ++ 44 ∷ (body ++ rest)))) (omega (arith, f.count)),
        eq-eqb _ _ f.comma,
        f.block,
        e,
        le-leb (length (decimal (length b)) + 1 + length b + 1 + length body) (length (decimal (length b) ++ 58 ∷ (b ++ 44 ∷ (body ++ rest)))) (omega (arith, f.count)),
      )

  pub block_at : block_in (netstring b ++ body ++ rest) (places_by (length b) (length body)) ≡ b
  block_at = rw spread found.block

  pub body_at : body_in (netstring b ++ body ++ rest) (places_by (length b) (length body)) ≡ body
  body_at = rw spread (ap (take (length body)) found.behind ∙ take-append_seam body rest)

pub netstring-length : (b : List ℕ) → length (netstring b) ≡ length (decimal (length b)) + 1 + length b + 1
netstring-length b = simp length-append (omega arith)

pub request-length : (b body : List ℕ) → length (netstring b ++ body) ≡ (places_by (length b) (length body)).used
request-length b body = length-append (netstring b) body ∙ rw (netstring-length b)

same-places : (hs : List Header) (body : List ℕ) → places_by (length (printed hs)) (length body) ≡ places_of hs body
same-places hs body = rw (request-length (printed hs) body, netstring-length (printed hs))

from-accepted : (s : List ℕ) (p : Places) → Accepted s p → read_of s ≡ gives p
from-accepted s p a =
    let r = a.request in
    ap read_of a.is ∙ reads (printed a.hs) a.body a.rest r.block_limit (check-request a.hs a.body r) ∙ ap gives (same-places a.hs a.body ∙ sym a.at)

-- a list at a comma, and n bytes after it
at-comma :
    (r : List ℕ) (m n : ℕ) → m < length r → get_or r m 0 ≡ 44
    → r ≡ take m r ++ 44 ∷ (take n (drop (m + 1) r) ++ drop n (drop (m + 1) r))
at-comma r m n h e =
    split_at r m 0 h ∙ rw (e, ← add-one m) (ap (λ (x : List ℕ). take m r ++ 44 ∷ x) (sym (take-append-drop n (drop (m + 1) r))))

-- a length in decimal, a colon, and r, where the links of the reader hold
module _ (r : List ℕ) (m n : ℕ) where
  abbrev input : List ℕ
  input = decimal m ++ 58 ∷ r

  after-colon : drop (length (decimal m) + 1) input ≡ r
  after-colon = drop-append-add (decimal m) (58 ∷ r) 1

  -- the bytes between the colon and the comma, and the body, where the tests of the reader hold
  module _ (small : m ≤ 16384) (fits : length (decimal m) + 1 + m + 1 + n ≤ length input) where
    within : m + 1 + n ≤ length r
    within =
        let count : length input ≡ length (decimal m) + 1 + length r = simp length-append (omega arith) in
        omega arith

    block-length : length (take m r) ≡ m
    block-length = length-take-le m r (omega (arith, within))

    body_length : length (take n (drop (m + 1) r)) ≡ n
    body_length = length-take-le n (drop (m + 1) r) (simp length-drop (omega (arith, within)))

    requested : check_block (take m (drop (length (decimal m) + 1) input)) ≡ gives n → Requested (take m r) (take n (drop (m + 1) r))
    requested checked =
        checked-request (take m r) (take n (drop (m + 1) r)) (rw block-length small) (rw (body_length, ← after-colon) checked)

    comma_at : get_or input (length (decimal m) + 1 + m) 0 ≡ 44 → get_or r m 0 ≡ 44
    comma_at comma = ap (λ (x : List ℕ). get_or x m 0) (sym after-colon) ∙ get_or-drop (length (decimal m) + 1) input m 0 ∙ comma

    accepted :
        (hs : List Header) → printed hs ≡ take m r → IsRequest hs (take n (drop (m + 1) r)) → get_or input (length (decimal m) + 1 + m) 0 ≡ 44
        → Accepted input (places_by m n)
    accepted hs b q comma =
        let h : length (printed hs) ≡ m = ap length b ∙ block-length in
        record {
          hs = hs;
          body = take n (drop (m + 1) r);
          rest = drop n (drop (m + 1) r);
          is =
              sym
              (spread (printed hs) (take n (drop (m + 1) r)) (drop n (drop (m + 1) r))
              ∙ rw (h, b, ← at-comma r m n (omega (arith, within)) (comma_at comma)));
          request = q;
          at =
              ap {B = Places} (λ (x : ℕ). places_by x n) (sym h)
              ∙ ap {B = Places} (λ (y : ℕ). places_by (length (printed hs)) y) (sym body_length)
              ∙ same-places hs (take n (drop (m + 1) r));
        }

moved : {s s' : List ℕ} {p p' : Places} → Accepted s' p' → s ≡ s' → p ≡ p' → Accepted s p
moved a e q =
    record {
      hs = a.hs;
      body = a.body;
      rest = a.rest;
      is = e ∙ a.is;
      request = a.request;
      at = q ∙ a.at;
    }

-- the links of an answer, at a length that stands in decimal
linked :
    (s : List ℕ) (p : Places) (l : Length) (n : ℕ) (r : List ℕ) → s ≡ decimal l.len ++ 58 ∷ r → l ≡ length_at l.len → l.len ≤ 16384
    → get_or s (l.next + l.len) 0 ≡ 44 → check_block (take l.len (drop l.next s)) ≡ gives n → l.next + l.len + 1 + n ≤ length s
    → p ≡ places_at l n → Accepted s p
linked s p l n r is at small comma checked fits places =
    let next : l.next ≡ length (decimal l.len) + 1 = ap (λ (x : Length). x.next) at in
    let f : length (decimal l.len) + 1 + l.len + 1 + n ≤ length (decimal l.len ++ 58 ∷ r) = rw (← next, ← is) fits in
    let q : Requested (take l.len r) (take n (drop (l.len + 1) r)) = requested r l.len n small f (rw (← next, ← is) checked) in
    let a : Accepted (decimal l.len ++ 58 ∷ r) (places_by l.len n) = accepted r l.len n small f q.hs q.block q.request (rw (← next, ← is) comma) in
    moved a is (places ∙ ap {B = Places} (λ (x : Length). places_at x n) at)

pub to-accepted : (s : List ℕ) (p : Places) → read_of s ≡ gives p → Accepted s p
to-accepted s p e =
    let k = links s p e in
    let w = written s k.l k.comma_at.length_read in
    linked s p k.l k.n w.rest w.is w.at w.small k.comma_at.comma k.block_checked k.body_there k.at

pub accepts-exactly : AcceptsExactly
accepts-exactly s p = (to-accepted s p, from-accepted s p)

-- an accepted request's parts, and its bytes
module _ (s : List ℕ) (p : Places) (hs : List Header) (body rest : List ℕ) (is : s ≡ encoded hs body ++ rest) (at : p ≡ places_of hs body) where
  at-by : p ≡ places_by (length (printed hs)) (length body)
  at-by = at ∙ sym (same-places hs body)

  pub block_is : block_in s p ≡ printed hs
  block_is = rw (is, at-by) (block_at (printed hs) body rest)

  pub body_is : body_in s p ≡ body
  body_is = rw (is, at-by) (body_at (printed hs) body rest)

  pub front-is : take p.used s ≡ encoded hs body
  front-is = rw (is, at) (take-append_seam (encoded hs body) rest)

-- bytes begin with one request at most: the reader finds the parts of either
pub request-once : RequestOnce
request-once hs hs' body body' rest rest' r r' e =
    let s : List ℕ = encoded hs body ++ rest in
    let p : read_of (encoded hs body ++ rest) ≡ gives (places_of hs body) = from-accepted s (places_of hs body) (record { hs = hs; body = body; rest = rest; is = refl; request = r; at = refl }) in
    let p' : read_of (encoded hs body ++ rest) ≡ gives (places_of hs' body') = from-accepted s (places_of hs' body') (record { hs = hs'; body = body'; rest = rest'; is = e; request = r'; at = refl }) in
    let q : places_of hs body ≡ places_of hs' body' = cc in
    let b : printed hs ≡ printed hs' = sym (block_is s (places_of hs body) hs body rest refl refl) ∙ block_is s (places_of hs body) hs' body' rest' e q in
    let h : gives hs ≡ gives hs' = sym (printed-parsed.back hs r.proper) ∙ ap parsed b ∙ printed-parsed.back hs' r'.proper in
    let f : encoded hs body ≡ encoded hs' body' = sym (front-is s (places_of hs body) hs body rest refl refl) ∙ front-is s (places_of hs body) hs' body' rest' e q in (
      cc,
      sym (body_is s (places_of hs body) hs body rest refl refl) ∙ body_is s (places_of hs body) hs' body' rest' e q,
      sym (drop-append_seam (encoded hs body) rest) ∙ ap (drop (length (encoded hs body))) e ∙ rw f (drop-append_seam (encoded hs' body') rest'),
    )
