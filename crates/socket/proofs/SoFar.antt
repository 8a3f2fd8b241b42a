-- The body's bytes are known as they come: whatever more follows, they are the first of the request's body.
-- Assumes nothing.
use Prim.Native.Nat.{ℕ, ◌+◌, ◌-◌, ◌≤◌, ◌<◌}
use Prim.{absurd}
use mathlib.Core.Path.{◌≡◌, sym, ap, ◌∙◌}
use mathlib.Core.Bool.{true, false}
use mathlib.Core.List.{List, [], ◌++◌}
use native.Mathlib.Omega.{arith}
use lib.ListN.{length, take, drop, length-drop, length-take}
use lib.Seq.{take_all, take-take, take-append-le, drop-append-le}
use Rattle.octets.specs.Outcome.{gives}
use Rattle.octets.proofs.Lists.{part-more}
use Rattle.octets.proofs.Outcomes.{gives-once}
use Rattle.scgi.specs.Check.{check_block}
use Rattle.scgi.specs.Digits.{digits_from}
use Rattle.scgi.specs.declared.netstring.Digits.{Digits}
use Rattle.scgi.specs.declared.netstring.Length.{Length}
use Rattle.scgi.specs.Claims.{Links}
use Rattle.scgi.specs.Read.{Places, places_at, read_of, body_in}
use Rattle.scgi.proofs.Claims.{digits-go-on, more-bytes-keep-answer, used-within, reads-in-steps}
use Rattle.socket.specs.Socket.{Stage, in_length, in_block, in_body, at_end, at_fault, Fits}
use Rattle.socket.specs.declared.reader.Socket.{Socket}
use Rattle.socket.proofs.Held.{digits_in, length_in, said-length, said_more, go_on-held}
use Rattle.socket.proofs.Reached.{InLength, InBlock, InBody, AtEnd, At, not-both, fault-not-cut, digit-count}

-- the places of a whole request stay
pub kept-places : (t more : List ℕ) (q p : Places) → read_of t ≡ gives q → read_of (t ++ more) ≡ gives p → p ≡ q
kept-places t more q p r e = gives-once p q (sym e ∙ more-bytes-keep-answer t more (not-both t q 1 r) ∙ r)

module _ (s : Socket) (t b more : List ℕ) (F : Fits s) (p : Places) (e : read_of (t ++ more) ≡ gives p) where
  seen : Links (t ++ more) p
  seen = (reads-in-steps (t ++ more)).links p e

  -- where the body begins
  start : p.body_start ≡ seen.l.next + seen.l.len + 1
  start = ap (λ (q : Places). q.body_start) seen.at

  -- before it there is none of it
  none_yet : length t ≤ p.body_start → [] ≡ take (length t - p.body_start) (body_in (t ++ more) p)
  none_yet h =
      let z : length t - p.body_start ≡ 0 = omega arith in
      rw z

  before_colon : InLength s t b → length t ≤ p.body_start
  before_colon i =
      let w = digits-go-on.said (t ++ more) seen.l seen.comma_at.length_read in
      let d : Digits = w.digits in
      let n : seen.l.next ≡ d.count + 1 = ap (λ (x : Length). x.next) w.is in
      let a : digits_from s.digits s.len more ≡ gives d = sym (go_on-held t more (gives (digits_in s false)) i.said) ∙ w.read in
      let all : length t ≡ s.digits = digit-count s t b i in
      omega (arith, start, n, all, (digits-go-on.within more s.digits s.len d F.digits F.len a).onward)

  -- where the digits are there, the netstring's length is known
  length-known : digits_from 0 0 t ≡ gives (digits_in s true) → seen.l ≡ length_in s
  length-known x = gives-once seen.l (length_in s) (sym seen.comma_at.length_read ∙ said-length s (t ++ more) (said_more s t more x))

  before-comma : InBlock s t b → length t ≤ p.body_start
  before-comma i =
      let k : seen.l ≡ length_in s = length-known i.said in
      let n : seen.l.next ≡ s.digits + 1 = ap (λ (x : Length). x.next) k in
      let v : seen.l.len ≡ s.len = ap (λ (x : Length). x.len) k in
      omega (arith, start, n, v, i.count, F.stored)

  -- in the body the places are known too
  pub places-known : InBody s t b → p ≡ places_at (length_in s) s.body
  places-known i =
      let k : seen.l ≡ length_in s = length-known i.said in
      let c : check_block (take s.len (drop (s.digits + 1) (t ++ more))) ≡ gives seen.n = rw k at seen.block_checked in
      let same : take s.len (drop (s.digits + 1) (t ++ more)) ≡ take s.len (drop (s.digits + 1) t) =
      part-more t more (s.digits + 1) s.len (omega (arith, i.count)) in
      let n : seen.n ≡ s.body = gives-once seen.n s.body (sym c ∙ ap check_block same ∙ i.checked) in
      seen.at ∙ ap (λ (l : Length). places_at l seen.n) k ∙ ap (places_at (length_in s)) n

  in-the-body : InBody s t b → s.seen < s.body → b ≡ take (length t - p.body_start) (body_in (t ++ more) p)
  in-the-body i h =
      let l : length b ≡ s.seen = ap length i.bytes ∙ length-drop (s.digits + 1 + s.len + 1) t ∙ omega (arith, i.count) in
      let n : length t - (s.digits + 1 + s.len + 1) ≡ s.seen = omega (arith, i.count) in
      let r : drop (s.digits + 1 + s.len + 1) (t ++ more) ≡ b ++ more =
      drop-append-le (s.digits + 1 + s.len + 1) t more (omega (arith, i.count)) ∙ rw i.bytes in
      let a : take s.seen (take s.body (b ++ more)) ≡ b =
      take-take s.seen s.body (b ++ more) (omega arith) ∙ take-append-le s.seen b more (omega arith) ∙ take_all s.seen b (omega arith) in
      rw (places-known i, n, r) (sym a)

  at-its-end : AtEnd s t b → b ≡ take (length t - p.body_start) (body_in (t ++ more) p)
  at-its-end i =
      let q : Places = places_at (length_in s) s.body in
      let k : p ≡ places_at (length_in s) s.body = kept-places t more q p i.read e in
      let u = (used-within t q i.read).1 in
      let x : List ℕ = drop (s.digits + 1 + s.len + 1) t in
      let same : body_in (t ++ more) q ≡ body_in t q = part-more t more (s.digits + 1 + s.len + 1) s.body (omega arith) in
      let all : take (length t - (s.digits + 1 + s.len + 1)) (take s.body x) ≡ take s.body x =
      take_all (length t - (s.digits + 1 + s.len + 1)) (take s.body x) (simp length-take (omega arith)) in
      rw (k, same, all) i.bytes

-- by the stage
pub so_far :
    (g : Stage) (s : Socket) (t b : List ℕ) → Fits s → At g s t b → (more : List ℕ) (p : Places) → read_of (t ++ more) ≡ gives p
    → b ≡ take (length t - p.body_start) (body_in (t ++ more) p)
so_far in_length s t b F a more p e = a.no_body ∙ none_yet s t b more F p e (before_colon s t b more F p e a)
so_far in_block s t b F a more p e = a.no_body ∙ none_yet s t b more F p e (before-comma s t b more F p e a)
so_far in_body s t b F a more p e = in-the-body s t b more F p e a.0 a.1
so_far at_end s t b F a more p e = at-its-end s t b more F p e a
so_far at_fault s t b F a more p e =
    absurd (not-both (t ++ more) p s.refusal e (more-bytes-keep-answer t more (fault-not-cut s t b a) ∙ a.refuses))
