-- Whatever the cutting, the answers are those of the reader over the joined bytes.
-- Assumes nothing.
use Prim.Native.Nat.{ℕ, ◌+◌, ◌≤◌, ◌<◌}
use Prim.{absurd}
use mathlib.Core.Path.{◌≡◌, refl, sym, ap, ◌∙◌}
use mathlib.Core.Bool.{false, Bool, true, cond}
use mathlib.Core.Logic.{⊎_elim}
use mathlib.Core.List.{List, [], ◌++◌, append-nil}
use native.Mathlib.Omega.{arith}
use Rattle.std.proofs.lemmas.List.{nil_from_length}
use lib.Dec.{eqb}
use lib.ListN.{length, take, drop, length-drop, length-take}
use borrow.Author.Tests.{eqb-true}
use Rattle.octets.specs.Outcome.{refused, gives, Outcome, then}
use Rattle.octets.proofs.Lists.{part-more}
use Rattle.scgi.specs.Check.{check_block}
use Rattle.scgi.specs.Digits.{digits_from}
use Rattle.scgi.specs.Netstring.{length_from, length_of}
use Rattle.scgi.specs.declared.netstring.Length.{Length}
use Rattle.scgi.specs.Read.{Places, places_at, read_of, block_in}
use Rattle.scgi.proofs.Claims.{reads-in-steps, more-bytes-keep-answer, used-within}
use Rattle.socket.specs.Socket.{Stage, in_length, in_block, in_body, at_end, at_fault, stage_of, new, Fits, soundly, Stepped, fed_at, feed_of}
use Rattle.socket.specs.Claims.{held_of, body_part, Came, at_start, one_more, not_taken, SocketReads, Stays, EndStays, BlockKnown, ended_by, answer_of, NoneTaken, Tells}
use Rattle.socket.specs.declared.reader.Socket.{Socket}
use Rattle.socket.proofs.Steps.{fits-new, no_room, with-room}
use Rattle.socket.proofs.Held.{digits_in, length_in, said-length, by_digits, held_none, held-length, length-small, front}
use Rattle.socket.proofs.Reached.{InLength, InBlock, InBody, AtEnd, At, Reached, digit-count, fault-not-cut, same-refusal, not-both}
use Rattle.socket.proofs.BodyRuns.{body-reached}
use Rattle.socket.proofs.BlockRuns.{block-reached}
use Rattle.socket.proofs.DigitRuns.{digits-reached}
use Rattle.socket.proofs.SoFar.{so_far, places-known, kept-places}
use Rattle.socket.proofs.AfterEnd.{whole-stays, fault-stays}

-- what stands after runs whose joined bytes are t
pub record Stands (lent t b buffer : List ℕ) (s : Socket) : Type 0 where
  fits : Fits s
  sound : soundly s ≡ s
  at : At (stage_of s.stage) s t b
  holds : buffer ≡ held_of lent t

-- Each run.

module _ (lent t b buffer run : List ℕ) (s : Socket) (room : 16384 ≤ length lent) (S : Stands lent t b buffer s) where
  by-stage : (g : Stage) → At g s t b → Reached (read_of t ≡ refused 1) lent t run b (fed_at g s run buffer)
  unfolding fed_at
  by-stage in_length a = digits-reached _ lent t run b buffer s S.fits a S.holds room (digits_from s.digits s.len run) refl
  by-stage in_block a = block-reached _ lent t run b buffer s S.fits a S.holds room
  by-stage in_body a = body-reached _ lent t run b buffer s S.fits a.0 S.holds
  by-stage at_end a = whole-stays _ lent t run b buffer s S.fits S.sound S.holds (λ n. n) a
  by-stage at_fault a = fault-stays _ lent t run b buffer s S.fits S.sound S.holds (λ n. n) a

  fed_is : feed_of s run buffer ≡ fed_at (stage_of s.stage) s run buffer
  fed_is =
      let l : 16384 ≤ length buffer = rw (S.holds, held-length lent t room) room in
      with-room s run buffer l s (sym S.sound)

  reached : Reached (read_of t ≡ refused 1) lent t run b (feed_of s run buffer)
  reached = rw fed_is (by-stage (stage_of s.stage) S.at)

  next : Stands lent (t ++ run) (b ++ body_part run (feed_of s run buffer).step) (feed_of s run buffer).buffer (feed_of s run buffer).step.state
  next = record { fits = reached.fits; sound = reached.sound; at = reached.at; holds = reached.buffer }

starts : (lent : List ℕ) → Stands lent [] [] lent new
unfolding length_from digits_from
starts lent =
    record {
      fits = fits-new;
      sound = refl;
      at = record { said = refl; no_body = refl };
      holds = sym (held_none lent [] 1 refl);
    }

-- a call with a buffer that is too short
same : (lent t b buffer run short : List ℕ) (s : Socket) → length short < 16384 → Stands lent t b buffer s → Stands lent t (b ++ body_part run (feed_of s run short).step) buffer (feed_of s run short).step.state
same lent t b buffer run short s h S = rw (no_room s run short h, append-nil b) S

stands : (lent t b buffer : List ℕ) (s : Socket) → 16384 ≤ length lent → Came lent t b s buffer → Stands lent t b buffer s
stands lent t b buffer s room at_start = starts lent
stands lent t b buffer s room (one_more {taken} {body} {buffer = d} {s = x} run c) = next lent taken body d run x room (stands lent taken body d x room c)
stands lent t b buffer s room (not_taken {taken} {body} {buffer = d} {s = x} run short h c) = same lent taken body d run short x h (stands lent taken body d x room c)

-- What the reader gave before the end.

cut-in-length : (s : Socket) (t b : List ℕ) → InLength s t b → read_of t ≡ refused 1
cut-in-length s t b i = (reads-in-steps t).no_length 1 (by_digits t (gives (digits_in s false)) i.said)

cut-in-block : (s : Socket) (t b : List ℕ) → Fits s → InBlock s t b → read_of t ≡ refused 1
cut-in-block s t b F i = (reads-in-steps t).no_comma (length_in s) (said-length s t i.said) (omega (arith, i.count, F.stored))

cut-in-body : (s : Socket) (t b : List ℕ) → InBody s t b → s.seen < s.body → read_of t ≡ refused 1
cut-in-body s t b i h =
    (reads-in-steps t).short_body (length_in s)
    (record { length_read = said-length s t i.said; there = omega (arith, i.count); comma = i.comma })
    s.body i.checked (omega (arith, i.count))

-- The claims.

-- the block at the front of what the buffer holds
block_held :
    (lent t : List ℕ) (l : Length) → 16384 ≤ length lent → length_of t ≡ gives l → l.next + l.len ≤ length t
    → take l.len (held_of lent t) ≡ take l.len (drop l.next t)
unfolding held_of
block_held lent t l room e h =
    let n : length (take l.len (drop l.next t)) ≡ l.len = simp (length-take, length-drop) (omega arith) in
    rw e (front lent (take l.len (drop l.next t)) l.len n (omega (arith, length-small t l e)))

block_read :
    (lent t : List ℕ) → 16384 ≤ length lent → (p : Places) → read_of t ≡ gives p → take p.block_length (held_of lent t) ≡ block_in t p
block_read lent t room p e =
    let k = (reads-in-steps t).links p e in
    rw k.at (block_held lent t k.l room k.comma_at.length_read (omega (arith, k.comma_at.there)))

block_checked : (t : List ℕ) (p : Places) → read_of t ≡ gives p → check_block (block_in t p) ≡ gives p.body_length
block_checked t p e =
    let k = (reads-in-steps t).links p e in
    rw k.at k.block_checked

-- where the reader refuses, there was no byte of a body
none-refused : (g : Stage) (s : Socket) (t b : List ℕ) → Fits s → At g s t b → (k : ℕ) → read_of t ≡ refused k → (k ≡ 1 → ⊥) → b ≡ []
none-refused in_length s t b F a k e n = a.no_body
none-refused in_block s t b F a k e n = a.no_body
none-refused in_body s t b F a k e n = absurd (n (same-refusal t k 1 e (cut-in-body s t b a.0 a.1)))
none-refused at_end s t b F a k e n = absurd (not-both t (places_at (length_in s) s.body) k a.read e)
none-refused at_fault s t b F a k e n = a.no_body

pub socket-reads : SocketReads
socket-reads =
    record {
      reads = λ lent taken body buffer s room c run.
          let r = reached lent taken body buffer run s room (stands lent taken body buffer s room c) in
          let f : Stepped = feed_of s run buffer in
          record {
            answer = r.answer;
            within = r.within_run;
            buffer = r.buffer;
            block = λ p e. ap (take p.block_length) r.buffer ∙ block_read lent (taken ++ run) room p e;
            body_bytes =
                so_far (stage_of f.step.state.stage) f.step.state (taken ++ run) (body ++ body_part run f.step) r.fits r.at;
            no_body =
                none-refused (stage_of f.step.state.stage) f.step.state (taken ++ run) (body ++ body_part run f.step) r.fits r.at;
          };
      counts = λ lent taken body buffer s room c q run.
          (reached lent taken body buffer run s room (stands lent taken body buffer s room c)).counts q;
    }

-- after the end nothing changes
module _ (lent t b buffer run : List ℕ) (s : Socket) (room : 16384 ≤ length lent) (S : Stands lent t b buffer s) (n : read_of t ≡ refused 1 → ⊥) where
  repeats : (feed_of s run buffer).step.answer ≡ answer_of t
  repeats =
      (reached lent t b buffer run s room S).answer ∙ ap (λ (o : Outcome Places). then o (λ p. gives (ended_by p))) (more-bytes-keep-answer t run n)

  unchanged : (g : Stage) → At g s t b → (f : Stepped) → f ≡ fed_at g s run buffer → f.step.answer ≡ answer_of t → Stays t s run buffer f
  unfolding fed_at
  unchanged in_length a f e r = absurd (n (cut-in-length s t b a))
  unchanged in_block a f e r = absurd (n (cut-in-block s t b S.fits a))
  unchanged in_body a f e r = absurd (n (cut-in-body s t b a.0 a.1))
  unchanged at_end a f e r = record { repeats = r; state = rw e; buffer_as_was = rw e; no_body = rw e; all_after = rw e }
  unchanged at_fault a f e r = record { repeats = r; state = rw e; buffer_as_was = rw e; no_body = rw e; all_after = rw e }

pub end_stays : EndStays
end_stays lent taken body buffer s room c n run =
    let S = stands lent taken body buffer s room c in
    unchanged lent taken body buffer run s room S n (stage_of s.stage) S.at (feed_of s run buffer) (fed_is lent taken body buffer run s room S)
    (repeats lent taken body buffer run s room S n)

-- what stands, by the stage's number
in-stage-of : (lent t b buffer : List ℕ) (s : Socket) → Stands lent t b buffer s → (n : ℕ) → s.stage ≡ n → At (stage_of n) s t b
in-stage-of lent t b buffer s S n q = rw (← q) S.at

-- the block is known in the body and at the end
module _ (lent t b buffer : List ℕ) (s : Socket) (room : 16384 ≤ length lent) (S : Stands lent t b buffer s) where
  -- the block at the front of the buffer is that of the netstring, which more bytes do not change
  front-is :
      (more : List ℕ) (p : Places) → read_of (t ++ more) ≡ gives p → p ≡ places_at (length_in s) s.body
      → take s.len buffer ≡ take s.len (drop (s.digits + 1) t) → s.digits + 1 + s.len ≤ length t
      → (take s.len buffer ≡ block_in (t ++ more) p) × (s.body ≡ p.body_length)
  front-is more p e q f h =
      let same = part-more t more (s.digits + 1) s.len h in
      rw q (f ∙ sym same, refl)

  held-front : length_of t ≡ gives (length_in s) → s.digits + 1 + s.len ≤ length t → take s.len buffer ≡ take s.len (drop (s.digits + 1) t)
  held-front e h = ap (take s.len) S.holds ∙ block_held lent t (length_in s) room e h

  known-in-body : s.stage ≡ 2 → Tells t buffer s
  known-in-body q =
      let i : InBody s t b = (in-stage-of lent t b buffer s S 2 q).0 in
      let h : s.digits + 1 + s.len ≤ length t = omega (arith, i.count) in
      let f = held-front (said-length s t i.said) h in
      record {
        checks = ap check_block f ∙ i.checked;
        is = λ more p e. front-is more p e (places-known s t b more S.fits p e i) f h;
      }

  known-at-end : s.stage ≡ 3 → Tells t buffer s
  known-at-end q =
      let i : AtEnd s t b = in-stage-of lent t b buffer s S 3 q in
      let p₀ : Places = places_at (length_in s) s.body in
      let u = (used-within t p₀ i.read).1 in
      let f = ap (take s.len) S.holds ∙ block_read lent t room p₀ i.read in
      record {
        checks = ap check_block f ∙ block_checked t p₀ i.read;
        is = λ more p e. front-is more p e (kept-places t more p₀ p i.read e) f (omega arith);
      }

pub block-known : BlockKnown
block-known lent taken body buffer s room c h =
    let S = stands lent taken body buffer s room c in
    ⊎_elim (known-in-body lent taken body buffer s room S) (known-at-end lent taken body buffer s room S) h

-- Nothing of a request has come.

empty-cut : read_of [] ≡ refused 1
unfolding length_from
empty-cut = (reads-in-steps []).no_length 1 refl

-- after a byte the stage is another, or there are digits
some-taken : (g : Stage) (s : Socket) (t b : List ℕ) → At g s t b → t ≡ [] → g ≡ in_length
some-taken in_length s t b a e = refl
some-taken in_block s t b a e = absurd (omega (arith, a.count, ap length e))
some-taken in_body s t b a e = absurd (omega (arith, a.0.count, ap length e))
some-taken at_end s t b a e =
    let u = used-within t (places_at (length_in s) s.body) a.read in
    absurd (omega (arith, u.0, u.1, ap length e))
some-taken at_fault s t b a e = absurd (fault-not-cut s t b a (ap read_of e ∙ empty-cut))

first-stage : (n : ℕ) → stage_of n ≡ in_length → n ≡ 0
first-stage n e = by (eqb n 0) (eqb n 1) (eqb n 2) (eqb n 3) refl e
  where
    by :
        (p q r z : Bool) → eqb n 0 ≡ p → cond p in_length (cond q in_block (cond r in_body (cond z at_end at_fault))) ≡ in_length
        → n ≡ 0
    by true q r z t e = eqb-true n 0 t
    by false true r z t e = cc
    by false false true z t e = cc
    by false false false true t e = cc
    by false false false false t e = cc

module _ (lent t b buffer : List ℕ) (s : Socket) (S : Stands lent t b buffer s) where
  in-digits : s.stage ≡ 0 → InLength s t b
  in-digits q = in-stage-of lent t b buffer s S 0 q

  none-then-new : t ≡ [] → (s.stage ≡ 0) × (s.digits ≡ 0)
  none-then-new e =
      let q = first-stage s.stage (some-taken (stage_of s.stage) s t b S.at e) in
      (q, sym (digit-count s t b (in-digits q)) ∙ ap length e)

  new-then-none : (s.stage ≡ 0) × (s.digits ≡ 0) → t ≡ []
  new-then-none h = nil_from_length t (digit-count s t b (in-digits h.0) ∙ h.1)

pub none-taken : NoneTaken
none-taken lent taken body buffer s room c =
    let S = stands lent taken body buffer s room c in
    (none-then-new lent taken body buffer s S, new-then-none lent taken body buffer s S)
