-- A run that goes on in the block.
-- Assumes nothing.
use Prim.Native.Nat.{ℕ, ◌+◌, ◌-◌, ◌≤◌, ◌<◌}
use mathlib.Core.Path.{◌≡◌, refl, sym, ap, ◌∙◌}
use mathlib.Core.Bool.{Bool, true, false, cond, false≢true}
use mathlib.Core.List.{List, ◌++◌, append-nil}
use native.Mathlib.Omega.{arith}
use lib.Dec.{eqb, leb}
use lib.ListN.{length, get_or, take, drop, length-append, length-take, length-drop, drop_of_length-le}
use lib.Seq.{take_all, take-take, get_or-take, take-append-add, drop-append-le, get_or-append-add}
use borrow.Author.Tests.{leb-true, leb-false, eqb-true, eqb-false}
use Rattle.octets.specs.Outcome.{Outcome, refused, gives}
use Rattle.octets.specs.Kinds.{one_of}
use Rattle.octets.specs.Copy.{over}
use Rattle.octets.proofs.Copies.{over-over}
use Rattle.scgi.specs.Check.{check_block}
use Rattle.scgi.specs.Claims.{block_numbers, CommaAt}
use Rattle.scgi.specs.Read.{read_of}
use Rattle.scgi.proofs.Claims.{numbers-hold, stated-within, reads-in-steps}
use Rattle.socket.specs.Socket.{in_block, stage_number, moved, Fits, at_more, step_at_fault, fed_body, fed_checked, fed_block}
use Rattle.socket.specs.Claims.{held_of}
use Rattle.socket.specs.declared.reader.Socket.{Socket}
use Rattle.socket.proofs.Held.{length_in, Said, said-length, said_more, held-said, front}
use Rattle.socket.proofs.Steps.{fits-faulted}
use Rattle.socket.proofs.Reached.{InBlock, Reached, sound-open, fault-within, sound-faulted, counts-before, counts-fault, told, by-suffix}
use Rattle.socket.proofs.BodyRuns.{body-reached}

-- What is known of the bytes t that came and of the rest of a run, whatever it holds.

module _ (lent t b buffer : List ℕ) (s : Socket) (F : Fits s) (I : InBlock s t b) (H : buffer ≡ held_of lent t) (room : 16384 ≤ length lent) where
  had-length : length (drop (s.digits + 1) t) ≡ s.stored
  had-length = length-drop (s.digits + 1) t ∙ omega (arith, I.count)

  had : buffer ≡ over lent 0 (drop (s.digits + 1) t)
  had = H ∙ held-said lent s t I.said ∙ ap (over lent 0) (take_all s.len (drop (s.digits + 1) t) (omega (arith, had-length, F.stored)))

  module _ (rest : List ℕ) where
    said : Said s (t ++ rest)
    said = said_more s t rest I.said

    count : length (t ++ rest) ≡ s.digits + 1 + s.stored + length rest
    count = length-append t rest ∙ rw I.count

    -- the block's bytes among all
    block-so-far : take s.len (drop (s.digits + 1) (t ++ rest)) ≡ drop (s.digits + 1) t ++ take (s.len - s.stored) rest
    block-so-far =
        let e : s.len ≡ length (drop (s.digits + 1) t) + (s.len - s.stored) = omega (arith, had-length, F.stored) in
        ap (take s.len) (drop-append-le (s.digits + 1) t rest (omega (arith, I.count)))
        ∙ ap (λ (n : ℕ). take n (drop (s.digits + 1) t ++ rest)) e
        ∙ take-append-add (drop (s.digits + 1) t) rest (s.len - s.stored)

    filled_is : over buffer s.stored (take (s.len - s.stored) rest) ≡ over lent 0 (take s.len (drop (s.digits + 1) (t ++ rest)))
    filled_is =
        let e : s.stored ≡ 0 + length (drop (s.digits + 1) t) = omega (arith, had-length) in
        rw (had, block-so-far)
        (ap (λ (n : ℕ). over (over lent 0 (drop (s.digits + 1) t)) n (take (s.len - s.stored) rest)) e
        ∙ over-over lent 0 (drop (s.digits + 1) t) (omega (arith, had-length, F.stored, F.len)) (take (s.len - s.stored) rest))

    filled-held : over buffer s.stored (take (s.len - s.stored) rest) ≡ held_of lent (t ++ rest)
    filled-held = filled_is ∙ sym (held-said lent s (t ++ rest) said)

    -- the byte at the comma's place, and the block, where they are there
    module _ (h : s.len - s.stored < length rest) where
      there : s.digits + 1 + s.len < length (t ++ rest)
      there = omega (arith, count, F.stored)

      comma-is : get_or (t ++ rest) (s.digits + 1 + s.len) 0 ≡ get_or rest (s.len - s.stored) 0
      comma-is =
          let e : s.digits + 1 + s.len ≡ length t + (s.len - s.stored) = omega (arith, I.count, F.stored) in
          ap (λ (n : ℕ). get_or (t ++ rest) n 0) e ∙ get_or-append-add t rest (s.len - s.stored) 0

      comma_at : get_or rest (s.len - s.stored) 0 ≡ 44 → CommaAt (t ++ rest) (length_in s)
      comma_at q = record { length_read = said-length s (t ++ rest) said; there = there; comma = comma-is ∙ q }

      block_is : take s.len (over buffer s.stored (take (s.len - s.stored) rest)) ≡ take s.len (drop (s.digits + 1) (t ++ rest))
      block_is =
          let l : length (take s.len (drop (s.digits + 1) (t ++ rest))) ≡ s.len = simp (length-take, length-drop) (omega (arith, there)) in
          rw filled_is (front lent (take s.len (drop (s.digits + 1) (t ++ rest))) s.len l (omega (arith, F.len)))

-- a block is never refused with 1
not-one : (x : List ℕ) (k : ℕ) → check_block x ≡ refused k → k ≡ 1 → ⊥
not-one x k e q =
    let z : one_of block_numbers k ≡ true = numbers-hold.block x k e in
    false≢true (rw q at z)

-- What the run gives.

module _ (Q : Type 0) (lent t rest b buffer : List ℕ) (s : Socket) (F : Fits s) (I : InBlock s t b) (H : buffer ≡ held_of lent t) (room : 16384 ≤ length lent) where
  abbrev left : ℕ
  left = s.len - s.stored

  abbrev filled : List ℕ
  filled = over buffer s.stored (take (s.len - s.stored) rest)

  still-block :
      length rest ≤ left
      → Reached Q lent t rest b
      (record { step = at_more (moved (stage_number in_block) s (s.stored + length rest) s.body s.seen) 0; buffer = filled })
  still-block h =
      let all = count lent t b buffer s F I H room rest in
      let told-said = said lent t b buffer s F I H room rest in
      let cut : read_of (t ++ rest) ≡ refused 1 =
      (reads-in-steps (t ++ rest)).no_comma (length_in s) (said-length s (t ++ rest) told-said) (omega (arith, all, F.stored)) in
      let fits : Fits (moved (stage_number in_block) s (s.stored + length rest) s.body s.seen) =
      record { refusal = F.refusal; digits = F.digits; len = F.len; stored = omega (arith, F.stored); body = F.body; seen = F.seen } in
      record {
        fits = fits;
        sound = sound-open (moved (stage_number in_block) s (s.stored + length rest) s.body s.seen) (omega arith) fits I.none;
        counts = λ q. counts-before (t ++ rest) _ cut refl;
        within_run = omega arith;
        answer = told (t ++ rest) 1 cut;
        buffer = filled-held lent t b buffer s F I H room rest;
        at = record { none = I.none; said = told-said; count = omega (arith, all); no_body = rw (append-nil b) I.no_body };
      }

  -- a refusal, at the comma's place or by the block
  ends : (k : ℕ) → read_of (t ++ rest) ≡ refused k → (k ≡ 1 → ⊥) → Reached Q lent t rest b (record { step = step_at_fault k; buffer = filled })
  ends k e n =
      let w = fault-within (t ++ rest) k e n in
      record {
        fits = fits-faulted k w;
        sound = sound-faulted k w;
        counts = λ q. counts-fault (t ++ rest) _ k e n refl refl;
        within_run = omega arith;
        answer = told (t ++ rest) k e;
        buffer = filled-held lent t b buffer s F I H room rest;
        at = record { ended = refl; refuses = e; not_cut = n; no_body = append-nil b ∙ I.no_body };
      }

  module _ (h : left < length rest) where
    other_comma : (get_or rest left 0 ≡ 44 → ⊥) → Reached Q lent t rest b (record { step = step_at_fault 4; buffer = filled })
    other_comma q =
        let told-said = said lent t b buffer s F I H room rest in
        let n : get_or (t ++ rest) (s.digits + 1 + s.len) 0 ≡ 44 → ⊥ = λ x. q (sym (comma-is lent t b buffer s F I H room rest h) ∙ x) in
        ends 4
        ((reads-in-steps (t ++ rest)).other_comma (length_in s) (said-length s (t ++ rest) told-said) (there lent t b buffer s F I H room rest h) n)
        (λ z. omega arith)

    -- the comma came, and the block is right: the body begins
    module _ (q : get_or rest left 0 ≡ 44) where
      abbrev j : ℕ
      j = left + 1

      -- the state after the comma, where n bytes of a body are stated
      abbrev begun : ℕ → Socket
      begun n = moved s.stage (moved s.stage s s.len s.body s.seen) s.len n 0

      begins :
          (n : ℕ) → check_block (take s.len (drop (s.digits + 1) (t ++ rest))) ≡ gives n
          → Reached Q lent t rest b (record { step = fed_body (begun n) (drop j rest); buffer = filled })
      begins n c =
          let l : length (take j rest) ≡ j = simp length-take (omega arith) in
          let less : left < length (take j rest) = omega arith in
          let part : take left (take j rest) ≡ take left rest = take-take left j rest (omega arith) in
          let all : length (t ++ take j rest) ≡ s.digits + 1 + s.len + 1 =
          count lent t b buffer s F I H room (take j rest) ∙ omega (arith, l, F.stored) in
          let same : take s.len (drop (s.digits + 1) (t ++ take j rest)) ≡ take s.len (drop (s.digits + 1) (t ++ rest)) =
          block-so-far lent t b buffer s F I H room (take j rest) ∙ rw part (sym (block-so-far lent t b buffer s F I H room rest)) in
          let held : filled ≡ held_of lent (t ++ take j rest) = rw part at (filled-held lent t b buffer s F I H room (take j rest)) in
          let comma : get_or (t ++ take j rest) (s.digits + 1 + s.len) 0 ≡ 44 =
          comma-is lent t b buffer s F I H room (take j rest) less ∙ get_or-take j rest left 0 (omega arith) ∙ q in
          let empty : b ≡ drop (s.digits + 1 + s.len + 1) (t ++ take j rest) =
          I.no_body ∙ sym (drop_of_length-le (t ++ take j rest) {i = s.digits + 1 + s.len + 1} (omega (arith, all))) in
          let fits : Fits (begun n) =
          record {
            refusal = F.refusal;
            digits = F.digits;
            len = F.len;
            stored = omega arith;
            body = stated-within (take s.len (drop (s.digits + 1) (t ++ rest))) n c;
            seen = omega arith;
          }
          in
          by-suffix Q lent t rest b j (record { step = fed_body (begun n) (drop j rest); buffer = filled }) (omega arith)
          (body-reached Q lent (t ++ take j rest) (drop j rest) b filled (begun n) fits
          (record {
            none = I.none;
            said = said lent t b buffer s F I H room (take j rest);
            count = omega (arith, all);
            comma = comma;
            checked = ap check_block same ∙ c;
            bytes = empty;
          })
          held)

      judged :
          (o : Outcome ℕ) → check_block (take s.len (drop (s.digits + 1) (t ++ rest))) ≡ o
          → Reached Q lent t rest b
          (record { step = fed_checked (moved s.stage s s.len s.body s.seen) (drop j rest) o; buffer = filled })
      unfolding fed_checked
      judged (refused k) e =
          ends k ((reads-in-steps (t ++ rest)).block_refused (length_in s) (comma_at lent t b buffer s F I H room rest h q) k e)
          (not-one (take s.len (drop (s.digits + 1) (t ++ rest))) k e)
      judged (gives n) e = begins n e

  pub block-reached : Reached Q lent t rest b (fed_block s rest buffer)
  unfolding fed_block
  block-reached = by (leb (length rest) left) (eqb (get_or rest left 0) 44) refl refl
    where
      by :
          (m q : Bool) → leb (length rest) left ≡ m → eqb (get_or rest left 0) 44 ≡ q
          → Reached Q lent t rest b
          (record {
            step =
                cond m (at_more (moved (stage_number in_block) s (s.stored + length rest) s.body s.seen) 0)
                (cond q
                (fed_checked (moved s.stage s s.len s.body s.seen) (drop (left + 1) rest) (check_block (take s.len filled)))
                (step_at_fault 4));
            buffer = filled;
          })
      by true q e f = still-block (leb-true (length rest) left e)
      by false true e f =
          let h = leb-false (length rest) left e in
          judged h (eqb-true (get_or rest left 0) 44 f) (check_block (take s.len filled))
          (ap check_block (sym (block_is lent t b buffer s F I H room rest h)))
      by false false e f = other_comma (leb-false (length rest) left e) (eqb-false (get_or rest left 0) 44 f)
