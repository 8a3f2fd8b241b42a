-- A run that goes on in the body.
-- Assumes nothing.
use Prim.Native.Nat.{ℕ, ◌+◌, ◌-◌, ◌≤◌, ◌<◌}
use mathlib.Core.Path.{◌≡◌, refl, sym, ap, ◌∙◌}
use mathlib.Core.Bool.{Bool, true, false, cond}
use mathlib.Core.List.{List, ◌++◌}
use native.Mathlib.Omega.{arith}
use lib.Dec.{ltb}
use lib.ListN.{length, take, drop, length-append, length-drop, get_or-append}
use lib.Seq.{take-length, take-append-add, drop-append-le}
use borrow.Author.Tests.{ltb-true, ltb-false}
use Rattle.octets.specs.Outcome.{refused, gives}
use Rattle.octets.specs.Copy.{over}
use Rattle.octets.proofs.Lists.{part-more}
use Rattle.scgi.specs.Check.{check_block}
use Rattle.scgi.specs.Claims.{CommaAt}
use Rattle.scgi.specs.Read.{places_at, read_of}
use Rattle.scgi.proofs.Claims.{reads-in-steps}
use Rattle.socket.specs.Socket.{in_body, at_end, stage_number, moved, Fits, at_more, step_at_end, fed_body}
use Rattle.socket.specs.Claims.{held_of}
use Rattle.socket.specs.declared.reader.Socket.{Socket}
use Rattle.socket.proofs.Held.{length_in, Said, said-length, said_more, held-said}
use Rattle.socket.proofs.Reached.{InBody, Reached, sound-open, counts-before, counts_end, told}

-- all of the run, and its first bytes
all-part : (rest : List ℕ) → take (length rest) (drop (length rest - 0 - length rest) rest) ≡ rest
all-part rest =
    let e : length rest - 0 - length rest ≡ 0 = omega arith in
    rw e (take-length rest)

first_part : (rest : List ℕ) (n : ℕ) → n ≤ length rest → take n (drop (length rest - (length rest - n) - n) rest) ≡ take n rest
first_part rest n h =
    let e : length rest - (length rest - n) - n ≡ 0 = omega arith in
    rw e

module _ (Q : Type 0) (lent t rest b buffer : List ℕ) (s : Socket) (F : Fits s) (I : InBody s t b) (H : buffer ≡ held_of lent t) where
  said : Said s (t ++ rest)
  said = said_more s t rest I.said

  count : length (t ++ rest) ≡ s.digits + 1 + s.len + 1 + s.seen + length rest
  count = length-append t rest ∙ rw I.count

  comma : CommaAt (t ++ rest) (length_in s)
  comma =
      record {
        length_read = said-length s (t ++ rest) said;
        there = omega (arith, count);
        comma = get_or-append t rest 0 (s.digits + 1 + s.len) (omega (arith, I.count)) ∙ I.comma;
      }

  same_block : take s.len (drop (s.digits + 1) (t ++ rest)) ≡ take s.len (drop (s.digits + 1) t)
  same_block = part-more t rest (s.digits + 1) s.len (omega (arith, I.count))

  checked : check_block (take s.len (drop (s.digits + 1) (t ++ rest))) ≡ gives s.body
  checked = ap check_block same_block ∙ I.checked

  held : buffer ≡ held_of lent (t ++ rest)
  held = H ∙ held-said lent s t I.said ∙ ap (over lent 0) (sym same_block) ∙ sym (held-said lent s (t ++ rest) said)

  bytes : drop (s.digits + 1 + s.len + 1) (t ++ rest) ≡ b ++ rest
  bytes = drop-append-le (s.digits + 1 + s.len + 1) t rest (omega (arith, I.count)) ∙ rw I.bytes

  -- the state after it, where m bytes of the body came
  abbrev after : ℕ → ℕ → Socket
  after g m = moved g s s.stored s.body m

  after-fits : (g m : ℕ) → m ≤ s.body → Fits (after g m)
  after-fits g m h = record { refusal = F.refusal; digits = F.digits; len = F.len; stored = F.stored; body = F.body; seen = h }

  still-body :
      length rest < s.body - s.seen
      → Reached Q lent t rest b
      (record { step = at_more (after (stage_number in_body) (s.seen + length rest)) (length rest); buffer = buffer })
  still-body h =
      let fits = after-fits (stage_number in_body) (s.seen + length rest) (omega arith) in
      let cut : read_of (t ++ rest) ≡ refused 1 =
      (reads-in-steps (t ++ rest)).short_body (length_in s) comma s.body checked (omega (arith, count)) in
      record {
        fits = fits;
        sound = sound-open (after (stage_number in_body) (s.seen + length rest)) (omega arith) fits I.none;
        counts = λ q. counts-before (t ++ rest) _ cut refl;
        within_run = omega arith;
        answer = told (t ++ rest) 1 cut;
        buffer = held;
        at = (
          record {
            none = I.none;
            said = said;
            count = omega (arith, count);
            comma = comma.comma;
            checked = checked;
            bytes = rw (all-part rest) (sym bytes);
          },
          omega arith,
        );
      }

  whole-body :
      s.body - s.seen ≤ length rest
      → Reached Q lent t rest b
      (record { step = step_at_end (after (stage_number at_end) s.body) (s.body - s.seen) (length rest - (s.body - s.seen)); buffer = buffer })
  whole-body h =
      let fits = after-fits (stage_number at_end) s.body (omega arith) in
      let r : read_of (t ++ rest) ≡ gives (places_at (length_in s) s.body) =
      (reads-in-steps (t ++ rest)).whole_request (length_in s) comma s.body checked (omega (arith, count, F.seen)) in
      let l : length b ≡ s.seen = ap length I.bytes ∙ length-drop (s.digits + 1 + s.len + 1) t ∙ omega (arith, I.count) in
      let e : s.body ≡ length b + (s.body - s.seen) = omega (arith, F.seen) in
      let p : take s.body (b ++ rest) ≡ b ++ take (s.body - s.seen) rest =
      ap (λ (n : ℕ). take n (b ++ rest)) e ∙ take-append-add b rest (s.body - s.seen) in
      record {
        fits = fits;
        sound = sound-open (after (stage_number at_end) s.body) (omega arith) fits I.none;
        counts = λ q. counts_end (t ++ rest) _ (places_at (length_in s) s.body) r (omega (arith, count, F.seen));
        within_run = omega arith;
        answer = rw r;
        buffer = held;
        at = record { whole = refl; read = r; bytes = rw (first_part rest (s.body - s.seen) h, bytes, p) };
      }

  pub body-reached : Reached Q lent t rest b (record { step = fed_body s rest; buffer = buffer })
  unfolding fed_body
  body-reached = by (ltb (length rest) (s.body - s.seen)) refl
    where
      by :
          (q : Bool) → ltb (length rest) (s.body - s.seen) ≡ q
          → Reached Q lent t rest b
          (record {
            step =
                cond q (at_more (after (stage_number in_body) (s.seen + length rest)) (length rest))
                (step_at_end (after (stage_number at_end) s.body) (s.body - s.seen) (length rest - (s.body - s.seen)));
            buffer = buffer;
          })
      by true e = still-body (ltb-true (length rest) (s.body - s.seen) e)
      by false e = whole-body (ltb-false (length rest) (s.body - s.seen) e)
