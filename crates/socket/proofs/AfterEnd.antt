-- A run after the end.
-- Assumes nothing.
use Prim.Native.Nat.{ℕ, suc, ◌+◌, ◌<◌}
use Prim.{absurd}
use mathlib.Core.Path.{◌≡◌, refl, sym, ap, ◌∙◌}
use mathlib.Core.Bool.{Bool, true, false}
use mathlib.Core.List.{List, ◌++◌, append-nil}
use native.Mathlib.Omega.{arith, by_contra}
use lib.ListN.{length}
use Rattle.octets.specs.Outcome.{Outcome, refused, gives}
use Rattle.octets.specs.Copy.{over}
use Rattle.octets.proofs.Lists.{part-more}
use Rattle.scgi.specs.Digits.{digits_from}
use Rattle.scgi.specs.declared.netstring.Digits.{Digits}
use Rattle.scgi.specs.Read.{places_at, read_of}
use Rattle.scgi.proofs.Claims.{more-bytes-keep-answer, used-within, reads-in-steps}
use Rattle.socket.specs.Socket.{begun, Fits, soundly, step_at_end}
use Rattle.socket.specs.Claims.{held_of}
use Rattle.socket.specs.declared.reader.Socket.{Socket}
use Rattle.socket.proofs.Held.{length_in, Said, said-length, said_more, by_digits, go_on-held, held_none, held-said}
use Rattle.socket.proofs.Reached.{AtEnd, AtFault, Reached, fault-not-cut, not-both, told}

-- an answer other than 1 has its block, if any, within the bytes
module _ (lent t run : List ℕ) (n : read_of t ≡ refused 1 → ⊥) where
  by-colon : (d : Digits) → digits_from 0 0 t ≡ gives d → (c : Bool) → d.colon ≡ c → held_of lent (t ++ run) ≡ held_of lent t
  by-colon d e false c = absurd (n ((reads-in-steps t).no_length 1 (by_digits t (gives d) e ∙ rw c)))
  by-colon d e true c =
      let s : Socket = begun d.count d.value in
      let said : Said (begun d.count d.value) t = e ∙ rw (← c) in
      let within : d.count + 1 + d.value < length t =
      by_contra (suc (d.count + 1 + d.value)) (length t) (λ h. n ((reads-in-steps t).no_comma (length_in s) (said-length s t said) (omega arith))) in
      held-said lent s (t ++ run) (said_more s t run said) ∙ ap (over lent 0) (part-more t run (d.count + 1) d.value (omega arith)) ∙ sym (held-said lent s t said)

  held_stays : held_of lent (t ++ run) ≡ held_of lent t
  held_stays = by (digits_from 0 0 t) refl
    where
      by : (o : Outcome Digits) → digits_from 0 0 t ≡ o → held_of lent (t ++ run) ≡ held_of lent t
      by (gives d) e = by-colon d e d.colon refl
      by (refused k) e =
          held_none lent (t ++ run) k (by_digits (t ++ run) (refused k) (go_on-held t run (refused k) e)) ∙ sym (held_none lent t k (by_digits t (refused k) e))

-- of the counts nothing is said here: the request had ended before the run
module _ (Q : Type 0) (lent t run b buffer : List ℕ) (s : Socket) (F : Fits s) (S : soundly s ≡ s) (H : buffer ≡ held_of lent t) (no : (read_of t ≡ refused 1 → ⊥) → Q → ⊥) where
  pub whole-stays : AtEnd s t b → Reached Q lent t run b (record { step = step_at_end s 0 (length run); buffer = buffer })
  whole-stays e =
      let n : read_of t ≡ refused 1 → ⊥ = not-both t (places_at (length_in s) s.body) 1 e.read in
      let r : read_of (t ++ run) ≡ gives (places_at (length_in s) s.body) = more-bytes-keep-answer t run n ∙ e.read in
      let u = (used-within t (places_at (length_in s) s.body) e.read).1 in
      record {
        fits = F;
        sound = S;
        counts = λ q. absurd (no n q);
        within_run = omega arith;
        answer = rw (e.whole, r);
        buffer = H ∙ sym (held_stays lent t run n);
        at =
            rw e.whole
            (record {
              whole = refl;
              read = r;
              bytes = append-nil b ∙ e.bytes ∙ sym (part-more t run (s.digits + 1 + s.len + 1) s.body (omega arith));
            });
      }

  pub fault-stays : AtFault s t b → Reached Q lent t run b (record { step = step_at_end s 0 (length run); buffer = buffer })
  fault-stays e =
      let n : read_of t ≡ refused 1 → ⊥ = fault-not-cut s t b e in
      let r : read_of (t ++ run) ≡ refused s.refusal = more-bytes-keep-answer t run n ∙ e.refuses in
      record {
        fits = F;
        sound = S;
        counts = λ q. absurd (no n q);
        within_run = omega arith;
        answer = rw e.ended (told (t ++ run) s.refusal r);
        buffer = H ∙ sym (held_stays lent t run n);
        at = rw e.ended (record { ended = refl; refuses = r; not_cut = e.not_cut; no_body = append-nil b ∙ e.no_body });
      }
