-- A run that goes on in the length digits.
-- Assumes nothing.
use Prim.Native.Nat.{ℕ, ◌+◌, ◌-◌, ◌≤◌}
use Prim.{absurd}
use mathlib.Core.Path.{◌≡◌, refl, sym, ap, ◌∙◌}
use mathlib.Core.Bool.{Bool, true, false, cond, false≢true}
use mathlib.Core.List.{List, [], ◌++◌, append-nil}
use native.Mathlib.Omega.{arith}
use lib.ListN.{length, take, drop, length-append, length-take, take-append-drop, drop_of_length-le}
use lib.Seq.{take-nil}
use Rattle.octets.specs.Outcome.{Outcome, refused, gives, then}
use Rattle.octets.specs.Kinds.{one_of}
use Rattle.octets.proofs.Copies.{over-nil}
use Rattle.scgi.specs.Digits.{digits_from, length_by}
use Rattle.scgi.specs.declared.netstring.Digits.{Digits}
use Rattle.scgi.specs.Netstring.{length_of}
use Rattle.scgi.specs.Claims.{digit_numbers, DigitsWithin, go_on}
use Rattle.scgi.specs.Read.{read_of}
use Rattle.scgi.proofs.Claims.{digits-go-on, numbers-hold, reads-in-steps}
use Rattle.socket.specs.Socket.{begun, Fits, at_more, step_at_fault, fed_block, fed_by}
use Rattle.socket.specs.Claims.{held_of}
use Rattle.socket.specs.declared.reader.Socket.{Socket}
use Rattle.socket.proofs.Held.{digits_in, by_digits, go_on-held, held_none, held-said}
use Rattle.socket.proofs.Steps.{fits-faulted}
use Rattle.socket.proofs.Reached.{InLength, Reached, sound-open, fault-within, sound-faulted, counts-before, counts-fault, told, by-suffix, digit-count}
use Rattle.socket.proofs.BlockRuns.{block-reached}

-- up to its colon a run says the same
module _ (i v : ℕ) (rest : List ℕ) (d : Digits) (few : i ≤ v + 1) (small : v ≤ 16384) (c : d.colon ≡ true) (e : digits_from i v rest ≡ gives d) where
  abbrev j : ℕ
  j = d.count - i + 1

  known : DigitsWithin i (length rest) d
  known = digits-go-on.within rest i v d few small e

  l : length (take j rest) ≡ j
  l = simp length-take (omega (arith, known.onward, known.colon_there c))

  -- a run that ended before its colon would have said more with the bytes behind it
  by-colon : (x : Digits) → digits_from i v (take j rest) ≡ gives x → (t : Bool) → x.colon ≡ t → cond t (gives x) (digits_from x.count x.value (drop j rest)) ≡ gives d → x ≡ d
  by-colon x q true z f = cc
  by-colon x q false z f =
      let u = digits-go-on.within (take j rest) i v x few small q in
      let y = digits-go-on.within (drop j rest) x.count x.value d u.few u.small f in
      absurd (omega (arith, y.onward, u.all_digits z, l, known.onward))

  pub to-colon : digits_from i v (take j rest) ≡ gives d
  to-colon = by (digits_from i v (take j rest)) refl (sym (digits-go-on.two_runs (take j rest) (drop j rest) i v) ∙ ap (digits_from i v) (take-append-drop j rest) ∙ e)
    where
      by : (o : Outcome Digits) → digits_from i v (take j rest) ≡ o → then o (go_on (drop j rest)) ≡ gives d → o ≡ gives d
      by (refused k) q f = f
      by (gives x) q f = ap gives (by-colon x q x.colon refl f)

module _ (Q : Type 0) (lent t rest b buffer : List ℕ) (s : Socket) (F : Fits s) (I : InLength s t b) (H : buffer ≡ held_of lent t) (room : 16384 ≤ length lent) where
  as_lent : buffer ≡ lent
  as_lent = H ∙ held_none lent t 1 (by_digits t (gives (digits_in s false)) I.said)

  joined-digits : (x : List ℕ) → digits_from 0 0 (t ++ x) ≡ digits_from s.digits s.len x
  joined-digits x = go_on-held t x (gives (digits_in s false)) I.said

  joined_length : (o : Outcome Digits) → digits_from s.digits s.len rest ≡ o → length_of (t ++ rest) ≡ then o length_by
  joined_length o e = by_digits (t ++ rest) o (joined-digits rest ∙ e)

  -- a fault, and digits that may go on
  digits-end : (k : ℕ) → digits_from s.digits s.len rest ≡ refused k → Reached Q lent t rest b (record { step = step_at_fault k; buffer = buffer })
  digits-end k e =
      let l : length_of (t ++ rest) ≡ refused k = joined_length (refused k) e in
      let r : read_of (t ++ rest) ≡ refused k = (reads-in-steps (t ++ rest)).no_length k l in
      let z : one_of digit_numbers k ≡ true = numbers-hold.digits rest s.digits s.len k e in
      let n : k ≡ 1 → ⊥ = λ q. false≢true (rw q at z) in
      let w = fault-within (t ++ rest) k r n in
      record {
        fits = fits-faulted k w;
        sound = sound-faulted k w;
        counts = λ q. counts-fault (t ++ rest) _ k r n refl refl;
        within_run = omega arith;
        answer = told (t ++ rest) k r;
        buffer = as_lent ∙ sym (held_none lent (t ++ rest) k l);
        at = record { ended = refl; refuses = r; not_cut = n; no_body = append-nil b ∙ I.no_body };
      }

  module _ (d : Digits) (e : digits_from s.digits s.len rest ≡ gives d) where
    bounds : DigitsWithin s.digits (length rest) d
    bounds = digits-go-on.within rest s.digits s.len d F.digits F.len e

    -- the state after these digits
    abbrev next : Socket
    next = begun d.count d.value

    next_fits : Fits next
    next_fits =
        record {
          refusal = omega arith;
          digits = bounds.few;
          len = bounds.small;
          stored = omega arith;
          body = omega arith;
          seen = omega arith;
        }

    still-digits : d.colon ≡ false → Reached Q lent t rest b (record { step = at_more next 0; buffer = buffer })
    still-digits c =
        let l : length_of (t ++ rest) ≡ refused 1 = joined_length (gives d) e ∙ rw c in
        let cut : read_of (t ++ rest) ≡ refused 1 = (reads-in-steps (t ++ rest)).no_length 1 l in
        record {
          fits = next_fits;
          sound = sound-open next (omega arith) next_fits refl;
          counts = λ q. counts-before (t ++ rest) _ cut refl;
          within_run = omega arith;
          answer = told (t ++ rest) 1 cut;
          buffer = as_lent ∙ sym (held_none lent (t ++ rest) 1 l);
          at = record { said = joined-digits rest ∙ e ∙ rw (← c); no_body = append-nil b ∙ I.no_body };
        }

    -- how many bytes of the run end with the colon, and all that came with them
    abbrev k : ℕ
    k = d.count - s.digits + 1

    abbrev came : List ℕ
    came = t ++ take k rest

    -- the colon came: the block begins
    at-colon : d.colon ≡ true → Reached Q lent t rest b (fed_block next (drop k rest) buffer)
    at-colon c =
        let l : length (take k rest) ≡ k = simp length-take (omega (arith, bounds.onward, bounds.colon_there c)) in
        let said : digits_from 0 0 came ≡ gives (digits_in next true) =
        joined-digits (take k rest) ∙ to-colon s.digits s.len rest d F.digits F.len c e ∙ rw (← c) in
        let count : length came ≡ d.count + 1 = length-append t (take k rest) ∙ omega (arith, l, digit-count s t b I, bounds.onward) in
        let empty : take d.value (drop (d.count + 1) came) ≡ [] =
        rw (drop_of_length-le came {i = d.count + 1} (omega (arith, count))) (take-nil d.value) in
        let held : buffer ≡ held_of lent came = as_lent ∙ sym (held-said lent next came said ∙ rw empty (over-nil lent 0)) in
        by-suffix Q lent t rest b k (fed_block next (drop k rest) buffer) (omega (arith, bounds.onward, bounds.colon_there c))
        (block-reached Q lent came (drop k rest) b buffer next next_fits
        (record { none = refl; said = said; count = omega (arith, count); no_body = I.no_body })
        held room)

  pub digits-reached : (o : Outcome Digits) → digits_from s.digits s.len rest ≡ o → Reached Q lent t rest b (fed_by s rest buffer o)
  unfolding fed_by
  digits-reached (refused k) e = digits-end k e
  digits-reached (gives d) e = by d.colon refl
    where
      by :
          (c : Bool) → d.colon ≡ c
          → Reached Q lent t rest b
          (cond c (fed_block (next d e) (drop (k d e) rest) buffer) (record { step = at_more (next d e) 0; buffer = buffer }))
      by true c = at-colon d e c
      by false c = still-digits d e c
