-- Which numbers are answered, whatever the state.
-- Assumes nothing.
use Prim.Native.Nat.{ℕ, ◌+◌, ◌-◌, ◌≤◌}
use Prim.{absurd}
use mathlib.Core.Path.{◌≡◌, refl}
use mathlib.Core.Bool.{Bool, true, false, cond, not, ◌&&◌, ◌||◌}
use mathlib.Core.List.{List}
use native.Mathlib.Omega.{arith}
use lib.Dec.{eqb, leb, ltb}
use lib.ListN.{length, get_or, take, drop}
use borrow.Author.Tests.{leb-true, eqb-false}
use Rattle.octets.specs.Outcome.{Outcome, refused, gives}
use Rattle.octets.specs.Kinds.{one_of}
use Rattle.octets.specs.Scan.{all_of}
use Rattle.octets.specs.Copy.{over}
use Rattle.octets.proofs.Bools.{and_right}
use Rattle.octets.proofs.ByteRules.{below}
use Rattle.octets.proofs.Refusals.{Refuses, with_number, not_refused, number-of, one_of_all}
use Rattle.scgi.specs.Check.{check_block}
use Rattle.scgi.specs.Digits.{digits_from}
use Rattle.scgi.specs.declared.netstring.Digits.{Digits}
use Rattle.scgi.specs.Claims.{digit_numbers, block_numbers}
use Rattle.scgi.proofs.Claims.{numbers-hold}
use Rattle.socket.specs.Socket.{in_length, in_block, in_body, at_end, at_fault, stage_number, stage_of, begun, moved, new, faulted, limited, is_kept, sound_refusal, soundly}
use Rattle.socket.specs.Socket.{Step, Stepped, at_more, step_at_fault, step_at_end, fed_body, fed_checked, fed_block, fed_by, fed_at, too_short, feed_of}
use Rattle.socket.specs.Claims.{socket_numbers, SocketNumbers}
use Rattle.socket.specs.declared.reader.Socket.{Socket}
use Rattle.socket.proofs.Steps.{kept_small}

-- a step whose answer, where it refuses, has one of the numbers
abbrev Known : Step → Type 0
Known f = Refuses socket_numbers f.answer

abbrev Known-in : Stepped → Type 0
Known-in f = Known f.step

-- the numbers of the digits, of a block, and of a state that was refused
among-digits : (k : ℕ) → one_of digit_numbers k ≡ true → one_of socket_numbers k ≡ true
unfolding all_of
among-digits = one_of_all (one_of socket_numbers) digit_numbers refl

among-block : (k : ℕ) → one_of block_numbers k ≡ true → one_of socket_numbers k ≡ true
unfolding all_of
among-block = one_of_all (one_of socket_numbers) block_numbers refl

kept-number : (k : ℕ) → is_kept k ≡ true → one_of socket_numbers k ≡ true
kept-number k w = rw w at (below (λ n. not (is_kept n) || one_of socket_numbers n) 11 refl k (omega (arith, kept_small k w)))

-- Stage by stage.

body-known : (s : Socket) (rest : List ℕ) → Known (fed_body s rest)
unfolding fed_body
body-known s rest = by (ltb (length rest) (s.body - s.seen))
  where
    by :
        (t : Bool)
        → Known
        (cond t (at_more (moved (stage_number in_body) s s.stored s.body (s.seen + length rest)) (length rest))
        (step_at_end (moved (stage_number at_end) s s.stored s.body s.body) (s.body - s.seen) (length rest - (s.body - s.seen))))
    by true = with_number refl
    by false = not_refused

checked-known : (s : Socket) (rest x : List ℕ) (o : Outcome ℕ) → check_block x ≡ o → Known (fed_checked s rest o)
unfolding fed_checked
checked-known s rest x (refused k) e = with_number (among-block k (numbers-hold.block x k e))
checked-known s rest x (gives n) e = body-known (moved s.stage s s.stored n 0) rest

block-known : (s : Socket) (rest buffer : List ℕ) → Known-in (fed_block s rest buffer)
unfolding fed_block
block-known s rest buffer = by (leb (length rest) left) (eqb (get_or rest left 0) 44)
  where
    left : ℕ
    left = s.len - s.stored

    by :
        (m q : Bool)
        → Known
        (cond m (at_more (moved (stage_number in_block) s (s.stored + length rest) s.body s.seen) 0)
        (cond q
        (fed_checked (moved s.stage s s.len s.body s.seen) (drop (left + 1) rest)
        (check_block (take s.len (over buffer s.stored (take left rest)))))
        (step_at_fault 4)))
    by true q = with_number refl
    by false true =
        checked-known (moved s.stage s s.len s.body s.seen) (drop (left + 1) rest)
        (take s.len (over buffer s.stored (take left rest))) _ refl
    by false false = with_number refl

digits-known : (s : Socket) (run buffer : List ℕ) (o : Outcome Digits) → digits_from s.digits s.len run ≡ o → Known-in (fed_by s run buffer o)
unfolding fed_by
digits-known s run buffer (refused k) e = with_number (among-digits k (numbers-hold.digits run s.digits s.len k e))
digits-known s run buffer (gives d) e = by d.colon
  where
    by :
        (c : Bool)
        → Known-in
        (cond c (fed_block (begun d.count d.value) (drop (d.count - s.digits + 1) run) buffer)
        (record { step = at_more (begun d.count d.value) 0; buffer = buffer }))
    by true = block-known (begun d.count d.value) (drop (d.count - s.digits + 1) run) buffer
    by false = with_number refl

-- a state that has not been refused
open-known : (x : Socket) (run buffer : List ℕ) → x.stage ≤ 3 → Known-in (fed_at (stage_of x.stage) x run buffer)
unfolding fed_at
open-known x run buffer h = by (eqb x.stage 0) (eqb x.stage 1) (eqb x.stage 2) (eqb x.stage 3) refl refl refl refl
  where
    by :
        (a b c d : Bool) → eqb x.stage 0 ≡ a → eqb x.stage 1 ≡ b → eqb x.stage 2 ≡ c → eqb x.stage 3 ≡ d
        → Known-in (fed_at (cond a in_length (cond b in_block (cond c in_body (cond d at_end at_fault)))) x run buffer)
    by true b c d p q r z = digits-known x run buffer (digits_from x.digits x.len run) refl
    by false true c d p q r z = block-known x run buffer
    by false false true d p q r z = body-known x run
    by false false false true p q r z = rw z not_refused
    by false false false false p q r z =
        let u₀ = eqb-false x.stage 0 p in
        let u₁ = eqb-false x.stage 1 q in
        let u₂ = eqb-false x.stage 2 r in
        let u₃ = eqb-false x.stage 3 z in
        absurd (omega arith)

-- a state that was refused, or is taken as a new one
refused-known : (s : Socket) (run buffer : List ℕ) → Known-in (fed_at (stage_of (sound_refusal s).stage) (sound_refusal s) run buffer)
unfolding fed_at
refused-known s run buffer = by (eqb s.stage 4 && is_kept s.refusal) refl
  where
    by :
        (t : Bool) → eqb s.stage 4 && is_kept s.refusal ≡ t
        → Known-in (fed_at (stage_of (cond t (faulted s.refusal) new).stage) (cond t (faulted s.refusal) new) run buffer)
    by true e = with_number (kept-number s.refusal (and_right (eqb s.stage 4) (is_kept s.refusal) e))
    by false e = digits-known new run buffer (digits_from 0 0 run) refl

sound-known : (s : Socket) (run buffer : List ℕ) → Known-in (fed_at (stage_of (soundly s).stage) (soundly s) run buffer)
sound-known s run buffer = by (leb s.stage 3) refl
  where
    by :
        (t : Bool) → leb s.stage 3 ≡ t
        → Known-in (fed_at (stage_of (cond t (limited s) (sound_refusal s)).stage) (cond t (limited s) (sound_refusal s)) run buffer)
    by true e = open-known (limited s) run buffer (leb-true s.stage 3 e)
    by false e = refused-known s run buffer

feed-known : (s : Socket) (run buffer : List ℕ) → Known-in (feed_of s run buffer)
unfolding feed_of
feed-known s run buffer = by (ltb (length buffer) 16384)
  where
    by : (t : Bool) → Known-in (cond t (too_short s buffer) (fed_at (stage_of (soundly s).stage) (soundly s) run buffer))
    by true = with_number refl
    by false = sound-known s run buffer

pub answers-numbers : SocketNumbers
answers-numbers s run buffer n e = number-of n (feed-known s run buffer) e
