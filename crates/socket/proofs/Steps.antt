-- What a run makes of the state, stage by stage, for the code that does it.
-- Assumes nothing.
use Prim.{absurd}
use Prim.Native.Nat.{ℕ, min, ◌+◌, ◌-◌, ◌≤◌, ◌<◌}
use mathlib.Core.Path.{◌≡◌, refl, sym, ap, ◌∙◌}
use mathlib.Core.Bool.{Bool, true, false, cond, ◌&&◌, false≢true}
use mathlib.Core.List.{List}
use native.Mathlib.Omega.{arith}
use lib.Dec.{eqb, leb}
use lib.ListN.{length, get_or, take, drop}
use lib.Seq.{take_all}
use borrow.Author.Tests.{lt-ltb, le-ltb, le-leb, lt-leb, eq-eqb, ne_eqb, leb-true, leb-false}
use Rattle.octets.specs.Outcome.{Outcome, refused, gives}
use Rattle.octets.specs.Copy.{over}
use Rattle.octets.proofs.Bools.{and_right, and-false}
use Rattle.octets.proofs.Lists.{from}
use Rattle.scgi.specs.Check.{check_block}
use Rattle.scgi.specs.declared.netstring.Digits.{Digits}
use Rattle.socket.specs.Socket.{in_block, in_body, at_end, at_fault, stage_of, stage_number, begun, new, faulted, moved, Fits, limited, is_kept, sound_refusal, soundly}
use Rattle.socket.specs.Socket.{at_more, step_at_fault, step_at_end, too_short, fed_body, fed_checked, fed_block, fed_by, fed_at, feed_of, fed_digits}
use Rattle.socket.specs.declared.reader.Socket.{Socket}

module _ (s : Socket) (run : List ℕ) where
  -- the body
  pub body_more :
      length run < s.body - s.seen
      → fed_body s run ≡ at_more (moved (stage_number in_body) s s.stored s.body (s.seen + length run)) (length run)
  unfolding fed_body
  body_more h = rw (lt-ltb (length run) (s.body - s.seen) h)

  pub body-whole :
      s.body - s.seen ≤ length run
      → fed_body s run ≡ step_at_end (moved (stage_number at_end) s s.stored s.body s.body) (s.body - s.seen) (length run - (s.body - s.seen))
  unfolding fed_body
  body-whole h = rw (le-ltb (length run) (s.body - s.seen) h)

  -- the block's bytes that the run has: m of them
  module _ (buffer : List ℕ) (m : ℕ) (e : m ≡ min (length run) (s.len - s.stored)) where
    abbrev filled : List ℕ
    filled = over buffer s.stored (take m run)

    part-is : take (s.len - s.stored) run ≡ take m run
    part-is = by (leb (length run) (s.len - s.stored)) refl
      where
        by : (t : Bool) → leb (length run) (s.len - s.stored) ≡ t → take (s.len - s.stored) run ≡ take m run
        by true q =
            let h = leb-true (length run) (s.len - s.stored) q in
            take_all (s.len - s.stored) run (omega arith) ∙ sym (take_all m run (omega arith))
        by false q =
            let h = leb-false (length run) (s.len - s.stored) q in
            let l : s.len - s.stored ≡ m = omega arith in
            ap (λ (n : ℕ). take n run) l

    pub block_more :
        length run ≤ s.len - s.stored
        → fed_block s run buffer
        ≡ record { step = at_more (moved (stage_number in_block) s (s.stored + length run) s.body s.seen) 0; buffer = filled }
    unfolding fed_block
    block_more h = rw (part-is, le-leb (length run) (s.len - s.stored) h)

    module _ (h : s.len - s.stored < length run) where
      all_left : s.len - s.stored ≡ m
      all_left = omega arith

      at-comma : get_or run (s.len - s.stored) 0 ≡ get_or run m 0
      at-comma = ap (λ (n : ℕ). get_or run n 0) all_left

      pub block-fault :
          (get_or run m 0 ≡ 44 → ⊥) → fed_block s run buffer ≡ record { step = step_at_fault 4; buffer = filled }
      unfolding fed_block
      block-fault q =
          rw (part-is, lt-leb (length run) (s.len - s.stored) h, at-comma, ne_eqb (get_or run m 0) 44 q)

      -- what is left behind the comma, as the code passes it
      behind-comma : drop (s.len - s.stored + 1) run ≡ take (length run - (m + 1)) (drop (m + 1) run)
      behind-comma = ap (λ (n : ℕ). drop (n + 1) run) all_left ∙ sym (from run (m + 1))

      pub block-comma :
          get_or run m 0 ≡ 44
          → fed_block s run buffer
          ≡ record {
            step =
                fed_checked (moved s.stage s s.len s.body s.seen) (take (length run - (m + 1)) (drop (m + 1) run)) (check_block (take s.len filled));
            buffer = filled;
          }
      unfolding fed_block
      block-comma q =
          rw (part-is, lt-leb (length run) (s.len - s.stored) h, at-comma, eq-eqb (get_or run m 0) 44 q, behind-comma)

  -- the block's judgement
  pub block_refused : (k : ℕ) (o : Outcome ℕ) → o ≡ refused k → fed_checked s run o ≡ step_at_fault k
  unfolding fed_checked
  block_refused k o e = rw e

  pub block-right : (n : ℕ) (o : Outcome ℕ) → o ≡ gives n → fed_checked s run o ≡ fed_body (moved s.stage s s.stored n 0) run
  unfolding fed_checked
  block-right n o e = rw e

-- what the digits say
module _ (s : Socket) (run buffer : List ℕ) (o : Outcome Digits) where
  pub digits-fault : (k : ℕ) → o ≡ refused k → fed_by s run buffer o ≡ record { step = step_at_fault k; buffer = buffer }
  unfolding fed_by
  digits-fault k e = rw e

  module _ (n v : ℕ) (c : Bool) (e : o ≡ gives (record { count = n; value = v; colon = c })) where
    pub digits_more : c ≡ false → fed_by s run buffer o ≡ record { step = at_more (begun n v) 0; buffer = buffer }
    unfolding fed_by
    digits_more f = rw (e, f)

    pub digits-colon : c ≡ true → fed_by s run buffer o ≡ fed_block (begun n v) (take (length run - (n - s.digits + 1)) (drop (n - s.digits + 1) run)) buffer
    unfolding fed_by
    digits-colon f = rw (e, f, from run (n - s.digits + 1))

-- States within the limits.

pub fits-new : Fits new
fits-new =
    record { refusal = omega arith; digits = omega arith; len = omega arith; stored = omega arith; body = omega arith; seen = omega arith }

pub kept_small : (k : ℕ) → is_kept k ≡ true → k ≤ 10
kept_small k e = by (leb k 10) refl
  where
    by : (t : Bool) → leb k 10 ≡ t → k ≤ 10
    by true q = leb-true k 10 q
    by false q = absurd (false≢true (simp (q, and-false) at e))

pub fits-faulted : (k : ℕ) → is_kept k ≡ true → Fits (faulted k)
fits-faulted k e =
    record {
      refusal = kept_small k e;
      digits = omega arith;
      len = omega arith;
      stored = omega arith;
      body = omega arith;
      seen = omega arith;
    }

-- a state in no stage before the end, by its stage and its refusal
module _ (s : Socket) where
  pub no-stage : (s.stage ≡ 4 → ⊥) → sound_refusal s ≡ new
  no-stage h = rw (ne_eqb s.stage 4 h)

  module _ (q : s.stage ≡ 4) where
    pub too_small : s.refusal < 2 → sound_refusal s ≡ new
    too_small h = rw (eq-eqb s.stage 4 q, lt-leb 2 s.refusal h)

    pub too_large : 10 < s.refusal → sound_refusal s ≡ new
    too_large h = rw (eq-eqb s.stage 4 q, lt-leb s.refusal 10 h, and-false (leb 2 s.refusal))

    pub kept : 2 ≤ s.refusal → s.refusal ≤ 10 → sound_refusal s ≡ faulted s.refusal
    kept l h = rw (eq-eqb s.stage 4 q, le-leb 2 s.refusal l, le-leb s.refusal 10 h)

-- a state that was brought within the limits
pub fits-soundly : (s : Socket) → Fits (soundly s)
fits-soundly s = by (leb s.stage 3)
  where
    numbers : Fits (limited s)
    numbers =
        record { refusal = omega arith; digits = omega arith; len = omega arith; stored = omega arith; body = omega arith; seen = omega arith }

    refusals : (t : Bool) → eqb s.stage 4 && is_kept s.refusal ≡ t → Fits (cond t (faulted s.refusal) new)
    refusals true e = fits-faulted s.refusal (and_right (eqb s.stage 4) (is_kept s.refusal) e)
    refusals false e = fits-new

    by : (t : Bool) → Fits (cond t (limited s) (sound_refusal s))
    by true = numbers
    by false = refusals (eqb s.stage 4 && is_kept s.refusal) refl

pub fits_by : (s x : Socket) → x ≡ soundly s → Fits x
fits_by s x e = rw e (fits-soundly s)

-- a buffer that is too short, and one that is not
module _ (s : Socket) (run buffer : List ℕ) where
  pub no_room : length buffer < 16384 → feed_of s run buffer ≡ too_short s buffer
  unfolding feed_of
  no_room h = rw (lt-ltb (length buffer) 16384 h)

  module _ (h : 16384 ≤ length buffer) (x : Socket) (e : x ≡ soundly s) where
    pub with-room : feed_of s run buffer ≡ fed_at (stage_of x.stage) x run buffer
    unfolding feed_of
    with-room = rw (le-ltb (length buffer) 16384 h, e)

    -- by the stage
    pub in-the-length : x.stage ≡ 0 → feed_of s run buffer ≡ fed_digits x run buffer
    unfolding fed_at
    in-the-length q = with-room ∙ ap (λ n. fed_at (stage_of n) x run buffer) q

    pub in-the-block : x.stage ≡ 1 → feed_of s run buffer ≡ fed_block x run buffer
    unfolding fed_at
    in-the-block q = with-room ∙ ap (λ n. fed_at (stage_of n) x run buffer) q

    pub in-the-body : x.stage ≡ 2 → feed_of s run buffer ≡ record { step = fed_body x run; buffer = buffer }
    unfolding fed_at
    in-the-body q = with-room ∙ ap (λ (n : ℕ). fed_at (stage_of n) x run buffer) q

    pub after-end : 2 < x.stage → feed_of s run buffer ≡ record { step = step_at_end x 0 (length run); buffer = buffer }
    unfolding fed_at
    after-end h =
        let n₀ : x.stage ≡ 0 → ⊥ = λ q. omega arith in
        let n₁ : x.stage ≡ 1 → ⊥ = λ q. omega arith in
        let n₂ : x.stage ≡ 2 → ⊥ = λ q. omega arith in
        with-room ∙ rw (ne_eqb x.stage 0 n₀, ne_eqb x.stage 1 n₁, ne_eqb x.stage 2 n₂) (by (eqb x.stage 3))
      where
        by : (t : Bool) → fed_at (cond t at_end at_fault) x run buffer ≡ record { step = step_at_end x 0 (length run); buffer = buffer }
        by true = refl
        by false = refl
