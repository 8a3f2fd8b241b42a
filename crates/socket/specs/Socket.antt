-- The reader of bytes that come in runs: its state, and what a run makes of it.
-- Assumes nothing.
use Rattle.std.specs.Prelude.{Result, ℕ, min, ◌+◌, ◌-◌, ◌≤◌, ◌≡◌, Bool, cond, ◌&&◌, List, eqb, leb, ltb, length, get_or, take, drop}
use Rattle.octets.specs.Outcome.{Outcome, refused, gives}
use Rattle.octets.specs.Kinds.{within}
use Rattle.octets.specs.Copy.{over}
use Rattle.octets.specs.Refusal.{outcome}
use Rattle.octets.specs.declared.refusal.Refusal.{Refusal}
use Rattle.scgi.specs.Check.{check_block}
use Rattle.scgi.specs.Digits.{digits_from}
use Rattle.scgi.specs.declared.netstring.Digits.{Digits}
use Rattle.socket.specs.declared.reader.Socket.{Socket}
use Rattle.socket.specs.declared.reader.Request.{Request}
use Rattle.socket.specs.declared.reader.Taken.{Taken}

-- The state.

-- how far the request has come: in the length digits; in the block, or before its comma; in the body; whole; refused
pub data Stage : Type 0 where
  in_length : Stage
  in_block : Stage
  in_body : Stage
  at_end : Stage
  at_fault : Stage

-- the stages by their numbers in a state
abbrev pub stage_of : ℕ → Stage
stage_of n = cond (eqb n 0) in_length (cond (eqb n 1) in_block (cond (eqb n 2) in_body (cond (eqb n 3) at_end at_fault)))

abbrev pub stage_number : Stage → ℕ
stage_number in_length = 0
stage_number in_block = 1
stage_number in_body = 2
stage_number at_end = 3
stage_number at_fault = 4

-- n length digits came, which say v; and nothing behind them but perhaps the colon
abbrev pub begun : ℕ → ℕ → Socket
begun n v = record { stage = stage_number in_length; refusal = 0; digits = n; len = v; stored = 0; body = 0; seen = 0 }

-- the state before the first byte
abbrev pub new : Socket
new = begun 0 0

-- a refusal came
abbrev pub faulted : ℕ → Socket
faulted k = record { stage = stage_number at_fault; refusal = k; digits = 0; len = 0; stored = 0; body = 0; seen = 0 }

-- the state s in the stage g, with k bytes of the block stored, n bytes of a body stated and m of them seen
abbrev pub moved : ℕ → Socket → ℕ → ℕ → ℕ → Socket
moved g s k n m = record { stage = g; refusal = s.refusal; digits = s.digits; len = s.len; stored = k; body = n; seen = m }

-- a state that did not come from a call: its numbers are brought within the limits of those that do
abbrev pub limited : Socket → Socket
limited s =
    let v = min s.len 16384 in
    let n = min s.body 1048576 in
    record {
      stage = s.stage;
      refusal = 0;
      digits = min s.digits (v + 1);
      len = v;
      stored = min s.stored v;
      body = n;
      seen = min s.seen n;
    }

-- the refusals that a state can keep: the reader's, but for 1, which ends nothing
abbrev pub is_kept : ℕ → Bool
is_kept k = within 2 10 k

-- a stage that there is not, or a refusal that none keeps, makes it a new state
abbrev pub sound_refusal : Socket → Socket
sound_refusal s = cond (eqb s.stage (stage_number at_fault) && is_kept s.refusal) (faulted s.refusal) new

-- the state that a call goes on from
abbrev pub soundly : Socket → Socket
soundly s = cond (leb s.stage (stage_number at_end)) (limited s) (sound_refusal s)

-- What a run gives.

-- what is answered at the end: "the block .. and the used count"; the block stands at the front of the buffer
pub record Ended : Type 0 where
  pub block_length : ℕ
  pub body_length : ℕ
  pub used : ℕ

-- what the code's answer says
abbrev pub answer_outcome : Result Request Refusal → Outcome Ended
answer_outcome = outcome (λ r. record { block_length = r.block_len; body_length = r.body_len; used = r.used })

-- the state after a run, the answer, and the run's counts: "for each run says how many of its bytes belong to the body and how many come
-- after the end"
pub record Step : Type 0 where
  pub state : Socket
  pub answer : Outcome Ended
  pub body : ℕ
  pub after : ℕ

-- the code's answer r is the step s
pub record Fed (s : Step) (r : Taken) : Type 0 where
  pub state : r.state ≡ s.state
  pub answer : answer_outcome r.answer ≡ s.answer
  pub body : r.body ≡ s.body
  pub after : r.after ≡ s.after

-- .. and the buffer
pub record Stepped : Type 0 where
  pub step : Step
  pub buffer : List ℕ

-- .. and it left this in the buffer
pub record FedIn (s : Stepped) (left : List ℕ) (r : Taken) : Type 0 where
  pub step : Fed s.step r
  pub buffer : left ≡ s.buffer

-- "Before the end it answers 1."
abbrev pub at_more : Socket → ℕ → Step
at_more s n = record { state = s; answer = refused 1; body = n; after = 0 }

-- "The run that brings a refusal other than 1 counts 0 for both."
abbrev pub step_at_fault : ℕ → Step
step_at_fault k = record { state = faulted k; answer = refused k; body = 0; after = 0 }

-- the answer of a state that has ended
abbrev pub ended_of : Socket → Ended
ended_of s = record { block_length = s.len; body_length = s.body; used = s.digits + 1 + s.len + 1 + s.body }

abbrev pub end_of : Socket → Outcome Ended
end_of s = cond (eqb s.stage (stage_number at_end)) (gives (ended_of s)) (refused s.refusal)

-- at the end or after it: n bytes of the run belong to the body, and m come after the end
abbrev pub step_at_end : Socket → ℕ → ℕ → Step
step_at_end s n m = record { state = s; answer = end_of s; body = n; after = m }

-- What a run makes of a state, stage by stage; rest is what of the run is left.

-- the body: "then 1 if the body is short. Bytes after the body are not looked at"
unfoldable pub fed_body : Socket → List ℕ → Step
fed_body s rest =
    let left = s.body - s.seen in
    cond (ltb (length rest) left) (at_more (moved (stage_number in_body) s s.stored s.body (s.seen + length rest)) (length rest))
    (step_at_end (moved (stage_number at_end) s s.stored s.body s.body) left (length rest - left))

-- the comma came, and the block was judged: "over the whole block 5, 6, 7, 8, 9, 10 in turn"
unfoldable pub fed_checked : Socket → List ℕ → Outcome ℕ → Step
fed_checked s rest (refused k) = step_at_fault k
fed_checked s rest (gives n) = fed_body (moved s.stage s s.stored n 0) rest

-- the block, and the comma (44) behind it: "Input that ends before the comma's place gives 1. Then 4"; "It keeps the block at the start of a
-- lent buffer"
unfoldable pub fed_block : Socket → List ℕ → List ℕ → Stepped
fed_block s rest buffer =
    let left = s.len - s.stored in
    let filled = over buffer s.stored (take left rest) in
    let step =
    cond (leb (length rest) left) (at_more (moved (stage_number in_block) s (s.stored + length rest) s.body s.seen) 0)
    (cond (eqb (get_or rest left 0) 44)
    (fed_checked (moved s.stage s s.len s.body s.seen) (drop (left + 1) rest) (check_block (take s.len filled)))
    (step_at_fault 4))
    in
    record { step = step; buffer = filled }

-- the length digits, as read from the run: a refusal, or digits with or without their colon
unfoldable pub fed_by : Socket → List ℕ → List ℕ → Outcome Digits → Stepped
fed_by s run buffer (refused k) = record { step = step_at_fault k; buffer = buffer }
fed_by s run buffer (gives d) =
    cond d.colon (fed_block (begun d.count d.value) (drop (d.count - s.digits + 1) run) buffer)
    (record { step = at_more (begun d.count d.value) 0; buffer = buffer })

abbrev pub fed_digits : Socket → List ℕ → List ℕ → Stepped
fed_digits s run buffer = fed_by s run buffer (digits_from s.digits s.len run)

-- by the stage: "it repeats that answer, further bytes change nothing and all count as after the end"
unfoldable pub fed_at : Stage → Socket → List ℕ → List ℕ → Stepped
fed_at in_length s run buffer = fed_digits s run buffer
fed_at in_block s run buffer = fed_block s run buffer
fed_at in_body s run buffer = record { step = fed_body s run; buffer = buffer }
fed_at at_end s run buffer = record { step = step_at_end s 0 (length run); buffer = buffer }
fed_at at_fault s run buffer = record { step = step_at_end s 0 (length run); buffer = buffer }

-- "a shorter one is 21 first, after the end too, takes no bytes, changes nothing and ends nothing"
abbrev pub too_short : Socket → List ℕ → Stepped
too_short s buffer = record { step = record { state = s; answer = refused 21; body = 0; after = 0 }; buffer = buffer }

-- "a lent buffer of 16,384 bytes"
unfoldable pub feed_of : Socket → List ℕ → List ℕ → Stepped
feed_of s run buffer =
    cond (ltb (length buffer) 16384) (too_short s buffer) (fed_at (stage_of (soundly s).stage) (soundly s) run buffer)

-- For the inner steps of the code.

-- the limits that the numbers of a state are brought within
pub record Fits (s : Socket) : Type 0 where
  pub refusal : s.refusal ≤ 10
  pub digits : s.digits ≤ s.len + 1
  pub len : s.len ≤ 16384
  pub stored : s.stored ≤ s.len
  pub body : s.body ≤ 1048576
  pub seen : s.seen ≤ s.body
