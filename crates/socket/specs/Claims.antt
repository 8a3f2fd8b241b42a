-- What is claimed of the reader of bytes that come in runs.
-- Assumes nothing.
use Rattle.std.specs.Prelude.{ℕ, ◌+◌, ◌-◌, ◌≤◌, ◌<◌, ◌≡◌, true, ◌⊎◌, ◌↔◌, List, [], ◌∷◌, ◌++◌, length, take, drop}
use Rattle.octets.specs.Outcome.{Outcome, refused, gives, then}
use Rattle.octets.specs.Kinds.{one_of}
use Rattle.octets.specs.Copy.{over}
use Rattle.scgi.specs.Check.{check_block}
use Rattle.scgi.specs.Netstring.{length_of}
use Rattle.scgi.specs.declared.netstring.Length.{Length}
use Rattle.scgi.specs.Read.{Places, read_of, block_in, body_in}
use Rattle.socket.specs.Socket.{Ended, Step, Stepped, new, too_short, feed_of}
use Rattle.socket.specs.declared.reader.Socket.{Socket}

-- the block's bytes among s
abbrev pub stored_by : List ℕ → Outcome Length → List ℕ
stored_by s (refused n) = []
stored_by s (gives l) = take l.len (drop l.next s)

-- the buffer after the bytes s were taken: "It keeps the block at the start of a lent buffer", and "its contents at each step are stated"
unfoldable pub held_of : List ℕ → List ℕ → List ℕ
held_of lent s = over lent 0 (stored_by s (length_of s))

-- what 01's reader gives over s, where the block is at the start of the buffer
abbrev pub ended_by : Places → Ended
ended_by p = record { block_length = p.block_length; body_length = p.body_length; used = p.used }

abbrev pub answer_of : List ℕ → Outcome Ended
answer_of s = then (read_of s) (λ p. gives (ended_by p))

-- the bytes of a run that belong to the body: the last ones before those that come after the end
abbrev pub body_part : List ℕ → Step → List ℕ
body_part run f = take f.body (drop (length run - f.after - f.body) run)

-- the state, the buffer and the body's bytes so far, after runs whose joined bytes are taken: "if from a new state on state and buffer come
-- back untouched each time". A call with a buffer that is too short may come between: it "takes no bytes"
pub data Came (lent : List ℕ) : (taken body : List ℕ) → Socket → (buffer : List ℕ) → Type 0 where
  at_start : Came lent [] [] new lent
  one_more :
      {taken body buffer : List ℕ} {s : Socket} (run : List ℕ) → Came lent taken body s buffer
      → Came lent (taken ++ run) (body ++ body_part run (feed_of s run buffer).step) (feed_of s run buffer).step.state (feed_of s run buffer).buffer
  not_taken :
      {taken body buffer : List ℕ} {s : Socket} (run short : List ℕ) → length short < 16384 → Came lent taken body s buffer
      → Came lent taken (body ++ body_part run (feed_of s run short).step) (feed_of s run short).step.state buffer

-- what the next run gives, over the joined bytes s: "the refusal, the block, the body bytes in order and the used count equal those of 01's
-- reader". The body's bytes are known as they come: whatever more follows, they are the first of the request's body; where the reader
-- refuses, no run has counted one
pub record Reads (lent s body run : List ℕ) (f : Stepped) : Type 0 where
  pub answer : f.step.answer ≡ answer_of s
  pub within : f.step.body + f.step.after ≤ length run
  pub buffer : f.buffer ≡ held_of lent s
  pub block : (p : Places) → read_of s ≡ gives p → take p.block_length f.buffer ≡ block_in s p
  pub body_bytes :
      (more : List ℕ) (p : Places) → read_of (s ++ more) ≡ gives p
      → body ++ body_part run f.step ≡ take (length s - p.body_start) (body_in (s ++ more) p)
  pub no_body : (k : ℕ) → read_of s ≡ refused k → (k ≡ 1 → ⊥) → body ++ body_part run f.step ≡ []

-- the counts of a run after which s has come, where the request had not ended before it: none are after the end before it; in the run that
-- brings the end "used" and these make up all bytes taken; "The run that brings a refusal other than 1 counts 0 for both"
pub record Counts (s : List ℕ) (f : Step) : Type 0 where
  pub before : read_of s ≡ refused 1 → f.after ≡ 0
  pub ends : (p : Places) → read_of s ≡ gives p → p.used + f.after ≡ length s
  pub refuses : (k : ℕ) → read_of s ≡ refused k → (k ≡ 1 → ⊥) → (f.body ≡ 0) × (f.after ≡ 0)

-- "Whatever the cutting": over every list of runs, and after each of them
pub record SocketReads : Type 0 where
  pub reads :
      (lent taken body buffer : List ℕ) (s : Socket) → 16384 ≤ length lent → Came lent taken body s buffer → (run : List ℕ)
      → Reads lent (taken ++ run) body run (feed_of s run buffer)
  pub counts :
      (lent taken body buffer : List ℕ) (s : Socket) → 16384 ≤ length lent → Came lent taken body s buffer → read_of taken ≡ refused 1
      → (run : List ℕ) → Counts (taken ++ run) (feed_of s run buffer).step

-- "Once it has answered anything but 1 and that 21, it repeats that answer, further bytes change nothing and all count as after the end."
pub record Stays (taken : List ℕ) (s : Socket) (run buffer : List ℕ) (f : Stepped) : Type 0 where
  pub repeats : f.step.answer ≡ answer_of taken
  pub state : f.step.state ≡ s
  pub buffer_as_was : f.buffer ≡ buffer
  pub no_body : f.step.body ≡ 0
  pub all_after : f.step.after ≡ length run

abbrev pub EndStays : Type 0
EndStays =
    (lent taken body buffer : List ℕ) (s : Socket) → 16384 ≤ length lent → Came lent taken body s buffer → (read_of taken ≡ refused 1 → ⊥)
    → (run : List ℕ) → Stays taken s run buffer (feed_of s run buffer)

-- the state tells block and body length: the block is right, and whatever more follows, it is that of the request
pub record Tells (taken buffer : List ℕ) (s : Socket) : Type 0 where
  pub checks : check_block (take s.len buffer) ≡ gives s.body
  pub is :
      (more : List ℕ) (p : Places) → read_of (taken ++ more) ≡ gives p
      → (take s.len buffer ≡ block_in (taken ++ more) p) × (s.body ≡ p.body_length)

-- in the body and at the end the block is known, at the front of the buffer
abbrev pub BlockKnown : Type 0
BlockKnown =
    (lent taken body buffer : List ℕ) (s : Socket) → 16384 ≤ length lent → Came lent taken body s buffer → (s.stage ≡ 2) ⊎ (s.stage ≡ 3)
    → Tells taken buffer s

-- where the input ends, nothing of a request has come exactly where the state is in the length digits and has none
abbrev pub NoneTaken : Type 0
NoneTaken =
    (lent taken body buffer : List ℕ) (s : Socket) → 16384 ≤ length lent → Came lent taken body s buffer
    → (taken ≡ []) ↔ ((s.stage ≡ 0) × (s.digits ≡ 0))

-- "a shorter one is 21 first, after the end too, takes no bytes, changes nothing and ends nothing": of any state
abbrev pub ShortChangesNothing : Type 0
ShortChangesNothing = (s : Socket) (run buffer : List ℕ) → length buffer < 16384 → feed_of s run buffer ≡ too_short s buffer

-- the numbers that are answered, also of a state that did not come from a call: the reader's, and 21
abbrev pub socket_numbers : List ℕ
socket_numbers = 1 ∷ 2 ∷ 3 ∷ 4 ∷ 5 ∷ 6 ∷ 7 ∷ 8 ∷ 9 ∷ 10 ∷ 21 ∷ []

abbrev pub SocketNumbers : Type 0
SocketNumbers = (s : Socket) (run buffer : List ℕ) (n : ℕ) → (feed_of s run buffer).step.answer ≡ refused n → one_of socket_numbers n ≡ true
