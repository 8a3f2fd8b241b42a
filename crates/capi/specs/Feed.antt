-- The struct that oy_socket_feed gives.
-- Assumes nothing.
use Rattle.std.specs.Prelude.{◌≡◌, List, ℕ}
use Rattle.octets.specs.Outcome.{Outcome, refused, gives, refusal_of}
use Rattle.socket.specs.Socket.{Ended, Stepped}
use Rattle.capi.specs.declared.feed.Fed.{Fed}

-- the numbers of the end; 0 each where it has not come
abbrev pub end_numbers : Outcome Ended → Ended
end_numbers (gives e) = e
end_numbers (refused n) = record { block_length = 0; body_length = 0; used = 0 }

-- what a run gave and left in the buffer; the refusal is 0 at the end
pub record FedAnswered (f : Stepped) (left : List ℕ) (r : Fed) : Type 0 where
  pub state : r.state ≡ f.step.state
  pub refusal : r.refusal ≡ refusal_of f.step.answer
  pub body : r.body ≡ f.step.body
  pub after : r.after ≡ f.step.after
  pub block_len : r.block_len ≡ (end_numbers f.step.answer).block_length
  pub body_len : r.body_len ≡ (end_numbers f.step.answer).body_length
  pub used : r.used ≡ (end_numbers f.step.answer).used
  pub buffer : left ≡ f.buffer
