-- What is claimed of the calls.
-- Assumes nothing.
use Rattle.std.specs.Prelude.{ℕ, ◌≡◌, List}
use Rattle.octets.specs.Outcome.{Outcome, gives}
use Rattle.capi.specs.Answer.{fitting, returned, Answered}
use Rattle.capi.specs.Read.{read_gives}
use Rattle.capi.specs.Write.{write_gives, WriteAnswered}
use Rattle.capi.specs.Find.{find_gives}
use Rattle.capi.specs.Setting.{setting_gives}
use Rattle.capi.specs.Spool.{spool_gives, SpoolAnswered}
use Rattle.socket.specs.Socket.{Ended, feed_of}
use Rattle.socket.specs.declared.reader.Socket.{Socket}
use Rattle.capi.specs.Feed.{FedAnswered}
use Rattle.capi.specs.declared.feed.Fed.{Fed}
use Rattle.capi.specs.Respond.{response_gives}
use Rattle.capi.specs.Forward.{gateway_gives, GatewayAnswered}

-- the numbers that were given
pub record Given (o : Outcome (List ℕ)) : Type 0 where
  pub numbers : List ℕ
  pub is : o ≡ gives numbers

-- whatever the lent list, 0 says that the numbers were given
abbrev pub ZeroGives : Outcome (List ℕ) → Type 0
ZeroGives o = (list : List ℕ) → returned (fitting o list) ≡ 0 → Given (fitting o list)

-- no refusal has the number 0, so a call that returns 0 has given its numbers
pub record ZeroIsGiven : Type 0 where
  pub read : (bytes : List ℕ) → ZeroGives (read_gives bytes)
  pub write : (block body : List ℕ) (room : ℕ) → ZeroGives (write_gives block body room)
  pub find : (block name : List ℕ) → ZeroGives (find_gives block name)
  pub setting : (facts site name : List ℕ) → ZeroGives (setting_gives facts site name)
  pub spool : (bytes : List ℕ) (room : ℕ) → ZeroGives (spool_gives bytes room)
  pub respond : (edition : ℕ) (method script : List ℕ) → ZeroGives (response_gives edition method script)
  pub gateway : (facts site mounts http : List ℕ) (room : ℕ) → ZeroGives (gateway_gives facts site mounts http room)

-- the end of a request, with its numbers
pub record IsEnd (o : Outcome Ended) : Type 0 where
  pub end : Ended
  pub is : o ≡ gives end

-- of oy_socket_feed too: no refusal has the number 0, so where it is 0 the answer is an end, whatever the state
abbrev pub ZeroIsEnd : Type 0
ZeroIsEnd =
    (s : Socket) (run block left : List ℕ) (r : Fed) → FedAnswered (feed_of s run block) left r → r.refusal ≡ 0
    → IsEnd (feed_of s run block).step.answer

-- where a call does not return 0, nothing that was lent is changed: "Every refusal .. changes no byte of the output"
pub record RefusalKeeps : Type 0 where
  pub answer : (o : Outcome (List ℕ)) (before after : List ℕ) (r : ℕ) → Answered o before after r → (r ≡ 0 → ⊥) → after ≡ before
  pub output :
      (block body out out' answer answer' : List ℕ) (r : ℕ) → WriteAnswered block body out out' answer answer' r → (r ≡ 0 → ⊥) → out' ≡ out
  pub lengths :
      (bytes lengths lengths' answer answer' : List ℕ) (r : ℕ) → SpoolAnswered bytes lengths lengths' answer answer' r → (r ≡ 0 → ⊥)
      → lengths' ≡ lengths
  pub scgi :
      (facts site mounts http out out' answer answer' : List ℕ) (r : ℕ) → GatewayAnswered facts site mounts http out out' answer answer' r
      → (r ≡ 0 → ⊥) → out' ≡ out
