-- Each claim of specs/Claims.antt, proved.
-- Assumes nothing.
use Prim.Native.Nat.{ℕ}
use mathlib.Core.Path.{◌≡◌, refl, sym, ◌∙◌}
use mathlib.Core.Bool.{Bool, true, false, cond, false≢true}
use mathlib.Core.List.{List}
use native.Mathlib.Omega.{arith}
use lib.Dec.{eqb, leb}
use lib.ListN.{length}
use Rattle.octets.specs.Outcome.{Outcome, refused, gives, refusal_of, then, need}
use Rattle.scgi.specs.Read.{read_of}
use Rattle.scgi.specs.Write.{write_of, output_after}
use Rattle.headers.specs.Lookup.{lookup_of}
use Rattle.headers.specs.Setting.{setting_of}
use Rattle.scgi.specs.Spool.{requests_of}
use Rattle.scgi.proofs.Claims.{numbers-hold}
use Rattle.socket.specs.Socket.{Ended, feed_of}
use Rattle.socket.proofs.Claims.{socket-numbers}
use Rattle.headers.proofs.Claims as Headers
use Rattle.editions.specs.Edition.{response_by}
use Rattle.editions.specs.declared.edition.Edition.TheVariants.{Rfc, Draft}
use Rattle.editions.proofs.Claims as Editions
use Rattle.gateway.specs.Step.{step_of}
use Rattle.gateway.proofs.Claims as Gateway
use Rattle.capi.specs.Answer.{fitting, returned}
use Rattle.capi.specs.Read.{places_numbers}
use Rattle.capi.specs.Write.{count_numbers, write_gives}
use Rattle.capi.specs.Find.{part_numbers}
use Rattle.capi.specs.Setting.{held_numbers}
use Rattle.capi.specs.Spool.{spool_numbers, spool_gives}
use Rattle.capi.specs.Respond.{answer_numbers, response_for}
use Rattle.capi.specs.Forward.{forward_numbers, gateway_gives}
use Rattle.capi.specs.Claims.{Given, ZeroGives, ZeroIsGiven, IsEnd, ZeroIsEnd, RefusalKeeps}

-- a lower call that never refuses with 0, told by the numbers f
told : {A : Type 0} (f : A → List ℕ) (o : Outcome A) → (o ≡ refused 0 → ⊥) → ZeroGives (then o (λ a. gives (f a)))
told f (refused n) h list e = absurd (h (rw e))
told f (gives a) h list e = by (leb (length (f a)) (length list)) e
  where
    by : (t : Bool) → returned (need t 21 (gives (f a))) ≡ 0 → Given (need t 21 (gives (f a)))
    by true e = record { numbers = f a; is = refl }
    by false e = absurd (omega arith)

-- a response is refused with 20, or with a number of its edition
not-refused-0 : (n : ℕ) (m s : List ℕ) → response_for n m s ≡ refused 0 → ⊥
not-refused-0 n m s = by (eqb n 0) (eqb n 1)
  where
    by : (t u : Bool) → then (cond t (gives Rfc) (cond u (gives Draft) (refused 20))) (λ e. response_by e m s) ≡ refused 0 → ⊥
    by true u e = false≢true (Editions.numbers-hold Rfc m s 0 e)
    by false true e = false≢true (Editions.numbers-hold Draft m s 0 e)
    by false false e = let z : ◌≡◌ {A = ℕ} 20 0 = cc in omega arith

pub zero-is-given : ZeroIsGiven
zero-is-given =
    record {
      read = λ s. told places_numbers (read_of s) (λ e. false≢true (numbers-hold.reader s 0 e));
      write = λ b y room. told count_numbers (write_of b y room) (λ e. false≢true (numbers-hold.writer b y room 0 e));
      find = λ b n. told part_numbers (lookup_of b n) (λ e. omega (arith, (Headers.numbers-hold).lookup b n 0 e));
      setting = λ f s n. told held_numbers (setting_of f s n) (λ e. omega (arith, (Headers.numbers-hold).setting f s n 0 e));
      spool = λ s room. told spool_numbers (gives (requests_of s room)) (λ e. let z : ◌≡◌ {A = ℕ} 0 1 = cc in omega arith);
      respond = λ n m s. told answer_numbers (response_for n m s) (not-refused-0 n m s);
      gateway = λ f s m h room. told forward_numbers (step_of f s m h room) (λ e. false≢true (Gateway.numbers-hold f s m h room 0 e));
    }

-- an answer whose number is 0, where no refusal has that number
ended : (o : Outcome Ended) → (o ≡ refused 0 → ⊥) → refusal_of o ≡ 0 → IsEnd o
ended (refused n) h e = absurd (h (rw e))
ended (gives x) h e = record { end = x; is = refl }

pub zero-is-end : ZeroIsEnd
zero-is-end s run block left r f e =
    ended (feed_of s run block).step.answer (λ q. false≢true (socket-numbers s run block 0 q)) (sym f.refusal ∙ e)

-- p is what the call gives
kept : (p : Outcome (List ℕ)) (d after : List ℕ) (r : ℕ) → r ≡ returned p → (r ≡ 0 → ⊥) → after ≡ output_after p d → after ≡ d
kept (refused n) d after r e h f = f
kept (gives ns) d after r e h f = absurd (h e)

-- .. and q what goes to another buffer
kept_by :
    (p q : Outcome (List ℕ)) (d after : List ℕ) (r : ℕ) → r ≡ returned p → (r ≡ 0 → ⊥) → after ≡ output_after (then p (λ ns. q)) d → after ≡ d
kept_by (refused n) q d after r e h f = f
kept_by (gives ns) q d after r e h f = absurd (h e)

pub refusal-keeps : RefusalKeeps
refusal-keeps =
    record {
      answer = λ o before after r a h. kept (fitting o before) before after r a.number h a.list;
      output = λ b y out out' answer answer' r a h.
          kept_by (fitting (write_gives b y (length out)) answer) (write_of b y (length out)) out out' r a.answers.number h a.output;
      lengths = λ s d d' answer answer' r a h.
          kept_by (fitting (spool_gives s (length d)) answer) (gives (requests_of s (length d)).lengths) d d' r a.answers.number h a.stored;
      scgi = λ f s m t out out' answer answer' r a h.
          kept_by (fitting (gateway_gives f s m t (length out)) answer) (then (step_of f s m t (length out)) (λ w. gives w.scgi)) out out' r a.answers.number h a.output;
    }
