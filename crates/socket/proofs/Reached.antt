-- What has come, by the stage, and what feeding a run gives.
-- Assumes nothing.
use Prim.Native.Nat.{ℕ, min, ◌+◌, ◌-◌, ◌≤◌, ◌<◌}
use Prim.{absurd}
use mathlib.Core.Path.{◌≡◌, refl, sym, ap, ◌∙◌}
use mathlib.Core.Bool.{true, false}
use mathlib.Core.List.{List, [], ◌∷◌, ◌++◌, append_assoc}
use native.Mathlib.Omega.{arith}
use lib.ListN.{length, get_or, take, drop, length-drop, take-append-drop}
use lib.Seq.{drop-drop}
use borrow.Author.Tests.{le-leb, ne_eqb}
use Rattle.octets.specs.Outcome.{Outcome, refused, gives}
use Rattle.octets.specs.Scan.{all_of}
use Rattle.octets.proofs.Refusals.{one_of_all}
use Rattle.scgi.specs.Check.{check_block}
use Rattle.scgi.specs.Digits.{digits_from}
use Rattle.scgi.specs.Read.{Places, places_at, read_of, body_in}
use Rattle.scgi.proofs.Claims.{numbers-hold, digits-go-on}
use Rattle.socket.specs.Socket.{Stage, in_length, in_block, in_body, at_end, at_fault, stage_of, faulted, Fits, is_kept, soundly, Step, Stepped}
use Rattle.socket.specs.Claims.{held_of, answer_of, body_part, Counts}
use Rattle.socket.specs.declared.reader.Socket.{Socket}
use Rattle.socket.proofs.Held.{digits_in, length_in, Said}

-- What has come.

pub record InLength (s : Socket) (t b : List ℕ) : Type 0 where
  pub said : digits_from 0 0 t ≡ gives (digits_in s false)
  pub no_body : b ≡ []

pub record InBlock (s : Socket) (t b : List ℕ) : Type 0 where
  pub none : s.refusal ≡ 0
  pub said : Said s t
  pub count : length t ≡ s.digits + 1 + s.stored
  pub no_body : b ≡ []

pub record InBody (s : Socket) (t b : List ℕ) : Type 0 where
  pub none : s.refusal ≡ 0
  pub said : Said s t
  pub count : length t ≡ s.digits + 1 + s.len + 1 + s.seen
  pub comma : get_or t (s.digits + 1 + s.len) 0 ≡ 44
  pub checked : check_block (take s.len (drop (s.digits + 1) t)) ≡ gives s.body
  pub bytes : b ≡ drop (s.digits + 1 + s.len + 1) t

pub record AtEnd (s : Socket) (t b : List ℕ) : Type 0 where
  pub whole : s.stage ≡ 3
  pub read : read_of t ≡ gives (places_at (length_in s) s.body)
  pub bytes : b ≡ body_in t (places_at (length_in s) s.body)

pub record AtFault (s : Socket) (t b : List ℕ) : Type 0 where
  pub ended : s.stage ≡ 4
  pub refuses : read_of t ≡ refused s.refusal
  pub not_cut : s.refusal ≡ 1 → ⊥
  pub no_body : b ≡ []

-- .. where every byte is a digit
pub digit-count : (s : Socket) (t b : List ℕ) → InLength s t b → length t ≡ s.digits
digit-count s t b i =
    sym ((digits-go-on.within t 0 0 (digits_in s false) (omega arith) (omega arith) i.said).all_digits refl ∙ omega arith)

abbrev pub At : Stage → Socket → List ℕ → List ℕ → Type 0
At in_length s t b = InLength s t b
At in_block s t b = InBlock s t b
At in_body s t b = InBody s t b × (s.seen < s.body)
At at_end s t b = AtEnd s t b
At at_fault s t b = AtFault s t b

-- what feeding rest after t gives; of the counts only where Q holds
pub record Reached (Q : Type 0) (lent t rest b : List ℕ) (f : Stepped) : Type 0 where
  pub fits : Fits f.step.state
  pub sound : soundly f.step.state ≡ f.step.state
  pub counts : Q → Counts (t ++ rest) f.step
  pub within_run : f.step.body + f.step.after ≤ length rest
  pub answer : f.step.answer ≡ answer_of (t ++ rest)
  pub buffer : f.buffer ≡ held_of lent (t ++ rest)
  pub at : At (stage_of f.step.state.stage) f.step.state (t ++ rest) (b ++ body_part rest f.step)

-- States that a call brings within its limits are those that came back from one.

pub sound-open : (s : Socket) → s.stage ≤ 3 → Fits s → s.refusal ≡ 0 → soundly s ≡ s
sound-open s h F none =
    let v : min s.len 16384 ≡ s.len = omega (arith, F.len) in
    let n : min s.digits (s.len + 1) ≡ s.digits = omega (arith, F.digits) in
    let k : min s.stored s.len ≡ s.stored = omega (arith, F.stored) in
    let b : min s.body 1048576 ≡ s.body = omega (arith, F.body) in
    let m : min s.seen s.body ≡ s.seen = omega (arith, F.seen) in
    rw (le-leb s.stage 3 h, v, n, k, b, m)
    (ap {B = Socket} (λ (r : ℕ).
    record { stage = s.stage; refusal = r; digits = s.digits; len = s.len; stored = s.stored; body = s.body; seen = s.seen }) (sym none))

-- the numbers of a refusal other than 1
pub fault-within : (t : List ℕ) (k : ℕ) → read_of t ≡ refused k → (k ≡ 1 → ⊥) → is_kept k ≡ true
unfolding all_of
fault-within t k e n =
    let h = rw (ne_eqb k 1 n) at (numbers-hold.reader t k e) in
    one_of_all is_kept (2 ∷ 3 ∷ 4 ∷ 5 ∷ 6 ∷ 7 ∷ 8 ∷ 9 ∷ 10 ∷ []) refl k h

pub sound-faulted : (k : ℕ) → is_kept k ≡ true → soundly (faulted k) ≡ faulted k
sound-faulted k e = rw e

-- The counts, by what the reader gives.

pub not-both : (t : List ℕ) (p : Places) (k : ℕ) → read_of t ≡ gives p → read_of t ≡ refused k → ⊥
not-both t p k e r = let q : gives p ≡ refused k = sym e ∙ r in let z : ◌≡◌ {A = ℕ} 0 1 = cc in omega arith

pub same-refusal : (t : List ℕ) (j k : ℕ) → read_of t ≡ refused j → read_of t ≡ refused k → j ≡ k
same-refusal t j k e r = let q : ◌≡◌ {A = Outcome Places} (refused j) (refused k) = sym e ∙ r in cc

-- a state that ended in a refusal was not cut
pub fault-not-cut : (s : Socket) (t b : List ℕ) → AtFault s t b → read_of t ≡ refused 1 → ⊥
fault-not-cut s t b a r = a.not_cut (same-refusal t s.refusal 1 a.refuses r)

pub counts-before : (t : List ℕ) (f : Step) → read_of t ≡ refused 1 → f.after ≡ 0 → Counts t f
counts-before t f r a =
    record {
      before = λ e. a;
      ends = λ p e. absurd (not-both t p 1 e r);
      refuses = λ k e n. absurd (n (same-refusal t k 1 e r));
    }

pub counts_end : (t : List ℕ) (f : Step) (p : Places) → read_of t ≡ gives p → p.used + f.after ≡ length t → Counts t f
counts_end t f p r u =
    record {
      before = λ e. absurd (not-both t p 1 r e);
      ends = λ q e. let z : gives p ≡ gives q = sym r ∙ e in let y : p ≡ q = cc in rw (← y) u;
      refuses = λ k e n. absurd (not-both t p k r e);
    }

pub counts-fault : (t : List ℕ) (f : Step) (k : ℕ) → read_of t ≡ refused k → (k ≡ 1 → ⊥) → f.body ≡ 0 → f.after ≡ 0 → Counts t f
counts-fault t f k r n b a =
    record {
      before = λ e. a;
      ends = λ p e. absurd (not-both t p k e r);
      refuses = λ j e m. (b, a);
    }

-- what the reader's refusal is told as
pub told : (t : List ℕ) (k : ℕ) → read_of t ≡ refused k → refused k ≡ answer_of t
told t k e = rw e

-- What was reached by a last part of the run was reached by the run.

part-suffix :
    (run : List ℕ) (j n m : ℕ) → j ≤ length run → n + m ≤ length (drop j run)
    → take n (drop (length (drop j run) - m - n) (drop j run)) ≡ take n (drop (length run - m - n) run)
part-suffix run j n m h k =
    let l : length (drop j run) ≡ length run - j = length-drop j run in
    let e : j + (length (drop j run) - m - n) ≡ length run - m - n = omega arith in
    ap (take n) (drop-drop (length (drop j run) - m - n) j run ∙ ap (λ (i : ℕ). drop i run) e)

pub by-suffix :
    (Q : Type 0) (lent t rest b : List ℕ) (j : ℕ) (f : Stepped) → j ≤ length rest → Reached Q lent (t ++ take j rest) (drop j rest) b f
    → Reached Q lent t rest b f
by-suffix Q lent t rest b j f h r =
    let a : (t ++ take j rest) ++ drop j rest ≡ t ++ rest =
    append_assoc t (take j rest) (drop j rest) ∙ ap (λ (x : List ℕ). t ++ x) (take-append-drop j rest) in
    let l : length (drop j rest) ≡ length rest - j = length-drop j rest in
    let p : body_part (drop j rest) f.step ≡ body_part rest f.step = part-suffix rest j f.step.body f.step.after h r.within_run in
    record {
      fits = r.fits;
      sound = r.sound;
      counts = λ q. rw a at (r.counts q);
      within_run = omega (arith, r.within_run);
      answer = rw a at r.answer;
      buffer = rw a at r.buffer;
      at = rw (a, p) at r.at;
    }
