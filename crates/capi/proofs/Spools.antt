-- Laws of what oy_spool gives and stores.
-- Assumes nothing.
use Prim.Native.Nat.{ℕ, ◌≤◌}
use mathlib.Core.Path.{◌≡◌, sym, ap, ◌∙◌}
use mathlib.Core.List.{List, [], ◌∷◌}
use native.Mathlib.Nat.{zero-add}
use lib.ListN.{length}
use borrow.Author.Tests.{le-leb}
use Rattle.octets.specs.Outcome.{gives}
use Rattle.octets.specs.Copy.{over}
use Rattle.scgi.specs.Spool.{ending_of, ending_refusal, SpoolDone}
use Rattle.scgi.specs.declared.spool.Spooled.{Spooled}
use Rattle.capi.specs.Answer.{Answered}
use Rattle.capi.specs.Spool.{ending_number, SpoolAnswered}

module _ (bytes d answer : List ℕ) where
  -- the spool call's answer is told, and its lengths stay, where there is room
  pub told :
      3 ≤ length answer → (d' answer' : List ℕ) (s : Spooled) → SpoolDone bytes d d' s → (kind refusal r : ℕ) → kind ≡ ending_number (ending_of s.ending)
      → refusal ≡ ending_refusal (ending_of s.ending) → Answered (gives (s.count ∷ kind ∷ refusal ∷ [])) answer answer' r
      → SpoolAnswered bytes d d' answer answer' r
  unfolding over
  told h d' answer' s done kind refusal r k f a =
      record {
        answers = rw (sym done.count, sym (k ∙ ap ending_number done.ending), sym (f ∙ ap ending_refusal done.ending)) a;
        stored = rw (le-leb 3 (length answer) h) (done.list ∙ rw (zero-add _));
      }
