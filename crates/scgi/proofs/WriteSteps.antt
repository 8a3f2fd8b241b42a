-- Laws of the writer's steps, for the code that makes them.
-- Assumes nothing.
use Prim.Native.Nat.{ℕ, ◌+◌, ◌≤◌, ◌<◌}
use mathlib.Core.Path.{◌≡◌, ap, ◌∙◌}
use mathlib.Core.List.{List, [], ◌∷◌, ◌++◌, append_assoc}
use native.Mathlib.Nat.{zero-add}
use native.Mathlib.Omega.{arith}
use lib.ListN.{length, length-append}
use borrow.Author.Tests.{eq-eqb, ne_eqb, le-leb, lt-leb}
use Rattle.octets.specs.Outcome.{refused, gives}
use Rattle.octets.specs.Refusal.{number_of}
use Rattle.octets.specs.declared.refusal.Refusal.{Refusal}
use Rattle.std.proofs.Common.{Ok, Err}
use Rattle.octets.specs.Decimal.{decimal}
use Rattle.octets.specs.Copy.{over, Wrote}
use Rattle.octets.proofs.Copies.{and_then}
use Rattle.scgi.specs.Grammar.{netstring}
use Rattle.scgi.specs.Check.{check_block}
use Rattle.scgi.specs.Write.{to_write, in_room, write_of, WrittenOut, Written}
use Rattle.scgi.proofs.Requests.{netstring-length}

-- A netstring in four writes.

pub four-writes :
    (d b d₁ d₂ d₃ d₄ : List ℕ) (r₁ r₂ r₃ r₄ : ℕ) → length (netstring b) ≤ length d → Wrote d 0 (decimal (length b)) d₁ r₁
    → Wrote d₁ r₁ (58 ∷ []) d₂ r₂ → Wrote d₂ r₂ b d₃ r₃ → Wrote d₃ r₃ (44 ∷ []) d₄ r₄ → Wrote d 0 (netstring b) d₄ r₄
four-writes d b d₁ d₂ d₃ d₄ r₁ r₂ r₃ r₄ room w₁ w₂ w₃ w₄ =
    let n : length (netstring b) ≡ length (decimal (length b)) + 1 + length b + 1 = netstring-length b in
    let x₂ = and_then w₁ (omega arith) (58 ∷ []) d₂ r₂ w₂ in
    let x₃ = and_then x₂ (simp length-append (omega arith)) b d₃ r₃ w₃ in
    let x₄ = and_then x₃ (simp length-append (omega arith)) (44 ∷ []) d₄ r₄ w₄ in
    simp append_assoc at x₄

-- What is to be written goes out, or there is no room for it.

module _ (w d : List ℕ) where
  pub has_room : (after : List ℕ) (n : ℕ) → length w ≤ length d → Wrote d 0 w after n → WrittenOut (in_room w (length d)) d after (Ok n)
  unfolding over
  has_room after n h x =
      let e = le-leb (length w) (length d) h in
      record { answer = rw e (ap gives (x.ends ∙ zero-add (length w))); output = rw e (x.holds ∙ rw (zero-add (length w))) }

-- The writer's chain, and what it leaves in the output d.

module _ (block body d : List ℕ) where
  pub left_alone : (r : Refusal) → write_of block body (length d) ≡ refused (number_of r) → Written block body d d (Err r)
  left_alone r e = record { answer = rw e; output = rw e }

  pub too_large : 16384 < length block → write_of block body (length d) ≡ refused 3
  unfolding write_of to_write
  too_large h = rw (lt-leb (length block) 16384 h)

  module _ (h : length block ≤ 16384) where
    pub block_refused : (k : ℕ) → check_block block ≡ refused k → write_of block body (length d) ≡ refused k
    unfolding write_of to_write
    block_refused k e = rw (le-leb (length block) 16384 h, e)

    module _ (n : ℕ) (e : check_block block ≡ gives n) where
      pub other_length : (length body ≡ n → ⊥) → write_of block body (length d) ≡ refused 23
      unfolding write_of to_write
      other_length q = rw (le-leb (length block) 16384 h, e, ne_eqb (length body) n q)

      pub only-room : length body ≡ n → write_of block body (length d) ≡ in_room (netstring block ++ body) (length d)
      unfolding write_of to_write
      only-room q = rw (le-leb (length block) 16384 h, e, eq-eqb (length body) n q)

-- how many bytes are to be written
pub size_is : (block body : List ℕ) → length (netstring block ++ body) ≡ length (decimal (length block)) + 2 + length block + length body
size_is block body = length-append (netstring block) body ∙ omega (arith, netstring-length block)
