use Prim.Native.Nat.{ℕ, ◌≤◌, ◌<◌}
use mathlib.Core.Path.{◌≡◌, sym}
use mathlib.Core.List.{List}
use lib.ListN.{length}
use borrow.Author.Tests.{le-leb, lt-leb}
use Rattle.octets.specs.Outcome.{refused, gives}
use Rattle.gateway.specs.Body.{body_of, length_of}
use Rattle.gateway.proofs.body.read_body.Goals as goal

module _ (most n : ℕ) (s : List ℕ) where
  above : most < n → length_of most n s ≡ refused 9
  unfolding body_of
  above a = rw (lt-leb n most a)

  module _ (a : n ≤ most) where
    short : length s < n → length_of most n s ≡ refused 1
    unfolding body_of
    short b = rw (le-leb n most a, lt-leb n (length s) b)

    there : n ≤ length s → length_of most n s ≡ gives n
    unfolding body_of
    there b = rw (le-leb n most a, le-leb n (length s) b)

pub returns-then-limit-stated : goal.returns-then-limit-stated
returns-then-limit-stated c = sym (above _ _ _ c.if-limit-stated.true)

pub returns-then-after-len : goal.returns-then-after-len
returns-then-after-len c = sym (short _ _ _ c.if-limit-stated.false c.if-after-len.true)

pub returns : goal.returns
returns c = sym (there _ _ _ c.if-limit-stated.false c.if-after-len.false)
