use mathlib.Core.Path.{◌≡◌, refl, sym, ap, ◌∙◌}
use Prim.Native.Nat.{ℕ, ◌+◌, ◌-◌, ◌≤◌}
use mathlib.Core.List.{List}
use native.Mathlib.Omega.{arith}
use lib.ListN.{length, take, drop, length-set}
use borrow.Author.Rules.{rules}
use Rattle.octets.proofs.Lists.{from}
use Rattle.octets.specs.Outcome.{Outcome, gives, then}
use Rattle.scgi.proofs.SpoolWalks.{start, none_left, refusal, within, used-some, no_room, stored_one}
use Rattle.scgi.specs.Read.{Places, read_of, used_of}
use Rattle.scgi.proofs.spool.spool.Goals as goal
use Rattle.scgi.proofs.spool.spool.Goals.{In-Ok}

-- what the reader's answer over the bytes from i on says of their first request
used : (s : List ℕ) (i : ℕ) (o : Outcome Places) → o ≡ read_of (take (length s - i) (drop i s)) → used_of (drop i s) ≡ then o (λ p. gives p.used)
used s i o e = sym (ap (λ (x : Outcome Places). then x (λ p. gives p.used)) e ∙ ap used_of (from s i))

-- the used count, where there is a request
reads :
    (c : In-Ok)
    → (used_of (drop c.loop-next.next c.args.bytes.now) ≡ gives c.in-Ok.request.used)
reads c =
    let e = c.in-Ok.ensures in
    used c.args.bytes.now c.loop-next.next _ e

ends :
    (c : In-Ok)
    → (c.loop-next.next + c.in-Ok.request.used ≤ length c.args.bytes.now)
ends c = within c.loop-next.invariant.2 c.loop-next-test.true _ (reads c)

pub loop-next-init : goal.loop-next-init
loop-next-init c = (search rules, refl, start _ _)

pub returns-in-Err : goal.returns-in-Err
returns-in-Err c =
    let e = c.in-Err.ensures in
    refusal c.loop-next.invariant.2 c.loop-next-test.true _ _ (used c.args.bytes.now c.loop-next.next _ e) c.from.ensures

pub returns-then-lengths-count : goal.returns-then-lengths-count
returns-then-lengths-count c =
    no_room c.loop-next.invariant.2 c.loop-next-test.true _ (reads (goal.at.returns-then-lengths-count c).In-Ok) (omega arith)

pub overflow_add-next : goal.overflow_add-next
overflow_add-next c = omega (arith, ends (goal.at.overflow_add-next c).In-Ok)

pub loop-next-smaller : goal.loop-next-smaller
loop-next-smaller c =
    let i = (goal.at.loop-next-smaller c).In-Ok in
    omega (arith, ends i, used-some c.loop-next.invariant.2 c.loop-next-test.true _ (reads i))

pub loop-next-preserved : goal.loop-next-preserved
loop-next-preserved c =
    let i = (goal.at.loop-next-preserved c).In-Ok in (
      omega (arith, ends i),
      simp length-set c.loop-next.invariant.1,
      stored_one c.loop-next.invariant.2 c.loop-next-test.true _ (reads i) (omega arith),
    )

pub returns : goal.returns
returns c = none_left c.loop-next.invariant.2 c.loop-next-test.false
