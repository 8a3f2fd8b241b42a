use mathlib.Core.Path.{◌≡◌, sym, ◌∙◌}
use Prim.Native.Nat.{◌+◌}
use native.Mathlib.Omega.{arith}
use borrow.Author.Rules.{rules}
use Rattle.octets.proofs.Scans.{run-stop, run_more, run_none}
use Rattle.octets.proofs.scan.end_of.Goals as goal

pub returns-then-not-passes : goal.returns-then-not-passes
returns-then-not-passes g c = λ p t.
    let at = c.loop-i.i + c.loop-k.k in
    let says = t _ _ (search rules) c.passes.ensures in
    omega (arith, run-stop p c.args.s.now at (omega arith) (sym says ∙ c.if-not-passes.true), c.loop-k.invariant p t)

pub loop-k-preserved : goal.loop-k-preserved
loop-k-preserved g c = λ p t.
    let at = c.loop-i.i + c.loop-k.k in
    let says = t _ _ (search rules) c.passes.ensures in
    let after : at + 1 ≡ c.loop-i.i + (c.loop-k.k + 1) = omega arith in
    rw (← after) (omega (arith, run_more p c.args.s.now at (omega arith) (sym says ∙ c.if-not-passes.false), c.loop-k.invariant p t))

pub returns-then-not-passes-2 : goal.returns-then-not-passes-2
returns-then-not-passes-2 g c = λ p t.
    let says = t _ _ (search rules) c.passes-in-loop-k-2.ensures in
    omega (arith, run-stop p c.args.s.now c.loop-k-2.k c.loop-k-2-test.true (sym says ∙ c.if-not-passes-2.true), c.loop-k-2.invariant p t)

pub loop-k-2-preserved : goal.loop-k-2-preserved
loop-k-2-preserved g c = λ p t.
    let says = t _ _ (search rules) c.passes-in-loop-k-2.ensures in
    omega (arith, run_more p c.args.s.now c.loop-k-2.k c.loop-k-2-test.true (sym says ∙ c.if-not-passes-2.false), c.loop-k-2.invariant p t)

pub returns : goal.returns
returns g c = λ p t. omega (arith, run_none p c.args.s.now c.loop-k-2.k c.loop-k-2-test.false, c.loop-k-2.invariant p t)
