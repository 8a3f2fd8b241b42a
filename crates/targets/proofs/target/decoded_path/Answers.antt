use Prim.{absurd}
use native.Mathlib.Omega.{arith}
use mathlib.Core.Path.{sym, ◌∙◌}
use borrow.Author.Tests.{eq-eqb, ne_eqb, eqb-true}
use Rattle.octets.proofs.Bools.{and-false}
use Rattle.targets.specs.Target.{decoded_right}
use Rattle.targets.proofs.target.decoded_path.Goals as goal
use Rattle.targets.proofs.target.decoded_path.Goals.{then-slashes-before, else-slashes-before}

pub returns-then-all_plain : goal.returns-then-all_plain
unfolding decoded_right
returns-then-all_plain c =
    elim c.if-slashes-before.branch [
      | then-slashes-before w ↦ (
          let plain = sym w.all_plain.ensures ∙ sym w.value-is ∙ c.if-all_plain.true in
          rw (sym c.slashes.ensures, eq-eqb c.slashes.result c.args.before (omega (arith, w.if-slashes-before.true)), plain) c.segments.ensures)
      | else-slashes-before w ↦ absurd (w.if-slashes-before.false (eqb-true _ _ (sym w.value-is ∙ c.if-all_plain.true)))
    ]

pub returns-else-all_plain : goal.returns-else-all_plain
unfolding decoded_right
returns-else-all_plain c =
    elim c.if-slashes-before.branch [
      | then-slashes-before w ↦ (
          let plain = sym w.all_plain.ensures ∙ sym w.value-is ∙ c.if-all_plain.false in
          rw c.if-all_plain.false (simp (plain, and-false)))
      | else-slashes-before w ↦ rw (c.if-all_plain.false, sym c.slashes.ensures, ne_eqb c.slashes.result c.args.before (λ e. omega arith))
    ]
