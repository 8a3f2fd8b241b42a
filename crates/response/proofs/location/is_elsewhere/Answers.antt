use Prim.{absurd}
use mathlib.Core.Path.{◌≡◌, sym, ◌∙◌}
use mathlib.Core.Bool.{true, false≢true}
use lib.ListN.{get_or}
use borrow.Author.Tests.{leb-true, leb-false, le-ltb}
use Rattle.octets.specs.Kinds.{is_letter}
use Rattle.octets.specs.Scan.{other}
use Rattle.octets.proofs.Scans.{run-within}
use Rattle.response.proofs.Locations.{no-letter, nothing-behind, other_name, bytes_left}
use native.Mathlib.Omega.{arith}
use Rattle.response.proofs.location.is_elsewhere.Goals as goal
use Rattle.response.proofs.location.is_elsewhere.Goals.{Else-not-is_kind, then-n-v, else-n-v}

letter : (c : Else-not-is_kind) → is_letter (get_or c.args.v.now 0 0) ≡ true
letter c = sym c.is_kind.ensures ∙ c.if-not-is_kind.false

pub returns-then-not-is_kind : goal.returns-then-not-is_kind
returns-then-not-is_kind c = sym (no-letter c.args.v.now (sym c.is_kind.ensures ∙ c.if-not-is_kind.true))

pub overflow_add-n : goal.overflow_add-n
overflow_add-n c = omega (arith, c.find-n.ensures, run-within (other 58) c.args.v.now 0 (omega arith))

pub returns-then-n-run_end : goal.returns-then-n-run_end
returns-then-n-run_end c =
    let l = letter (goal.at.returns-then-n-run_end c).Else-not-is_kind in
    elim c.if-n-v.branch [
      | then-n-v w ↦
          c.all_visible.ensures
          ∙ sym (bytes_left c.args.v.now _ l c.find-n.ensures w.if-n-v.true _ w.run_end.ensures (leb-true _ _ (sym w.value-is ∙ c.if-n-run_end.true)))
      | else-n-v w ↦ absurd (false≢true (sym (le-ltb _ _ w.if-n-v.false) ∙ sym w.value-is ∙ c.if-n-run_end.true))
    ]

pub returns-else-n-run_end : goal.returns-else-n-run_end
returns-else-n-run_end c =
    let l = letter (goal.at.returns-else-n-run_end c).Else-not-is_kind in
    elim c.if-n-v.branch [
      | then-n-v w ↦
          c.if-n-run_end.false
          ∙ sym (other_name c.args.v.now _ l c.find-n.ensures w.if-n-v.true _ w.run_end.ensures (leb-false _ _ (sym w.value-is ∙ c.if-n-run_end.false)))
      | else-n-v w ↦ c.if-n-run_end.false ∙ sym (nothing-behind c.args.v.now _ l c.find-n.ensures w.if-n-v.false)
    ]
