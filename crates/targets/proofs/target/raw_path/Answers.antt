use native.Mathlib.Omega.{arith}
use mathlib.Core.Path.{◌≡◌, sym, ap, ◌∙◌}
use lib.Seq.{length-take-le}
use borrow.Author.Tests.{eqb-true, eqb-false}
use Rattle.octets.specs.Scan.{count}
use Rattle.targets.specs.Target.{path_of}
use Rattle.targets.proofs.Targets.{raw-empty, raw-long, raw-start, raw-byte, raw-escapes, raw-slashes, raw-whole, path_inside, path-ends, path-taken}
use Rattle.targets.proofs.target.raw_path.Goals as goal
use Rattle.targets.proofs.target.raw_path.Goals.{After-slashes-slashes, then-is_empty-via-then-is_empty, then-is_empty-via-else-is_empty+then-t-gt4096, then-is_empty-via-else-is_empty+else-t-gt4096+then-t-ne47, then-run_end-t-via-then-run_end-t, then-run_end-t-via-else-run_end-t+then-not-escapes}

slashes_are : (c : After-slashes-slashes) → c.slashes-slashes.result ≡ count 47 (path_of c.args.t.now)
slashes_are c = c.slashes-slashes.ensures ∙ ap (count 47) (path-taken c.args.t.now _ c.find-path_len.ensures)

pub returns-then-is_empty : goal.returns-then-is_empty
returns-then-is_empty c =
    elim c.then-is_empty.branch [
      | then-is_empty-via-then-is_empty w ↦ sym (raw-empty _ (eqb-true _ _ (sym c.is_empty.ensures ∙ w.if-is_empty.true)))
      | then-is_empty-via-else-is_empty+then-t-gt4096 w ↦ sym (raw-long _ w.if-t-gt4096.true)
      | then-is_empty-via-else-is_empty+else-t-gt4096+then-t-ne47 w ↦ sym (raw-start _ w.if-t-ne47.true)
    ]

pub returns-then-run_end-t : goal.returns-then-run_end-t
returns-then-run_end-t c =
    elim c.then-run_end-t.branch [
      | then-run_end-t-via-then-run_end-t w ↦ sym (raw-byte _ _ c.run_end.ensures w.if-run_end-t.true)
      | then-run_end-t-via-else-run_end-t+then-not-escapes w ↦ sym (raw-escapes _ (sym w.escapes.ensures ∙ w.if-not-escapes.true))
    ]

pub slice_bounds-slashes-end : goal.slice_bounds-slashes-end
slice_bounds-slashes-end c =
    let t = c.args.t.now in
    sym (length-take-le _ t (path_inside t _ c.find-path_len.ensures))

pub returns-then-slashes-gt64 : goal.returns-then-slashes-gt64
returns-then-slashes-gt64 c = sym (raw-slashes _ (omega (arith, slashes_are (goal.at.returns-then-slashes-gt64 c).After-slashes-slashes, c.if-slashes-gt64.true)))

pub returns : goal.returns
returns c =
    let t = c.args.t.now in
    rw (path-ends t _ c.find-path_len.ensures, slashes_are (goal.at.returns c).After-slashes-slashes)
    (sym
    (raw-whole t
    (eqb-false _ _ (sym c.is_empty.ensures ∙ c.if-is_empty.false))
    c.if-t-gt4096.false
    c.if-t-ne47.false
    _
    c.run_end.ensures
    c.if-run_end-t.false
    (sym c.escapes.ensures ∙ c.if-not-escapes.false)
    (omega (arith, slashes_are (goal.at.returns c).After-slashes-slashes, c.if-slashes-gt64.false))))
