use mathlib.Core.Path.{refl, sym, ◌∙◌}
use Prim.Native.Nat.{◌+◌}
use Rattle.octets.specs.Scan.{other}
use Rattle.octets.proofs.Scans.{run-within}
use Rattle.http_head.proofs.LineCuts.{line-stop, line-more, line-none, line_on}
use native.Mathlib.Omega.{arith}
use Rattle.http_head.proofs.lines.line_end.Goals as goal

pub loop-i-init : goal.loop-i-init
loop-i-init c =
    let a = c.args in
    (omega (arith, run-within (other 13) a.s.now a.from c.requires), line_on (other 13) refl a.s.now a.from c.find_far-i.result c.find_far-i.ensures)

pub returns-then-ends_line : goal.returns-then-ends_line
returns-then-ends_line c =
    omega (arith, line-stop c.args.s.now c.loop-i.i c.loop-i-test.true (sym c.ends_line.ensures ∙ c.if-ends_line.true))

pub loop-i-preserved : goal.loop-i-preserved
loop-i-preserved c =
    let s = c.args.s.now in
    let i = c.loop-i.i in
    let h = c.loop-i-test.true in (
      omega (arith, run-within (other 13) s (i + 1) (omega arith)),
      omega (arith, line-more s i h (sym c.ends_line.ensures ∙ c.if-ends_line.false), line_on (other 13) refl s (i + 1) c.find_beyond-i.result c.find_beyond-i.ensures),
    )

pub returns : goal.returns
returns c =
    omega (arith, line-none c.args.s.now c.loop-i.i c.loop-i-test.false)
