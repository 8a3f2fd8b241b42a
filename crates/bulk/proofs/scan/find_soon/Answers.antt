use mathlib.Core.Path.{◌≡◌, ap, ◌∙◌}
use mathlib.Core.Bool.{true}
use Prim.Native.Nat.{◌≤◌}
use native.Mathlib.Nat.{zero-add}
use native.Mathlib.Omega.{arith}
use lib.ListN.{length, take, drop, length-take}
use borrow.Author.Tests.{le-leb}
use Rattle.octets.specs.Scan.{run, all_of, other}
use Rattle.octets.proofs.Lists.{part}
use Rattle.octets.proofs.Scans.{all-run}
use Rattle.octets.proofs.Chunks.{run-front, run-chunk}
use Rattle.bulk.proofs.scan.find_soon.Goals as goal
use Rattle.bulk.proofs.scan.find_soon.Goals.{After-find-k}

-- where it stands among the first sixteen bytes
near :
    (c : After-find-k)
    → c.find-k.result ≡ run (other c.args.b) (take 16 (drop c.args.from c.args.s.now))
near c =
    let a = c.args in
    c.find-k.ensures ∙ zero-add _ ∙ ap (run (other a.b)) (part a.s.now a.from 16)

pub returns-then-k-lt16 : goal.returns-then-k-lt16
returns-then-k-lt16 c =
    let a = c.args in
    omega (arith, near (goal.at.returns-then-k-lt16 c).After-find-k, run-front (other a.b) (drop a.from a.s.now) 16 (omega (arith, near (goal.at.returns-then-k-lt16 c).After-find-k, c.if-k-lt16.true)))

pub returns : goal.returns
returns c =
    let a = c.args in
    let t = drop a.from a.s.now in
    let few : length (take 16 t) ≤ run (other a.b) (take 16 t) = simp length-take (omega (arith, near (goal.at.returns c).After-find-k, c.if-k-lt16.false)) in
    let pass : all_of (other a.b) (take 16 t) ≡ true = all-run (other a.b) (take 16 t) ∙ le-leb _ _ few in
    omega (arith, c.find_beyond.ensures, run-chunk (other a.b) a.s.now a.from 16 (omega (arith, c.if-s-from-lt16.false)) pass)
