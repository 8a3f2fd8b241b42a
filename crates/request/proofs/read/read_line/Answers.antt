use mathlib.Core.Path.{◌≡◌}
use native.Mathlib.Omega.{arith}
use lib.ListN.{take, length-take}
use borrow.Author.Rules.{rules}
use Rattle.std.proofs.Common.{Ok}
use Rattle.http_head.specs.RequestLine.{line_outcome, line_places_of}
use Rattle.http_head.proofs.Claims.{first-line-stands}
use Rattle.request.proofs.RequestSteps.{malformed, target-in, bad-target, line-read-whole}
use Rattle.request.proofs.read.read_line.Goals as goal
use Rattle.request.proofs.read.read_line.Goals.{In_ok-line}

-- the line that was read
got : (c : In_ok-line) → line_outcome (Ok c.in_ok-line.line) ≡ line_places_of (take c.line_end-end.result c.args.head.now)
got c = c.in_ok-line.ensures {u = tt}

pub slice_bounds-request_line-end : goal.slice_bounds-request_line-end
slice_bounds-request_line-end c = simp length-take (omega (arith, c.line_end-end.ensures, first-line-stands.within c.args.head.now))

pub returns-in_err-line : goal.returns-in_err-line
returns-in_err-line c =
    let l = malformed c.args.head.now _ c.line_end-end.ensures c.args.path.now c.args.path.now _ (c.in_err-line.ensures {u = tt}) in
    search rules

pub of-requires : goal.of-requires
of-requires c = target-in _ _ c.line_end-end.ensures _ (got (goal.at.of-requires c).In_ok-line)

pub returns-in_err-place : goal.returns-in_err-place
returns-in_err-place c =
    let t = rw c.of.ensures.0 at (c.in_err-place.ensures {u = tt}) in
    let l = bad-target c.args.head.now _ c.line_end-end.ensures _ (got (goal.at.returns-in_err-place c).In_ok-line) c.args.path.now _ _ t in
    search rules

pub returns : goal.returns
returns c =
    let t = rw c.of.ensures.0 at (c.in_ok-place.ensures {u = tt}) in
    line-read-whole _ _ c.line_end-end.ensures _ (got (goal.at.returns c).In_ok-line) _ _ _ t
