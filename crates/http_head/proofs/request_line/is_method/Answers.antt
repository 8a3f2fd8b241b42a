use mathlib.Core.Path.{sym, ap, ◌∙◌}
use lib.Dec.{eqb}
use lib.ListN.{length}
use native.Mathlib.Omega.{arith}
use Rattle.http_head.proofs.Requests.{empty-method, long-method, token-method}
use Rattle.http_head.proofs.request_line.is_method.Goals as goal
use Rattle.http_head.proofs.request_line.is_method.Goals.{then-s-eq0-via-then-s-eq0, then-s-eq0-via-else-s-eq0+then-s-gt32}

pub returns-then-s-eq0 : goal.returns-then-s-eq0
returns-then-s-eq0 c =
    sym
    (elim c.then-s-eq0.branch [
      | then-s-eq0-via-then-s-eq0 w ↦ empty-method _ w.if-s-eq0.true
      | then-s-eq0-via-else-s-eq0+then-s-gt32 w ↦ long-method _ (omega (arith, w.if-s-gt32.true))
    ])

pub returns : goal.returns
returns c =
    let s = c.args.s.now in
    ap (λ n. eqb n (length s)) c.run_end.ensures ∙ token-method s c.if-s-eq0.false (omega (arith, c.if-s-gt32.false))
