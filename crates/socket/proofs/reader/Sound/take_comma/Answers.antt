use mathlib.Core.Path.{sym}
use native.Mathlib.Omega.{arith}
use Rattle.scgi.proofs.Claims.{stated-within}
use Rattle.socket.proofs.Steps.{block_refused, block-right}
use Rattle.socket.proofs.reader.Sound.take_comma.Goals as goal

pub invariant_of-self : goal.invariant_of-self
invariant_of-self c =
    let f = c.args.self.fits in
    let e = c.in-Ok.ensures in
    record {
      fits = record { refusal = f.refusal; digits = f.digits; len = f.len; stored = f.stored; body = stated-within _ _ (sym e); seen = omega arith };
      kept = c.args.self.kept;
    }

pub returns-in-Ok : goal.returns-in-Ok
returns-in-Ok c =
    let e = c.in-Ok.ensures in
    rw (block-right c.args.self.state c.args.run.now _ _ (sym e)) c.take_body.ensures

pub returns-in-Err : goal.returns-in-Err
returns-in-Err c =
    let e = c.in-Err.ensures in
    rw (block_refused c.args.self.state c.args.run.now _ _ (sym e)) c.refused.ensures
