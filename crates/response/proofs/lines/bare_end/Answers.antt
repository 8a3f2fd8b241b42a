use Rattle.response.proofs.LineEnds.{bare-none, bare-whole, bare-cut}
use Rattle.response.proofs.lines.bare_end.Goals as goal
use Rattle.response.proofs.lines.bare_end.Goals.{else-end-at-via-then-end-at+else-t-end-eq13, else-end-at-via-else-end-at}

pub returns-then-t-end-eq13 : goal.returns-then-t-end-eq13
returns-then-t-end-eq13 c = bare-cut _ _ _ c.requires.0 c.requires.1 c.if-end-at.true c.if-t-end-eq13.true

pub returns : goal.returns
returns c =
    elim c.else-end-at.branch [
      | else-end-at-via-then-end-at+else-t-end-eq13 w ↦ bare-whole _ _ _ c.requires.0 c.requires.1 w.if-end-at.true w.if-t-end-eq13.false
      | else-end-at-via-else-end-at w ↦ bare-none _ _ _ c.requires.0 c.requires.1 w.if-end-at.false
    ]
