use Rattle.response.specs.Table.{table_of}
use Rattle.response.proofs.Tables.{status-or}
use Rattle.response.proofs.table.document.Goals as goal

pub returns-then-not-typed : goal.returns-then-not-typed
unfolding table_of
returns-then-not-typed c = λ n. rw c.if-not-typed.true

pub returns : goal.returns
unfolding table_of
returns c = λ n. rw (c.if-not-typed.false, c.unwrap_or.ensures, status-or 200 c.args.code)
