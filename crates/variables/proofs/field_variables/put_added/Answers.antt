use mathlib.Core.Path.{sym, ◌∙◌}
use native.Mathlib.Omega.{arith}
use Rattle.variables.proofs.Writers.{appended_none, and_then, room-left}
use Rattle.variables.proofs.field_variables.put_added.Goals as goal

pub bytes-requires : goal.bytes-requires
bytes-requires c =
    rw c.value.ensures.0 (room-left c.args.between.now _ (rw (sym c.has_name.ensures ∙ c.if-has_name.true) at c.requires.1) c.text.ensures)

pub returns-then-has_name : goal.returns-then-has_name
returns-then-has_name c =
    rw (sym c.has_name.ensures ∙ c.if-has_name.true) (and_then c.args.between.now _ c.text.ensures (rw c.value.ensures.0 at c.bytes.ensures))

pub returns-else-has_name : goal.returns-else-has_name
returns-else-has_name c = rw (sym c.has_name.ensures ∙ c.if-has_name.false) (appended_none _ (omega (arith, c.requires.1)))
