use Rattle.variables.proofs.FieldVariables.{variable-byte-lower}
use borrow.Author.Tests.{eq-eqb, ne_eqb}
use mathlib.Core.Path.{sym, ◌∙◌}
use Rattle.variables.proofs.field_variables.variable_byte.Goals as goal

pub returns-then-b-eq45 : goal.returns-then-b-eq45
returns-then-b-eq45 c = sym (variable-byte-lower _ ∙ rw (eq-eqb _ _ c.if-b-eq45.true))

pub returns-else-b-eq45 : goal.returns-else-b-eq45
returns-else-b-eq45 c = c.upper.ensures ∙ sym (variable-byte-lower _ ∙ rw (ne_eqb _ _ c.if-b-eq45.false))
