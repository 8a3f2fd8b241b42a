use Rattle.variables.specs.Fields.{separator}
use Rattle.octets.specs.Compare.{lower_of}
use Rattle.octets.specs.Text.{bytes}
use mathlib.Core.Bool.{Bool, cond}
use mathlib.Core.Path.{sym, ap, ◌∙◌}
use Rattle.variables.proofs.field_variables.separator.Goals as goal

pub returns-then-same_letters : goal.returns-then-same_letters
unfolding lower_of separator
returns-then-same_letters c = sym (ap (λ (t : Bool). cond t (bytes "; ") (bytes ", ")) (sym c.same_letters.ensures ∙ c.if-same_letters.true))

pub returns-else-same_letters : goal.returns-else-same_letters
unfolding lower_of separator
returns-else-same_letters c = sym (ap (λ (t : Bool). cond t (bytes "; ") (bytes ", ")) (sym c.same_letters.ensures ∙ c.if-same_letters.false))
