use mathlib.Core.Logic.{inl, inr}
use Rattle.response.specs.Table.{table_of}
use Rattle.octets.proofs.Tests.{tests}
use Rattle.response.proofs.table.serve.Goals as goal

pub returns-then-fields-ne1 : goal.returns-then-fields-ne1
unfolding table_of
returns-then-fields-ne1 c = λ t a. elim c.then-fields-ne1.either [ inl h ↦ search tests | inr h ↦ search tests ]

pub returns : goal.returns
unfolding table_of
returns c = λ t a. search tests
