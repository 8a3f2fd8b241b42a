use mathlib.Core.Path.{sym, ◌∙◌}
use native.Mathlib.Omega.{arith}
use Rattle.octets.proofs.Tests.{tests}
use Rattle.octets.proofs.Compares.{other-lengths}
use Rattle.headers.proofs.NamePlaces.{name-length}
use Rattle.headers.specs.Lookup.{part_in}
use Rattle.headers.proofs.names.is_stored.Goals as goal

pub returns-else-place-name : goal.returns-else-place-name
returns-else-place-name c =
    let a = c.args in
    let l = name-length a.block.now a.place c.requires in
    let n = other-lengths (part_in a.block.now a.place) a.name.now (λ e. omega (arith, sym l ∙ e, c.if-place-name.false)) in
    rw n (search tests)
