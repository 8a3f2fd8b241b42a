use mathlib.Core.Path.{◌≡◌, sym, ◌∙◌}
use native.Mathlib.Omega.{arith}
use lib.ListN.{length, take, drop, length-take, length-drop}
use Rattle.octets.specs.Compare.{lower_of}
use Rattle.octets.proofs.Tests.{tests}
use Rattle.octets.proofs.Compares.{other_length}
use Rattle.request.proofs.stored.is_named.Goals as goal

pub returns-else-place-name : goal.returns-else-place-name
returns-else-place-name c =
    let a = c.args in
    let part = take a.place.len (drop a.place.start a.head.now) in
    let l : length part ≡ a.place.len = simp (length-take, length-drop) (omega (arith, c.requires)) in
    let n = other_length lower_of part a.name.now (λ e. omega (arith, sym l ∙ e, c.if-place-name.false)) in
    rw n (search tests)
