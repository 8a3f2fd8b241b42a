use mathlib.Core.Path.{sym}
use native.Mathlib.Omega.{arith}
use Rattle.headers.proofs.Lookups.{place-fits}
use Rattle.headers.proofs.lookup.value.Goals as goal

pub of-requires : goal.of-requires
of-requires c =
    let e = c.in-Ok-Some.ensures in
    let d = rw c.in-Ok-Some.field-0-is at e in
    omega (arith, place-fits _ _ _ (sym d))
