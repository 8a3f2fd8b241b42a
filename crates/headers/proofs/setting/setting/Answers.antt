use mathlib.Core.Path.{sym}
use Rattle.headers.proofs.Lookups.{first_fits, second_fits}
use Rattle.headers.proofs.setting.setting.Goals as goal

pub of-requires : goal.of-requires
of-requires c =
    let e = c.in-Ok-Some-First.ensures in
    let d = rw (c.in-Ok-Some-First.field-0-is, c.in-Ok-Some-First.field-0-0-is) at e in
    first_fits _ _ _ _ (sym d)

pub of-requires-in-Ok-Some-Second : goal.of-requires-in-Ok-Some-Second
of-requires-in-Ok-Some-Second c =
    let e = c.in-Ok-Some-Second.ensures in
    let d = rw (c.in-Ok-Some-Second.field-0-is, c.in-Ok-Some-Second.field-0-0-is) at e in
    second_fits _ _ _ _ (sym d)
