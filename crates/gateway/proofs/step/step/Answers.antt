use mathlib.Core.Path.{◌≡◌, sym, ◌∙◌}
use mathlib.Core.Bool.{true}
use native.Mathlib.Omega.{arith}
use borrow.Author.Tests.{leb-true}
use Prim.Native.Nat.{ℕ}
use Rattle.std.proofs.Common.{Result, Ok, Err}
use Rattle.octets.specs.declared.refusal.Refusal.{Refusal}
use Rattle.gateway.specs.Stepping.{is_short, PathFits}
use Rattle.gateway.proofs.step.step.Goals as goal

-- the short buffer is long enough for a short head, the long one for every head
short : (h : Result ℕ Refusal) → is_short h ≡ true → PathFits h 1024
short (Ok n) e = omega (arith, leb-true n 1024 e)
short (Err k) e = tt

long : (h : Result ℕ Refusal) → PathFits h 4096
long (Ok n) = omega arith
long (Err k) = tt

pub step_with-requires : goal.step_with-requires
step_with-requires c =
    let e = c.head_end-h in
    (record { answer = e.ensures; path = short e.result (sym c.is_short.ensures ∙ c.if-is_short.true) }, omega arith)

pub step_with-requires-else-is_short : goal.step_with-requires-else-is_short
step_with-requires-else-is_short c =
    let e = c.head_end-h in
    (record { answer = e.ensures; path = long e.result }, omega arith)
