use Prim.Native.Nat.{ℕ}
use mathlib.Core.List.{List}
use lib.ListN.{drop}
use lib.Seq.{take-take}
use Rattle.headers.specs.Block.{Header, printed}
use Rattle.variables.specs.FixedVariables.{server_variables}
use Rattle.variables.specs.declared.writer.Writer.{Writer}
use Rattle.variables.proofs.Writers.{Left, left-all, row_room, row_more, row_last}
use Rattle.variables.proofs.fixed_variables.put_server.Goals as goal
use Rattle.variables.proofs.fixed_variables.put_server.Goals.{Start}

abbrev rows : Start → List Header
rows s = server_variables s.args.s.now

-- n of the variables are written
abbrev Rest : Start → Writer → ℕ → Type 0
Rest s w n = Left s.args.w.now (printed (rows s)) w (printed (drop n (rows s)))

start : (s : Start) → Rest s s.args.w.now 0
start s = left-all _ _ s.requires.1

pub variable-requires : goal.variable-requires
variable-requires c = rw (take-take _ _ _ c.requires.0.2) at (row_room _ _ (start (goal.at.variable-requires c).Start))

pub variable-requires-2 : goal.variable-requires-2
variable-requires-2 c =
    let s = (goal.at.variable-requires-2 c).Start in
    let first : Rest s c.variable.new.self 1 = row_more _ _ (start s) (rw (take-take _ _ _ s.requires.0.2) c.variable.ensures) in
    rw c.value.ensures.0 (row_room _ _ first)

pub variable-requires-3 : goal.variable-requires-3
variable-requires-3 c =
    let s = (goal.at.variable-requires-3 c).Start in
    let first : Rest s c.variable.new.self 1 = row_more _ _ (start s) (rw (take-take _ _ _ s.requires.0.2) c.variable.ensures) in
    let second : Rest s c.variable-2.new.self 2 = row_more _ _ first (rw c.value.ensures.0 at c.variable-2.ensures) in
    rw c.value-2.ensures.0 (row_room _ _ second)

pub variable-requires-4 : goal.variable-requires-4
variable-requires-4 c =
    let s = (goal.at.variable-requires-4 c).Start in
    let first : Rest s c.variable.new.self 1 = row_more _ _ (start s) (rw (take-take _ _ _ s.requires.0.2) c.variable.ensures) in
    let second : Rest s c.variable-2.new.self 2 = row_more _ _ first (rw c.value.ensures.0 at c.variable-2.ensures) in
    let third : Rest s c.variable-3.new.self 3 = row_more _ _ second (rw c.value-2.ensures.0 at c.variable-3.ensures) in
    rw c.version.ensures (row_room _ _ third)

pub variable-requires-5 : goal.variable-requires-5
variable-requires-5 c =
    let s = (goal.at.variable-requires-5 c).Start in
    let first : Rest s c.variable.new.self 1 = row_more _ _ (start s) (rw (take-take _ _ _ s.requires.0.2) c.variable.ensures) in
    let second : Rest s c.variable-2.new.self 2 = row_more _ _ first (rw c.value.ensures.0 at c.variable-2.ensures) in
    let third : Rest s c.variable-3.new.self 3 = row_more _ _ second (rw c.value-2.ensures.0 at c.variable-3.ensures) in
    let fourth : Rest s c.variable-4.new.self 4 = row_more _ _ third (rw c.version.ensures at c.variable-4.ensures) in
    rw c.value-3.ensures.0 (row_room _ _ fourth)

pub returns : goal.returns
returns c =
    let s = (goal.at.returns c).Start in
    let first : Rest s c.variable.new.self 1 = row_more _ _ (start s) (rw (take-take _ _ _ s.requires.0.2) c.variable.ensures) in
    let second : Rest s c.variable-2.new.self 2 = row_more _ _ first (rw c.value.ensures.0 at c.variable-2.ensures) in
    let third : Rest s c.variable-3.new.self 3 = row_more _ _ second (rw c.value-2.ensures.0 at c.variable-3.ensures) in
    let fourth : Rest s c.variable-4.new.self 4 = row_more _ _ third (rw c.version.ensures at c.variable-4.ensures) in
    row_last _ fourth (rw c.value-3.ensures.0 at c.variable-5.ensures)
