use Prim.Native.Nat.{ℕ, ◌-◌}
use mathlib.Core.Path.{◌≡◌}
use mathlib.Core.List.{List}
use lib.ListN.{take, drop}
use Rattle.headers.specs.Block.{Header, printed}
use Rattle.variables.specs.FixedVariables.{path_variables}
use Rattle.variables.specs.declared.writer.Writer.{Writer}
use Rattle.variables.proofs.Writers.{Left, left-all, row_room, row_more, row_last}
use Rattle.variables.proofs.FixedVariables.{rest-take}
use Rattle.variables.proofs.fixed_variables.put_path.Goals as goal
use Rattle.variables.proofs.fixed_variables.put_path.Goals.{Start}

abbrev rows : Start → List Header
rows s = path_variables s.args.s.now

-- n of the variables are written
abbrev Rest : Start → Writer → ℕ → Type 0
Rest s w n = Left s.args.w.now (printed (rows s)) w (printed (drop n (rows s)))

-- the path behind the mount's name
info :
    (s : Start)
    → (let n = s.args.s.now.name in
    let d = s.args.s.now.line.decoded in
    take (d - n) (drop n s.args.s.now.path.now) ≡ drop n (take d s.args.s.now.path.now))
info s = rest-take _ _ _ s.requires.0.2 s.requires.0.1.decoded_inside

start : (s : Start) → Rest s s.args.w.now 0
start s = left-all _ _ s.requires.1

pub text-requires : goal.text-requires
text-requires c = row_room _ _ (start (goal.at.text-requires c).Start)

pub variable-requires : goal.variable-requires
variable-requires c =
    let s = (goal.at.variable-requires c).Start in
    let first : Rest s c.text.new.self 1 = row_more _ _ (start s) c.text.ensures in
    rw (info s) (row_room _ _ first)

pub query-requires : goal.query-requires
query-requires c =
    let l = c.requires.0.1 in
    (l.target_inside, l.path_inside, l.query_is)

pub variable-requires-2 : goal.variable-requires-2
variable-requires-2 c =
    let s = (goal.at.variable-requires-2 c).Start in
    let first : Rest s c.text.new.self 1 = row_more _ _ (start s) c.text.ensures in
    let second : Rest s c.variable.new.self 2 = row_more _ _ first (rw (info s) at c.variable.ensures) in
    rw c.query.ensures.0 (row_room _ _ second)

pub variable-requires-3 : goal.variable-requires-3
variable-requires-3 c =
    let s = (goal.at.variable-requires-3 c).Start in
    let first : Rest s c.text.new.self 1 = row_more _ _ (start s) c.text.ensures in
    let second : Rest s c.variable.new.self 2 = row_more _ _ first (rw (info s) at c.variable.ensures) in
    let third : Rest s c.variable-2.new.self 3 = row_more _ _ second (rw c.query.ensures.0 at c.variable-2.ensures) in
    rw c.of.ensures.0 (row_room _ _ third)

pub returns : goal.returns
returns c =
    let s = (goal.at.returns c).Start in
    let first : Rest s c.text.new.self 1 = row_more _ _ (start s) c.text.ensures in
    let second : Rest s c.variable.new.self 2 = row_more _ _ first (rw (info s) at c.variable.ensures) in
    let third : Rest s c.variable-2.new.self 3 = row_more _ _ second (rw c.query.ensures.0 at c.variable-2.ensures) in
    row_last _ third (rw c.of.ensures.0 at c.variable-3.ensures)
