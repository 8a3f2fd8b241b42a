use Prim.Native.Nat.{ℕ}
use mathlib.Core.Path.{◌≡◌, refl}
use mathlib.Core.List.{List, [], ◌∷◌}
use Rattle.std.specs.Prelude.{option_map}
use Rattle.std.proofs.Common.{rules}
use lib.ListN.{take, drop}
use Rattle.octets.specs.Text.{bytes}
use Rattle.headers.specs.Block.{printed}
use Rattle.lent.specs.Places.{auth_at, remote_user_at}
use Rattle.request.specs.RequestRead.{target_in}
use Rattle.variables.specs.Put.{optional}
use Rattle.variables.specs.Variables.{always, Rows, present, remote_user_of}
use Rattle.variables.specs.FixedVariables.{request_variables}
use Rattle.variables.specs.Writer.{Appended}
use Rattle.variables.specs.declared.writer.Writer.{Writer}
use Rattle.variables.proofs.Writers.{Left, left-all, left-room, left-more, row_room, row_more, row_last}
use Rattle.variables.proofs.FixedVariables.{if-row, part-given}
use Rattle.variables.proofs.fixed_variables.put_request.Goals as goal
use Rattle.variables.proofs.fixed_variables.put_request.Goals.{Start, After-map}

-- the rows behind REMOTE_USER
abbrev others : Start → Rows
others s =
    always "REQUEST_METHOD" (take s.args.s.now.line.method s.args.s.now.head.now)
    ∷ always "REQUEST_URI" (target_in s.args.s.now.head.now s.args.s.now.line)
    ∷ []

-- n of them are written
abbrev Rest : Start → Writer → ℕ → Type 0
Rest s w n = Left s.args.w.now (printed (request_variables s.args.s.now)) w (printed (drop n (present (others s))))

abbrev user : Start → List ℕ
user s = optional (bytes "REMOTE_USER") (remote_user_of (auth_at s.args.s.now.facts.now s.args.s.now.settings.auth))

start : (s : Start) → Left s.args.w.now (printed (request_variables s.args.s.now)) s.args.w.now (printed (request_variables s.args.s.now))
start s = left-all _ _ s.requires.1

first : (s : Start) {w : Writer} → Appended s.args.w.now w (user s) → Rest s w 0
first s x = left-more _ (if-row "REMOTE_USER" _ (others s)) (start s) x

named : (c : After-map) → option_map (λ v. v.now) c.map.result ≡ remote_user_of (auth_at c.args.s.now.facts.now c.args.s.now.settings.auth)
named c =
    let a = c.args.s.now in
    part-given (remote_user_at a.facts.now) (λ o. remote_user_of (auth_at a.facts.now o)) refl (λ a. refl) a.settings.auth c.map.result _ c.remote_user-user.ensures.0 c.map.ensures.cases (λ a b k. search rules)

pub optional-requires : goal.optional-requires
optional-requires c =
    let s = (goal.at.optional-requires c).Start in
    rw (named (goal.at.optional-requires c).After-map) (left-room (user s) _ (if-row "REMOTE_USER" _ (others s)) (start s))

pub variable-requires : goal.variable-requires
variable-requires c = row_room _ _ (first (goal.at.variable-requires c).Start (rw (named (goal.at.variable-requires c).After-map) at c.optional.ensures))

pub variable-requires-2 : goal.variable-requires-2
variable-requires-2 c =
    let s = (goal.at.variable-requires-2 c).Start in
    let second : Rest s c.variable.new.self 1 = row_more _ _ (first s (rw (named (goal.at.variable-requires-2 c).After-map) at c.optional.ensures)) c.variable.ensures in
    rw c.of.ensures.0 (row_room _ _ second)

pub returns : goal.returns
returns c =
    let s = (goal.at.returns c).Start in
    let second : Rest s c.variable.new.self 1 = row_more _ _ (first s (rw (named (goal.at.returns c).After-map) at c.optional.ensures)) c.variable.ensures in
    row_last _ second (rw c.of.ensures.0 at c.variable-2.ensures)
