use Prim.Native.Nat.{ℕ}
use mathlib.Core.Path.{◌≡◌, refl}
use mathlib.Core.List.{List, [], ◌∷◌, ◌++◌}
use Rattle.std.specs.Prelude.{option_map}
use Rattle.std.proofs.Common.{rules}
use Rattle.octets.specs.Text.{bytes}
use Rattle.octets.specs.Decimal.{decimal}
use Rattle.headers.specs.Block.{printed}
use Rattle.lent.specs.Places.{auth_at, auth_type_at}
use Rattle.request.specs.RequestRead.{part_if}
use Rattle.variables.specs.Put.{optional}
use Rattle.variables.specs.Variables.{if_present, Rows, present, auth_type_of}
use Rattle.variables.specs.FixedVariables.{content_variables}
use Rattle.variables.specs.Writer.{Appended}
use Rattle.variables.specs.declared.writer.Writer.{Writer}
use Rattle.variables.proofs.Writers.{Left, left-all, left-rest, left-room, left-more, left-last}
use Rattle.variables.proofs.FixedVariables.{behind_digits, content-start, if-row, if-last, part-given}
use Rattle.variables.proofs.fixed_variables.put_content.Goals as goal
use Rattle.variables.proofs.fixed_variables.put_content.Goals.{Start, After-map}

-- the rows that may be none
abbrev type_row : Start → Rows
type_row s = if_present "CONTENT_TYPE" (part_if s.args.s.now.head.now s.args.s.now.fields.content_type) ∷ []

abbrev others : Start → Rows
others s = if_present "AUTH_TYPE" (auth_type_of (auth_at s.args.s.now.facts.now s.args.s.now.settings.auth)) ∷ type_row s

abbrev kind : Start → List ℕ
kind s = optional (bytes "AUTH_TYPE") (auth_type_of (auth_at s.args.s.now.facts.now s.args.s.now.settings.auth))

-- v is left for the writer w
abbrev Rest : Start → Writer → List ℕ → Type 0
Rest s w v = Left s.args.w.now (printed (content_variables s.args.s.now s.args.size)) w v

start : (s : Start) → Rest s s.args.w.now ((bytes "CONTENT_LENGTH" ++ 0 ∷ []) ++ (decimal s.args.size ++ behind_digits (others s)))
start s = rw (← content-start s.args.size (others s)) (left-all _ _ s.requires.1)

-- what is left after each of the pieces that are written
first : (s : Start) {w : Writer} → Appended s.args.w.now w (bytes "CONTENT_LENGTH" ++ 0 ∷ []) → Rest s w (decimal s.args.size ++ behind_digits (others s))
first s x = left-more _ refl (start s) x

module _ (s : Start) {w w' : Writer} where
  second : Rest s w (decimal s.args.size ++ behind_digits (others s)) → Appended w w' (decimal s.args.size) → Rest s w' (behind_digits (others s))
  second r x = left-more _ refl r x

  third : Rest s w (behind_digits (others s)) → Appended w w' (0 ∷ (bytes "SCGI" ++ 0 ∷ (bytes "1" ++ 0 ∷ []))) → Rest s w' (printed (present (others s)))
  third r x = left-more _ refl r x

  fourth : Rest s w (printed (present (others s))) → Appended w w' (kind s) → Rest s w' (printed (present (type_row s)))
  fourth r x = left-more _ (if-row "AUTH_TYPE" _ (type_row s)) r x

named : (c : After-map) → option_map (λ v. v.now) c.map.result ≡ auth_type_of (auth_at c.args.s.now.facts.now c.args.s.now.settings.auth)
named c =
    let a = c.args.s.now in
    part-given (auth_type_at a.facts.now) (λ o. auth_type_of (auth_at a.facts.now o)) refl (λ a. refl) a.settings.auth c.map.result _ c.auth_type-kind.ensures.0 c.map.ensures.cases (λ a b k. search rules)

pub text-requires : goal.text-requires
text-requires c = left-room (bytes "CONTENT_LENGTH" ++ 0 ∷ []) _ refl (start (goal.at.text-requires c).Start)

pub number-requires : goal.number-requires
number-requires c = left-room (decimal c.args.size) _ refl (first (goal.at.number-requires c).Start c.text.ensures)

pub text-requires-2 : goal.text-requires-2
text-requires-2 c =
    let s = (goal.at.text-requires-2 c).Start in
    left-room (0 ∷ (bytes "SCGI" ++ 0 ∷ (bytes "1" ++ 0 ∷ []))) _ refl (second s (first s c.text.ensures) c.number.ensures)

pub optional-requires : goal.optional-requires
optional-requires c =
    let s = (goal.at.optional-requires c).Start in
    rw (named (goal.at.optional-requires c).After-map)
    (left-room (kind s) _ (if-row "AUTH_TYPE" _ (type_row s)) (third s (second s (first s c.text.ensures) c.number.ensures) c.text-2.ensures))

pub optional-requires-2 : goal.optional-requires-2
optional-requires-2 c =
    let s = (goal.at.optional-requires-2 c).Start in
    let r = third s (second s (first s c.text.ensures) c.number.ensures) c.text-2.ensures in
    rw (c.part.ensures, ← if-last "CONTENT_TYPE" _) (left-rest (fourth s r (rw (named (goal.at.optional-requires-2 c).After-map) at c.optional.ensures)))

pub returns : goal.returns
returns c =
    let s = (goal.at.returns c).Start in
    let r = third s (second s (first s c.text.ensures) c.number.ensures) c.text-2.ensures in
    left-last (fourth s r (rw (named (goal.at.returns c).After-map) at c.optional.ensures))
    (rw (if-last "CONTENT_TYPE" _) (rw c.part.ensures at c.optional-2.ensures))
