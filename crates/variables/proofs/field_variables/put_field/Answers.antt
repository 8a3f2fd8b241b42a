use mathlib.Core.Path.{refl, ap}
use mathlib.Core.List.{List, [], ◌∷◌, ◌++◌, append_assoc}
use Prim.Native.Nat.{ℕ}
use Rattle.http_head.specs.Fields.{field_at}
use Rattle.variables.specs.Variables.{http_name}
use Rattle.variables.specs.FieldVariables.{low_name, added_after, variable_from}
use Rattle.variables.specs.declared.writer.Writer.{Writer}
use Rattle.variables.proofs.Writers.{Left, left-all, left-rest, left-room, left-more, left-last}
use Rattle.variables.proofs.field_variables.put_field.Goals as goal
use Rattle.variables.proofs.field_variables.put_field.Goals.{Start, After-put_http_name, After-bytes}

-- v is left for the writer w
abbrev Rest : Start → Writer → List ℕ → Type 0
Rest s w v = Left s.args.w.now (variable_from s.args.fields.head.now s.args.fields.places.now s.args.k) w v

abbrev later : Start → List ℕ
later s = added_after s.args.fields.head.now s.args.fields.places.now s.args.k

abbrev value : Start → List ℕ
value s = (field_at s.args.fields.head.now s.args.fields.places.now s.args.k).value

start : (s : Start) → Rest s s.args.w.now (variable_from s.args.fields.head.now s.args.fields.places.now s.args.k)
start s = left-all _ _ s.requires.1

-- the name and its NUL are written
named :
    (c : After-put_http_name)
    → (let s = (goal.at-After-put_http_name c).Start in
    Rest s c.put_http_name.new.w (value s ++ (later s ++ 0 ∷ [])))
named c =
    let s = (goal.at-After-put_http_name c).Start in
    let name = http_name (low_name c.args.fields.head.now c.args.fields.places.now c.args.k) ++ 0 ∷ [] in
    let parts = ap (λ (v : List ℕ). name ++ v) (append_assoc (value s) (later s) (0 ∷ [])) in
    left-more _ parts (start s) (rw c.name.ensures.0 at c.put_http_name.ensures)

-- .. and the value
valued : (c : After-bytes) → (let s = (goal.at-After-bytes c).Start in Rest s c.bytes.new.self (later s ++ 0 ∷ []))
valued c = left-more _ refl (named (goal.at-After-bytes c).After-put_http_name) (rw c.value.ensures.0 at c.bytes.ensures)

pub bytes-requires : goal.bytes-requires
bytes-requires c =
    rw c.value.ensures.0 (left-room (value (goal.at.bytes-requires c).Start) _ refl (named (goal.at.bytes-requires c).After-put_http_name))

pub put_later-requires : goal.put_later-requires
put_later-requires c = (c.requires.0, left-room (later (goal.at.put_later-requires c).Start) _ refl (valued (goal.at.put_later-requires c).After-bytes))

pub text-requires : goal.text-requires
text-requires c = left-rest (left-more (0 ∷ []) refl (valued (goal.at.text-requires c).After-bytes) c.put_later.ensures)

pub returns : goal.returns
returns c = left-last (left-more (0 ∷ []) refl (valued (goal.at.returns c).After-bytes) c.put_later.ensures) c.text.ensures
