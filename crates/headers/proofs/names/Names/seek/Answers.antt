use mathlib.Core.Path.{◌≡◌, sym, ap, ◌∙◌}
use Prim.Native.Nat.{◌-◌}
use native.Mathlib.Omega.{arith}
use borrow.Author.Rules.{rules}
use Rattle.std.proofs.Common.{Some, None, tests}
use Rattle.std.proofs.lemmas.Iterator.{YieldsList-from_slice}
use Rattle.std.proofs.lemmas.Iterator.Adapters.{serves_from_places}
use Rattle.std.proofs.lemmas.Iterator.Search.{find_from_yields_List}
use Rattle.std.specs.List.{find}
use Rattle.std.specs.Option.{option_map}
use Rattle.octets.specs.Outcome.{gives}
use Rattle.headers.proofs.NamePlaces.{known, inside-item}
use Rattle.headers.proofs.Seeks.{value_start, value_at, is_named, Behind, sought}
use Rattle.headers.proofs.names.Names.seek.Goals as goal
use Rattle.headers.proofs.names.Names.seek.Goals.{After-find, In_ok-place}

-- the place that was found
found : (c : After-find) → (let a = c.args in option_map (λ x. x.now) c.find.result ≡ find (is_named a.self.block.now a.name.now) a.self.places.now)
found c =
    let a = c.args in
    find_from_yields_List (is_named a.self.block.now a.name.now) c.find.new.self _ c.find.result c.find.ensures.ran (YieldsList-from_slice a.self.places.now cc)
    (λ x b q k. search (rules, tests))

-- what is behind the name that was found
here :
    (c : In_ok-place)
    → (let a = c.args in
    Behind a.self.block.now (Some c.in_ok-place.place.now) (sought a.self.block.now a.self.places.now a.name.now a.self.held).place)
here c =
    let a = c.args in
    let e : Some c.in_ok-place.place.now ≡ find (is_named a.self.block.now a.name.now) a.self.places.now =
    sym (ap (option_map (λ x. x.now)) c.in_ok-place.was) ∙ found (goal.at.overflow_add-start c).After-find in
    rw (sym e) at (sought a.self.block.now a.self.places.now a.name.now a.self.held).behind

pub find-requires-clause-callable : goal.find-requires-clause-callable
find-requires-clause-callable c =
    let ps = c.args.self.places.now in
    serves_from_places (YieldsList-from_slice ps cc) (λ x q k. search (rules, tests))
    (λ x k h e.
    let i = inside-item c.args.self.block.now ps k x.now (known _ _ c.args.self.held).inside h e in
    search (rules, i))

pub returns-in_err-place : goal.returns-in_err-place
returns-in_err-place c =
    let a = c.args in
    let s = sought a.self.block.now a.self.places.now a.name.now a.self.held in
    let e : None ≡ find (is_named a.self.block.now a.name.now) a.self.places.now =
    sym (ap (option_map (λ x. x.now)) c.in_err-place.was) ∙ found (goal.at.returns-in_err-place c).After-find in
    let n : s.place ≡ None = rw (sym e) at s.behind in
    rw (s.is, n) (search rules)

pub overflow_add-start : goal.overflow_add-start
overflow_add-start c = omega (arith, (here (goal.at.overflow_add-start c).In_ok-place).0)

pub overflow_add-start-2 : goal.overflow_add-start-2
overflow_add-start-2 c = omega (arith, (here (goal.at.overflow_add-start-2 c).In_ok-place).0)

pub find-requires-2 : goal.find-requires-2
find-requires-2 c = omega (arith, (here (goal.at.find-requires-2 c).In_ok-place).0)

pub returns : goal.returns
returns c =
    let a = c.args in
    let p = c.in_ok-place.place.now in
    let l : c.find-2.result - value_start p ≡ (value_at a.self.block.now p).len = omega (arith, c.find-2.ensures) in
    rw l (sym ((sought a.self.block.now a.self.places.now a.name.now a.self.held).is ∙ ap gives (here (goal.at.returns c).In_ok-place).1))
