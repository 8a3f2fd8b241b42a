use mathlib.Core.Path.{◌≡◌}
use Prim.Native.Nat.{◌≤◌}
use lib.ListN.{drop}
use Rattle.request.specs.Rules.{found_from, found_of}
use Rattle.request.proofs.rules.named.Given as goal

abbrev pub invariant-loop-field : goal.invariant-loop-field
invariant-loop-field l =
    (l.found.count ≤ l.field-index)
    × (found_of l.name l.fields.head.now l.fields.places.now ≡ found_from l.name l.fields.head.now l.found (drop l.field-index l.fields.places.now))
