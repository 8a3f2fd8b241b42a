use mathlib.Core.Path.{◌≡◌}
use mathlib.Core.Bool.{true}
use Prim.Native.Nat.{◌+◌, ◌-◌, ◌≤◌, ◌<◌}
use lib.ListN.{length, drop}
use Rattle.octets.specs.Kinds.{is_name}
use Rattle.http_head.specs.Lines.{ends_line, lines_of}
use Rattle.http_head.proofs.Places.{Standing}
use Rattle.http_head.proofs.fields.field_lines.Given as goal

abbrev pub invariant-loop-end : goal.invariant-loop-end
invariant-loop-end l =
    (l.end ≤ length l.head) × (l.end < length l.head → ends_line (drop l.end l.head) ≡ true)
    × Standing is_name l.head (lines_of (drop l.end l.head)).others (l.end + 2) l.initial.places l.n l.places

abbrev pub decreases-loop-end : goal.decreases-loop-end
decreases-loop-end l = length l.head - l.end
