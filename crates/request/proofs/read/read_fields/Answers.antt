use native.Mathlib.Omega.{arith}
use mathlib.Core.Path.{sym}
use borrow.Author.Rules.{rules}
use Rattle.std.proofs.Common.{Ok}
use Rattle.octets.specs.Kinds.{is_name}
use lib.Seq.{length-take-le}
use Rattle.http_head.specs.RequestLine.{version_text}
use Rattle.http_head.specs.Fields.{Stored}
use Rattle.http_head.specs.Claims.{FieldsStand}
use Rattle.http_head.proofs.Claims.{fields_told}
use Rattle.request.proofs.RequestSteps.{bad-fields, bad-rules, fields-read-whole}
use Rattle.request.proofs.read.read_fields.Goals as goal
use Rattle.request.proofs.read.read_fields.Goals.{In_ok-count}

-- the fields that were stored
stored :
    (c : In_ok-count)
    → (let a = c.args in Stored is_name a.head.now a.places.now c.field_lines.new.places (Ok c.in_ok-count.count))
stored c = c.in_ok-count.ensures {u = tt}

stand : (c : In_ok-count) → FieldsStand is_name c.args.head.now c.field_lines.new.places c.in_ok-count.count
stand c = fields_told.accepts is_name _ _ _ _ (stored c)

pub returns-in_err-count : goal.returns-in_err-count
returns-in_err-count c =
    let f = bad-fields c.args.head.now (version_text c.args.minor) c.args.places.now c.field_lines.new.places _ (c.in_err-count.ensures {u = tt}) in
    search rules

pub slice_bounds-fields-end : goal.slice_bounds-fields-end
slice_bounds-fields-end c = omega (arith, (stand c).room, c.requires.1, c.field_lines.auto)

pub slice_bounds-fields-end-2 : goal.slice_bounds-fields-end-2
slice_bounds-fields-end-2 c = sym (length-take-le _ _ (omega (arith, (stand c).room, c.requires.1, c.field_lines.auto)))

pub invariant_of-fields : goal.invariant_of-fields
invariant_of-fields c = record { inside = (stand c).inside }

pub returns-in_err-judged : goal.returns-in_err-judged
returns-in_err-judged c =
    let s = stored (goal.at.returns-in_err-judged c).In_ok-count in
    let f = bad-rules c.args.head.now (version_text c.args.minor) c.args.places.now c.field_lines.new.places _ s _ (c.in_err-judged.ensures {u = tt}) in
    search rules

pub returns : goal.returns
returns c = fields-read-whole _ _ _ _ _ (stored (goal.at.returns c).In_ok-count) _ (c.in_ok-judged.ensures {u = tt})
