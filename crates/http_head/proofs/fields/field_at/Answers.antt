use mathlib.Core.Path.{sym, ◌∙◌}
use Prim.Native.Nat.{◌≤◌}
use lib.ListN.{length}
use native.Mathlib.Omega.{arith}
use Rattle.http_head.proofs.FieldScans.{colonless, nameless, valueless, begins-in, ends-in, stands}
use Rattle.http_head.proofs.fields.field_at.Goals as goal
use Rattle.http_head.proofs.fields.field_at.Goals.{After-blank_end-value, then-head-colon-via-then-head-colon, then-head-colon-via-else-head-colon+then-head-colon-ne58, then-head-colon-via-else-head-colon+else-head-colon-ne58+then-colon-start}

-- the value lies within the head
begins : (c : After-blank_end-value) → c.blank_end-value.result ≤ c.value_end-end.result
begins c =
    begins-in _ _ _ c.requires c.run_end-colon.ensures c.if-head-colon.false c.if-head-colon-ne58.false c.if-colon-start.false _ c.value_end-end.ensures (sym c.is_line_end.ensures ∙ c.if-not-is_line_end.false) _ c.blank_end-value.ensures

ends : (c : After-blank_end-value) → c.value_end-end.result ≤ length c.args.head.now
ends c =
    ends-in _ _ _ c.requires c.run_end-colon.ensures c.if-head-colon.false c.if-head-colon-ne58.false c.if-colon-start.false _ c.value_end-end.ensures (sym c.is_line_end.ensures ∙ c.if-not-is_line_end.false) _ c.blank_end-value.ensures

pub returns-then-head-colon : goal.returns-then-head-colon
returns-then-head-colon c =
    elim c.then-head-colon.branch [
      | then-head-colon-via-then-head-colon w ↦ colonless _ _ _ c.requires c.run_end-colon.ensures (λ i q. omega (arith, w.if-head-colon.true))
      | then-head-colon-via-else-head-colon+then-head-colon-ne58 w ↦
          colonless _ _ _ c.requires c.run_end-colon.ensures (λ i q. w.if-head-colon-ne58.true q)
      | then-head-colon-via-else-head-colon+else-head-colon-ne58+then-colon-start w ↦
          nameless _ _ _ c.requires c.run_end-colon.ensures w.if-head-colon.false w.if-head-colon-ne58.false w.if-colon-start.true
    ]

pub returns-then-not-is_line_end : goal.returns-then-not-is_line_end
returns-then-not-is_line_end c =
    valueless _ _ _ c.requires c.run_end-colon.ensures c.if-head-colon.false c.if-head-colon-ne58.false c.if-colon-start.false _ c.value_end-end.ensures (sym c.is_line_end.ensures ∙ c.if-not-is_line_end.true)

pub slice_bounds-kept_len-count : goal.slice_bounds-kept_len-count
slice_bounds-kept_len-count c = begins c

pub slice_bounds-kept_len-start : goal.slice_bounds-kept_len-start
slice_bounds-kept_len-start c = begins c

pub slice_bounds-kept_len-end : goal.slice_bounds-kept_len-end
slice_bounds-kept_len-end c = ends c

pub returns : goal.returns
returns c =
    stands _ _ _ c.requires c.run_end-colon.ensures c.if-head-colon.false c.if-head-colon-ne58.false c.if-colon-start.false _ c.value_end-end.ensures (sym c.is_line_end.ensures ∙ c.if-not-is_line_end.false) _ c.blank_end-value.ensures _ c.kept_len.ensures
