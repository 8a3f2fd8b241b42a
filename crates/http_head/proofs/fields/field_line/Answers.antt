use mathlib.Core.Path.{◌≡◌, sym, ap}
use mathlib.Core.Bool.{Bool}
use mathlib.Core.List.{List}
use Rattle.std.proofs.Common.{Option, None}
use Prim.Native.Nat.{ℕ, ◌≤◌}
use lib.ListN.{length, drop, length-drop}
use Rattle.octets.specs.Kinds.{is_blank}
use Rattle.octets.proofs.Scans.{run-within}
use Rattle.octets.proofs.Trims.{kept-le}
use Rattle.http_head.specs.Fields.{Field, field_of, spans_if, spans_of}
use Rattle.http_head.proofs.FieldLines.{no-colon, no_name, bad-name, bad-value, whole}
use native.Mathlib.Omega.{arith}
use Rattle.http_head.proofs.fields.field_line.Goals as goal
use Rattle.http_head.proofs.fields.field_line.Goals.{After-blank_end-v, then-line-n-via-then-line-n, then-line-n-via-else-line-n+then-n-eq0, then-line-n-via-else-line-n+else-n-eq0+then-run_end-n}

malformed : (rule : ℕ → Bool) (line : List ℕ) → field_of rule line ≡ None → None ≡ spans_of rule line
malformed rule line e = sym (ap (λ (o : Option Field). spans_if o line) e)

-- the value lies within the line
value_in : (c : After-blank_end-v) → c.blank_end-v.result ≤ length c.args.line.now
value_in c = rw c.blank_end-v.ensures (run-within is_blank _ _ (omega arith))

pub returns-then-line-n : goal.returns-then-line-n
returns-then-line-n c =
    malformed _ _
    (elim c.then-line-n.branch [
      | then-line-n-via-then-line-n w ↦ no-colon _ _ _ c.find-n.ensures w.if-line-n.true
      | then-line-n-via-else-line-n+then-n-eq0 w ↦ no_name _ _ _ c.find-n.ensures w.if-n-eq0.true
      | then-line-n-via-else-line-n+else-n-eq0+then-run_end-n w ↦
          bad-name _ _ _ c.find-n.ensures w.if-line-n.false _ w.run_end.ensures w.if-run_end-n.true
    ])

pub kept_len-k-requires : goal.kept_len-k-requires
kept_len-k-requires c = value_in c

pub run_end-requires-2 : goal.run_end-requires-2
run_end-requires-2 c = value_in (goal.at.run_end-requires-2 c).After-blank_end-v

pub overflow_add-v : goal.overflow_add-v
overflow_add-v c =
    let s = c.args.line.now in
    let v = c.blank_end-v.result in
    omega (arith, c.kept_len-k.ensures, value_in (goal.at.overflow_add-v c).After-blank_end-v, kept-le (drop v s), length-drop v s)

pub returns-then-run_end-v : goal.returns-then-run_end-v
returns-then-run_end-v c =
    malformed _ _ (bad-value _ _ _ c.find-n.ensures c.if-line-n.false _ _ c.blank_end-v.ensures c.kept_len-k.ensures _ c.run_end-2.ensures c.if-run_end-v.true)

pub returns : goal.returns
returns c =
    sym (whole _ _ _ c.find-n.ensures c.if-line-n.false _ _ c.blank_end-v.ensures c.kept_len-k.ensures c.if-n-eq0.false (omega (arith, c.run_end.ensures, c.if-run_end-n.false)) (omega (arith, c.run_end-2.ensures, c.if-run_end-v.false)))
