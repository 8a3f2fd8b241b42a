use mathlib.Core.Path.{◌≡◌, refl, sym, ap, ◌∙◌}
use mathlib.Core.List.{List}
use Rattle.std.proofs.Common.{Option, None, Some}
use Prim.Native.Nat.{ℕ, ◌+◌, ◌≤◌}
use lib.ListN.{length, drop}
use lib.Seq.{length-take-le}
use Rattle.octets.specs.Kinds.{is_name}
use Rattle.http_head.specs.Lines.{lines_of, line_run}
use Rattle.http_head.specs.Fields.{Field, field_of, spans_at, place_if, place_of}
use Rattle.http_head.specs.declared.fields.Field.{Field as Spans}
use Rattle.http_head.proofs.LineCuts.{line-le, line-within, line-ends, first-line, other-lines, ends-inside, next-line, next-ends, no_lines}
use Rattle.http_head.proofs.Places.{start, at_end, too_many, bad-line, onward}
use native.Mathlib.Omega.{arith}
use Rattle.http_head.proofs.fields.field_lines.Goals as goal
use Rattle.http_head.proofs.fields.field_lines.Goals.{Else-n-eq64, In-Some}

-- what the answer for a line says, in each of its ways
malformed : (head : List ℕ) (i : ℕ) → None ≡ place_of is_name head i → field_of is_name (lines_of (drop i head)).first ≡ None
malformed head i p = by (field_of is_name (lines_of (drop i head)).first) p
  where
    by : (o : Option Field) → None ≡ place_if o i (lines_of (drop i head)).first → o ≡ None
    by None e = refl
    by (Some f) e = cc

-- the field of the line l, which starts at i, with its place and its end
record Placed (i : ℕ) (l : List ℕ) (f : Spans) (e : ℕ) : Type 0 where
  field : Field
  there : field_of is_name l ≡ Some field
  at : f ≡ spans_at i l
  ends : e ≡ i + length l

placed : (head : List ℕ) (i : ℕ) (f : Spans) (e : ℕ) → Some (f, e) ≡ place_of is_name head i → Placed i (lines_of (drop i head)).first f e
placed head i f e p = by (field_of is_name (lines_of (drop i head)).first) refl p
  where
    l : List ℕ
    l = (lines_of (drop i head)).first

    by : (o : Option Field) → field_of is_name l ≡ o → Some (f, e) ≡ place_if o i l → Placed i l f e
    by None x y = absurd (let z : ◌≡◌ {A = ℕ} 0 1 = cc in omega arith)
    by (Some g) x y =
        let q : ◌≡◌ {A = Spans × ℕ} (f, e) (spans_at i l, i + length l) = cc in
        record { field = g; there = x; at = ap (λ p. p.0) q; ends = ap (λ p. p.1) q }

-- a line that is left begins within the head
begins : (c : Else-n-eq64) → c.loop-end.end + 2 ≤ length c.args.head.now
begins c = ends-inside c.args.head.now c.loop-end.end (c.loop-end.invariant.1 c.loop-end-test.true)

-- the field of a line, and its place in the head
stands :
    (c : In-Some)
    → (let h = c.args.head.now in
    let i = c.loop-end.end + 2 in
    Placed i (lines_of (drop i h)).first c.in-Some.field c.in-Some.next)
stands c =
    let e = c.in-Some.ensures in
    placed _ _ _ _ e

-- .. and where the line ends
ends :
    (c : In-Some)
    → (let h = c.args.head.now in
    let i = c.loop-end.end + 2 in
    c.in-Some.next ≡ i + line_run (drop i h))
ends c =
    let h = c.args.head.now in
    let i = c.loop-end.end + 2 in
    (stands c).ends ∙ ap (λ (k : ℕ). i + k) (ap length (first-line (drop i h)) ∙ length-take-le (line_run (drop i h)) (drop i h) (line-le (drop i h)))

pub loop-end-init : goal.loop-end-init
loop-end-init c =
    let h = c.args.head.now in
    let e = c.requires.0 in (
      rw e (line-le h),
      rw e (line-ends h),
      start is_name _ _ _ _ (other-lines h ∙ ap (λ (k : ℕ). (lines_of (drop k h)).others) (sym e)) (ap (λ (k : ℕ). k + 2) (sym e)) c.requires.1,
    )

pub returns-then-n-eq64 : goal.returns-then-n-eq64
returns-then-n-eq64 c =
    too_many c.loop-end.invariant.2 _ _ (next-line c.args.head.now c.loop-end.end _ refl (c.loop-end.invariant.1 c.loop-end-test.true)) (omega (arith, c.if-n-eq64.true))

pub returns-in_default : goal.returns-in_default
returns-in_default c =
    let h = c.args.head.now in
    let e = c.in_default.ensures in
    bad-line c.loop-end.invariant.2 _ _ (next-line h c.loop-end.end _ refl (c.loop-end.invariant.1 c.loop-end-test.true)) (λ (e : c.loop-end.n ≡ 64). c.if-n-eq64.false (omega (arith, e))) (malformed h (c.loop-end.end + 2) e)

pub loop-end-preserved : goal.loop-end-preserved
loop-end-preserved c =
    let f = stands (goal.at.loop-end-preserved c).In-Some in
    let g = ends (goal.at.loop-end-preserved c).In-Some in
    let b = begins (goal.at.loop-end-preserved c).Else-n-eq64 in
    let e = c.loop-end.invariant.1 c.loop-end-test.true in (
      omega (arith, g, line-within c.args.head.now (c.loop-end.end + 2) b),
      next-ends _ _ _ g b,
      rw f.at
          (onward c.loop-end.invariant.2 _ _ (next-line _ _ _ g e) (λ (e : c.loop-end.n ≡ 64). c.if-n-eq64.false (omega (arith, e))) f.field f.there _ (ap (λ (k : ℕ). k + 2) f.ends)),
    )

pub returns : goal.returns
returns c = at_end c.loop-end.invariant.2 (no_lines _ _ c.loop-end-test.false)
