use mathlib.Core.Path.{sym, ap, ◌∙◌}
use Prim.Native.Nat.{◌+◌}
use Rattle.octets.proofs.Lists.{from}
use Rattle.http_head.specs.RequestLine.{version_of}
use Rattle.http_head.proofs.Requests.{one-part, two-parts, four-parts, no-method, bad-version, whole}
use borrow.Author.Rules.{rules}
use Rattle.http_head.proofs.request_line.request_line.Goals as goal
use Rattle.http_head.proofs.request_line.request_line.Goals.{then-find-line-via-then-find-line, then-find-line-via-else-find-line+then-not-is_method}

pub returns-then-line-m : goal.returns-then-line-m
returns-then-line-m c = sym (one-part _ _ c.find-m.ensures c.if-line-m.true)

pub returns-then-line-t : goal.returns-then-line-t
returns-then-line-t c = sym (two-parts _ _ c.find-m.ensures c.if-line-m.false _ c.find-t.ensures c.if-line-t.true)

pub returns-then-find-line : goal.returns-then-find-line
returns-then-find-line c =
    sym
    (elim c.then-find-line.branch [
      | then-find-line-via-then-find-line w ↦
          four-parts _ _ c.find-m.ensures c.if-line-m.false _ c.find-t.ensures c.if-line-t.false _ c.find.ensures w.if-find-line.true
      | then-find-line-via-else-find-line+then-not-is_method w ↦
          no-method _ _ c.find-m.ensures c.if-line-m.false _ c.find-t.ensures c.if-line-t.false _ c.find.ensures w.if-find-line.false (sym w.is_method.ensures ∙ w.if-not-is_method.true)
    ])

pub returns-in_err-minor : goal.returns-in_err-minor
returns-in_err-minor c =
    let e = c.in_err-minor.ensures in
    let v = sym (e ∙ ap version_of (from c.args.line.now (c.find-t.result + 1))) in
    let m = sym c.is_method.ensures ∙ c.if-not-is_method.false in
    rw (bad-version _ _ c.find-m.ensures c.if-line-m.false _ c.find-t.ensures c.if-line-t.false _ c.find.ensures c.if-find-line.false m _ v)
    (search rules)

pub returns : goal.returns
returns c =
    let o = c.in_ok-minor.ensures in
    let v = sym (o ∙ ap version_of (from c.args.line.now (c.find-t.result + 1))) in
    let m = sym c.is_method.ensures ∙ c.if-not-is_method.false in
    sym (whole _ _ c.find-m.ensures c.if-line-m.false _ c.find-t.ensures c.if-line-t.false _ c.find.ensures c.if-find-line.false m _ v)
