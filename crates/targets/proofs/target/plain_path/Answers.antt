use mathlib.Core.Path.{sym, ◌∙◌}
use Rattle.targets.proofs.Paths.{plain-judged, plain-written, path-refused, path-accepted}
use Rattle.targets.proofs.target.plain_path.Goals as goal

pub returns-then-not-segments : goal.returns-then-not-segments
returns-then-not-segments c =
    let p = c.args.p.now in
    path-refused p _ _ _ (plain-written p c.requires.1 c.requires.2 _ _ _ c.put-decoded_len.ensures)
    (plain-judged p c.requires.1 c.requires.2 ∙ sym c.segments.ensures ∙ c.if-not-segments.true)

pub returns : goal.returns
returns c =
    let p = c.args.p.now in
    path-accepted p _ _ _ (plain-written p c.requires.1 c.requires.2 _ _ _ c.put-decoded_len.ensures)
    (plain-judged p c.requires.1 c.requires.2 ∙ sym c.segments.ensures ∙ c.if-not-segments.false)
