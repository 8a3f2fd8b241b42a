use mathlib.Core.Path.{sym, ◌∙◌}
use lib.Seq.{length-take-le}
use Rattle.targets.proofs.Paths.{front-inside, front-judged, path-refused, path-accepted}
use Rattle.targets.proofs.target.escaped_path.Goals as goal

pub slice_bounds-decoded_path-end : goal.slice_bounds-decoded_path-end
slice_bounds-decoded_path-end c =
    front-inside c.args.p.now c.args.path.now _ _ c.decode-decoded_len.ensures c.requires.0

pub slice_bounds-decoded_path-end-2 : goal.slice_bounds-decoded_path-end-2
slice_bounds-decoded_path-end-2 c =
    let d = c.decode-decoded_len in
    sym (length-take-le _ d.new.out (front-inside c.args.p.now c.args.path.now _ _ d.ensures c.requires.0))

pub returns-then-not-decoded_path : goal.returns-then-not-decoded_path
returns-then-not-decoded_path c =
    let p = c.args.p.now in
    let w = c.decode-decoded_len.ensures in
    path-refused p _ _ _ w
    (front-judged p _ _ _ w c.requires.0 _ c.requires.2 ∙ sym c.decoded_path.ensures ∙ c.if-not-decoded_path.true)

pub returns : goal.returns
returns c =
    let p = c.args.p.now in
    let w = c.decode-decoded_len.ensures in
    path-accepted p _ _ _ w
    (front-judged p _ _ _ w c.requires.0 _ c.requires.2 ∙ sym c.decoded_path.ensures ∙ c.if-not-decoded_path.false)
