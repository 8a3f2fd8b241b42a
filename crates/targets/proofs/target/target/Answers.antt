use mathlib.Core.Path.{◌≡◌, sym}
use Rattle.std.proofs.Common.{Ok, rules}
use lib.Seq.{length-take-le}
use Rattle.targets.specs.Target.{raw_of}
use Rattle.targets.proofs.Targets.{raw-refused, raw-inside, path_room, path-right, target_read}
use Rattle.targets.proofs.target.target.Goals as goal
use Rattle.targets.proofs.target.target.Goals.{In_ok-raw}

got : (c : In_ok-raw) → raw_of c.args.t.now ≡ Ok c.in_ok-raw.raw
got c = sym (c.in_ok-raw.ensures {u = tt})

pub returns-in_err-raw : goal.returns-in_err-raw
returns-in_err-raw c =
    let e = raw-refused c.args.t.now c.args.path.now _ (sym (c.in_err-raw.ensures {u = tt})) in
    search rules

pub slice_bounds-read_path-end : goal.slice_bounds-read_path-end
slice_bounds-read_path-end c =
    sym (length-take-le _ c.args.t.now (raw-inside _ c.args.path.now _ _ (got (goal.at.slice_bounds-read_path-end c).In_ok-raw) c.requires))

pub read_path-requires : goal.read_path-requires
read_path-requires c =
    let g = got (goal.at.read_path-requires c).In_ok-raw in
    (path-right _ c.args.path.now _ _ g c.requires, path_room _ c.args.path.now _ _ g c.requires)

pub returns : goal.returns
returns c = target_read _ _ _ _ (got (goal.at.returns c).In_ok-raw) c.requires _ _ c.read_path.ensures
