use Rattle.targets.proofs.Paths.{no-escape}
use Rattle.targets.proofs.target.read_path.Goals as goal

pub plain_path-requires : goal.plain_path-requires
plain_path-requires c =
    (c.requires.1, c.requires.0.bytes, no-escape c.args.p.now _ c.find.ensures c.if-find-p.true)
