use Rattle.headers.proofs.NamePlaces.{known, inside-at}
use Rattle.headers.proofs.names.Names.name.Goals as goal

pub of-requires : goal.of-requires
of-requires c = inside-at _ _ _ _ (known _ _ c.args.self.held).inside c.requires
