use Rattle.variables.proofs.Writers.{and_then, room-left}
use Rattle.variables.proofs.writer.Writer.value.Goals as goal

pub text-requires : goal.text-requires
text-requires c = room-left c.args.src.now _ c.requires c.bytes.ensures

pub returns : goal.returns
returns c = and_then _ _ c.bytes.ensures c.text.ensures
