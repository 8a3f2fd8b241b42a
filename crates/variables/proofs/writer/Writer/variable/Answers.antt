use Rattle.std.proofs.Common.{[], ◌∷◌, ◌++◌}
use Rattle.variables.proofs.Writers.{and_then, room-left, room-front}
use Rattle.variables.proofs.writer.Writer.variable.Goals as goal

pub text-requires-2 : goal.text-requires-2
text-requires-2 c = room-left c.args.name.now (0 ∷ []) (room-front c.args.self.now _ _ c.requires) c.text.ensures

pub value-requires : goal.value-requires
value-requires c = room-left (c.args.name.now ++ 0 ∷ []) _ c.requires (and_then _ _ c.text.ensures c.text-2.ensures)

pub returns : goal.returns
returns c = and_then _ _ (and_then _ _ c.text.ensures c.text-2.ensures) c.value.ensures
