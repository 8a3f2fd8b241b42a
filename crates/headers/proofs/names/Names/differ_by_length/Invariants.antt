use Rattle.headers.proofs.Nearests.{Passing}
use Rattle.headers.proofs.names.Names.differ_by_length.Given as goal

abbrev pub invariant-loop-k : goal.invariant-loop-k
invariant-loop-k l = Passing l.self.block.now l.self.places.now l.nearest l.k
