use Rattle.std.proofs.Common.{arith}
use Rattle.std.proofs.lemmas.Bool.Decides.{nat_tests}
use Rattle.capi.proofs.Writes.{due, no_room}
use Rattle.capi.proofs.write.oy_scgi_write.Goals as goal

pub returns-then-is_empty : goal.returns-then-is_empty
returns-then-is_empty c =
    no_room _ _ _ _ (grind (arith, nat_tests, c.if-is_empty.ensures)) _ (rw (c.refused.ensures, c.unwrap_or.ensures, c.err.ensures.value) (due _ _ _ _ _ c.write.ensures))
