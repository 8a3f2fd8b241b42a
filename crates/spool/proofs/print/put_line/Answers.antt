-- `spool::print::put_line` meets its contract.
-- Assumes nothing.
use Rattle.std.proofs.Common.{arith}
use Rattle.octets.proofs.Decimals.{twenty-digits}
use Rattle.spool.proofs.print.put_line.Goals as goal

pub write-end-requires : goal.write-end-requires
write-end-requires c = omega (arith, twenty-digits c.args.n (omega arith))

pub bounds-text-end : goal.bounds-text-end
bounds-text-end c = omega (arith, twenty-digits c.args.n (omega arith), c.write-end.ensures.ends)

pub overflow_add-result : goal.overflow_add-result
overflow_add-result c = omega (arith, twenty-digits c.args.n (omega arith), c.write-end.ensures.ends)

pub returns : goal.returns
returns c = omega (arith, twenty-digits c.args.n (omega arith), c.write-end.ensures.ends)
