use native.Mathlib.Omega.{arith}
use Rattle.gateway.proofs.write.write_request.Goals as goal

pub overflow_add-bound : goal.overflow_add-bound
overflow_add-bound c = omega (arith, c.requires.limit)

pub overflow_add-bound-2 : goal.overflow_add-bound-2
overflow_add-bound-2 c = omega (arith, c.requires.limit)

pub overflow_add-bound-3 : goal.overflow_add-bound-3
overflow_add-bound-3 c = omega (arith, c.requires.limit)

pub overflow_add-bound-4 : goal.overflow_add-bound-4
overflow_add-bound-4 c = omega (arith, c.requires.limit)

pub overflow_mul-bound : goal.overflow_mul-bound
overflow_mul-bound c = omega (arith, c.requires.limit)

pub overflow_add-bound-5 : goal.overflow_add-bound-5
overflow_add-bound-5 c = omega (arith, c.requires.limit)

-- the block has at most as many bytes as each buffer
pub write_by-requires : goal.write_by-requires
write_by-requires c =
    let r = c.requires in
    record { known = r.known; small = r.small; fits = omega (arith, r.bound, c.if-bound-le1920.true); limit = omega arith }

pub write_by-requires-else-bound-le1920 : goal.write_by-requires-else-bound-le1920
write_by-requires-else-bound-le1920 c =
    let r = c.requires in
    record { known = r.known; small = r.small; fits = omega (arith, r.bound, r.limit); limit = omega arith }
