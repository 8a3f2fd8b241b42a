use Prim.Native.Nat.{◌+◌, ◌<◌}
use lib.ListN.{get_or}
use Rattle.targets.proofs.Escapes.{hex-small, escape-inside, decode-byte, decode-escape}
use native.Mathlib.Omega.{arith}
use Rattle.targets.proofs.escape.decode_at.Goals as goal
use Rattle.targets.proofs.escape.decode_at.Goals.{After-hex_value-low}

pub returns-then-s-i-ne37 : goal.returns-then-s-i-ne37
returns-then-s-i-ne37 c =
    decode-byte c.args.s.now c.args.i c.requires.0 c.requires.1 c.if-s-i-ne37.true

pub bounds-s-i-2 : goal.bounds-s-i-2
bounds-s-i-2 c =
    omega (arith, escape-inside c.args.s.now c.args.i c.requires.0 c.requires.1 c.if-s-i-ne37.false)

pub bounds-s-i-3 : goal.bounds-s-i-3
bounds-s-i-3 c =
    omega (arith, escape-inside c.args.s.now c.args.i c.requires.0 c.requires.1 c.if-s-i-ne37.false)

-- both digits are below 16
digits : (c : After-hex_value-low) → (c.hex_value-high.result < 16) × (c.hex_value-low.result < 16)
digits c =
    let a = c.args in (
      omega (arith, c.hex_value-high.ensures, hex-small (get_or a.s.now (a.i + 1) 0)),
      omega (arith, c.hex_value-low.ensures, hex-small (get_or a.s.now (a.i + 2) 0)),
    )

pub overflow_mul-result : goal.overflow_mul-result
overflow_mul-result c = omega (arith, (digits c).0, (digits c).1)

pub overflow_add-result-2 : goal.overflow_add-result-2
overflow_add-result-2 c = omega (arith, (digits c).0, (digits c).1)

pub returns : goal.returns
returns c =
    rw (c.hex_value-high.ensures, c.hex_value-low.ensures)
    (decode-escape c.args.s.now c.args.i c.requires.0 c.requires.1 c.if-s-i-ne37.false)
