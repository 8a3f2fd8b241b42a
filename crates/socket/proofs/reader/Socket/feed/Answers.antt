use mathlib.Core.Path.{refl}
use native.Mathlib.Omega.{arith}
use Rattle.socket.proofs.Steps.{no_room, in-the-length, in-the-block, in-the-body, after-end}
use Rattle.socket.proofs.reader.Socket.feed.Goals as goal

pub returns-then-block-lt16384 : goal.returns-then-block-lt16384
returns-then-block-lt16384 c =
    rw (no_room c.args.self c.args.run.now c.args.block.now (omega (arith, c.if-block-lt16384.true)))
    (record { step = record { state = refl; answer = refl; body = refl; after = refl }; buffer = refl })

pub returns-in-0 : goal.returns-in-0
returns-in-0 c =
    rw (in-the-length c.args.self c.args.run.now c.args.block.now (omega (arith, c.if-block-lt16384.false)) _ c.sound.ensures c.in-0.is) c.take_digits.ensures

pub returns-in-1 : goal.returns-in-1
returns-in-1 c =
    rw (in-the-block c.args.self c.args.run.now c.args.block.now (omega (arith, c.if-block-lt16384.false)) _ c.sound.ensures c.in-1.is) c.take_block.ensures

pub returns-in-2 : goal.returns-in-2
returns-in-2 c =
    rw (in-the-body c.args.self c.args.run.now c.args.block.now (omega (arith, c.if-block-lt16384.false)) _ c.sound.ensures c.in-2.is)
    (record { step = c.take_body.ensures; buffer = refl })

pub returns-in_default : goal.returns-in_default
returns-in_default c =
    rw (after-end c.args.self c.args.run.now c.args.block.now (omega (arith, c.if-block-lt16384.false)) _ c.sound.ensures (omega arith))
    (record { step = c.done.ensures; buffer = refl })
