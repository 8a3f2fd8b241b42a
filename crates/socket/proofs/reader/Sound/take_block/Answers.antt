use Rattle.socket.proofs.Steps.{block_more, block-fault, block-comma}
use Rattle.socket.proofs.reader.Sound.take_block.Goals as goal

pub returns-then-have-left : goal.returns-then-have-left
returns-then-have-left c =
    rw (block_more c.args.self.state c.args.run.now c.args.block.now _ c.min-comma.ensures c.if-have-left.true)
    (record { step = c.more.ensures; buffer = c.put_any.ensures.holds })

pub returns-then-run-comma-ne44 : goal.returns-then-run-comma-ne44
returns-then-run-comma-ne44 c =
    rw (block-fault c.args.self.state c.args.run.now c.args.block.now _ c.min-comma.ensures c.if-have-left.false c.if-run-comma-ne44.true)
    (record { step = c.refused.ensures; buffer = c.put_any.ensures.holds })

pub returns : goal.returns
returns c =
    let h = c.put_any.ensures.holds in
    rw (block-comma c.args.self.state c.args.run.now c.args.block.now _ c.min-comma.ensures c.if-have-left.false c.if-run-comma-ne44.false)
    (record { step = rw h at c.take_comma.ensures; buffer = h })
