use Rattle.socket.proofs.Steps.{body_more, body-whole}
use Rattle.socket.proofs.reader.Sound.take_body.Goals as goal

pub returns-then-have-left : goal.returns-then-have-left
returns-then-have-left c =
    rw (body_more c.args.self.state c.args.run.now c.if-have-left.true) c.more.ensures

pub returns : goal.returns
returns c = rw (body-whole c.args.self.state c.args.run.now c.if-have-left.false) c.done.ensures
