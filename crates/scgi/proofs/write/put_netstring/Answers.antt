use Rattle.scgi.proofs.WriteSteps.{four-writes}
use Rattle.scgi.proofs.write.put_netstring.Goals as goal

pub returns : goal.returns
returns c =
    four-writes _ _ _ _ _ _ _ _ _ _ c.requires c.write-a.ensures c.put-b.ensures c.put-c.ensures c.put.ensures
