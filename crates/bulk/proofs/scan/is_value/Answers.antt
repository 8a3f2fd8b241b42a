use borrow.Author.Rules.{rules}
use Rattle.octets.proofs.Chunks.{by_value}
use Rattle.bulk.proofs.scan.is_value.Goals as goal

pub returns : goal.returns
returns c = by_value c.args.b (search rules)
