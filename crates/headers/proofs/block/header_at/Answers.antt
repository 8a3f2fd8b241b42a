use Rattle.octets.proofs.Tests.{tests}
use Rattle.headers.specs.Block.{header_ends}
use Rattle.headers.proofs.block.header_at.Goals as goal
use Rattle.headers.proofs.block.header_at.Goals.{then-name_end-at-via-then-name_end-at as empty, then-name_end-at-via-else-name_end-at+then-block-name_end as unended}

pub returns-then-name_end-at : goal.returns-then-name_end-at
unfolding header_ends
returns-then-name_end-at c = rw (← c.find-name_end.ensures) (elim c.then-name_end-at.branch [ empty w ↦ search tests | unended w ↦ search tests ])

pub returns-then-block-value_end : goal.returns-then-block-value_end
unfolding header_ends
returns-then-block-value_end c = rw (← c.find-name_end.ensures) (rw (← c.find_soon-value_end.ensures) (search tests))

pub returns : goal.returns
unfolding header_ends
returns c = rw (← c.find-name_end.ensures) (rw (← c.find_soon-value_end.ensures) (search tests))
