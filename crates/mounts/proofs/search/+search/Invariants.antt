use lib.ListN.{length}
use Rattle.mounts.proofs.search.+search.Given as goal

-- each try is shorter than the one before
abbrev pub decreases-search : goal.decreases-search
decreases-search l = length l.path.now
