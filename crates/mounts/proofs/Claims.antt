-- Each claim of specs/Claims.antt, proved. Crates above cite this file and no other of this folder.
-- Assumes nothing.
use Rattle.mounts.specs.Claims.{BlocksHold, BlocksTold, MountsNumber, MountsAreHeaders, MountIsLongest, LongestWins, RouteIsPath}
use Rattle.mounts.proofs.BlockSteps as BlockSteps
use Rattle.mounts.proofs.Numbers as Numbers
use Rattle.mounts.proofs.Mounts as Mounts
use Rattle.mounts.proofs.Pools as Pools

pub blocks-hold : BlocksHold
blocks-hold = BlockSteps.blocks-hold

pub blocks-told : BlocksTold
blocks-told = BlockSteps.blocks-told

pub mounts-number : MountsNumber
mounts-number = Numbers.mounts-number

pub mounts-are-headers : MountsAreHeaders
mounts-are-headers = Pools.mounts-are-headers

pub mount-is-longest : MountIsLongest
mount-is-longest = Mounts.mount-is-longest

pub longest-wins : LongestWins
longest-wins = Mounts.longest-wins

pub route-is-path : RouteIsPath
route-is-path = Mounts.route-is-path
