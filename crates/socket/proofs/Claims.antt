-- Each claim of specs/Claims.antt, proved. Crates above cite this file and no other of this folder.
-- Assumes nothing.
use Rattle.socket.specs.Claims.{SocketReads, EndStays, BlockKnown, NoneTaken, ShortChangesNothing, SocketNumbers}
use Rattle.socket.proofs.Steps as Steps
use Rattle.socket.proofs.Runs as Runs
use Rattle.socket.proofs.Numbers as Numbers

pub socket-reads : SocketReads
socket-reads = Runs.socket-reads

pub end_stays : EndStays
end_stays = Runs.end_stays

pub block-known : BlockKnown
block-known = Runs.block-known

pub none-taken : NoneTaken
none-taken = Runs.none-taken

pub short-changes-nothing : ShortChangesNothing
short-changes-nothing = Steps.no_room

pub socket-numbers : SocketNumbers
socket-numbers = Numbers.answers-numbers
