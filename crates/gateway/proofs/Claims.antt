-- Each claim of specs/Claims.antt, proved. Crates above cite this file and no other of this folder.
-- Assumes nothing.
use Rattle.gateway.specs.Claims.{BytesExactlyMeaning, WrittenIsAccepted, PoolIsValue, VariablesFit, PipelinesFrame, PipelinesEqual, PipelineCut, PipelineGoesOn, RoomIsLast, NumbersHold, WorkedCases}
use Rattle.gateway.proofs.Exactly as Exactly
use Rattle.gateway.proofs.Fits as Fits
use Rattle.gateway.proofs.Pipelines as Pipelines
use Rattle.gateway.proofs.Links as Links
use Rattle.gateway.proofs.Numbers as Numbers
use Rattle.gateway.proofs.Worked as Worked

pub bytes-exactly-meaning : BytesExactlyMeaning
bytes-exactly-meaning = Exactly.bytes-exactly-meaning

pub written-is-accepted : WrittenIsAccepted
written-is-accepted = Exactly.written-is-accepted

pub pool-is-value : PoolIsValue
pool-is-value = Exactly.pool-is-value

pub variables-fit : VariablesFit
variables-fit = Fits.variables-fit

pub pipelines-frame : PipelinesFrame
pipelines-frame = Pipelines.pipelines-frame

pub pipelines-equal : PipelinesEqual
pipelines-equal = Pipelines.pipelines-equal

pub pipeline-cut : PipelineCut
pipeline-cut = Pipelines.pipeline-cut

pub pipeline-goes-on : PipelineGoesOn
pipeline-goes-on = Pipelines.pipeline-goes-on

pub room-is-last : RoomIsLast
room-is-last = Links.room-is-last

pub numbers-hold : NumbersHold
numbers-hold = Numbers.numbers-hold

pub worked-cases : WorkedCases
worked-cases = Worked.worked-cases
