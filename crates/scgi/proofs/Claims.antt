-- Each claim of specs/Claims.antt, proved. Crates above cite this file and no other of this folder.
-- Assumes nothing.
use Prim.Native.Nat.{ℕ}
use mathlib.Core.List.{List}
use Rattle.scgi.specs.Claims.{MoreBytesKeepAnswer, UsedWithin, CutGivesOne, SpoolsHold, AcceptsExactly, RequestOnce, WritesExactly, RoomIsLast, WriteThenRead, ReadThenWrite, NumbersHold, LargestRequest, WindowReadsAll, DigitsGoOn, StatedWithin, ReadsInSteps}
use Rattle.scgi.proofs.DigitRuns as DigitRuns
use Rattle.scgi.proofs.Checks as Checks
use Rattle.scgi.proofs.ReadSteps as ReadSteps
use Rattle.scgi.proofs.Reader as Reader
use Rattle.scgi.proofs.Requests as Requests
use Rattle.scgi.proofs.Writer as Writer
use Rattle.scgi.proofs.Numbers as Numbers
use Rattle.scgi.proofs.Limits as Limits
use Rattle.scgi.proofs.Windows as Windows

pub more-bytes-keep-answer : MoreBytesKeepAnswer
more-bytes-keep-answer = Reader.more-bytes-keep-answer

pub used-within : UsedWithin
used-within = Reader.used-within

pub cut-gives-one : CutGivesOne
cut-gives-one = Reader.cut-gives-one

pub spools-hold : SpoolsHold
spools-hold = Reader.spools-hold

pub accepts-exactly : AcceptsExactly
accepts-exactly = Requests.accepts-exactly

pub request-once : RequestOnce
request-once = Requests.request-once

pub writes-exactly : WritesExactly
writes-exactly = Writer.writes-exactly

pub room-is-last : RoomIsLast
room-is-last = Writer.room-is-last

pub write-then-read : WriteThenRead
write-then-read = Writer.write-then-read

pub read-then-write : ReadThenWrite
read-then-write = Writer.read-then-write

pub numbers-hold : NumbersHold
numbers-hold = Numbers.numbers-hold

pub largest-request : LargestRequest
largest-request = Limits.largest-request

pub window-reads-all : WindowReadsAll
window-reads-all = Windows.window-reads-all

pub digits-go-on : DigitsGoOn
digits-go-on = DigitRuns.digits-go-on

pub stated-within : StatedWithin
stated-within = Checks.check-bound

pub reads-in-steps : (s : List ℕ) → ReadsInSteps s
reads-in-steps = ReadSteps.reads-in-steps
