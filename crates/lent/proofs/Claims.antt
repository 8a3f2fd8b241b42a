-- Each claim of specs/Claims.antt, proved. Crates above cite this file and no other of this folder.
-- Assumes nothing.
use Rattle.lent.specs.Claims.{LentNumber, LentMounts, LentIsProper, SettingsFit, LentTold}
use Rattle.lent.proofs.Links as Links
use Rattle.lent.proofs.CheckSteps as CheckSteps
use Rattle.lent.proofs.Proper as Proper
use Rattle.lent.proofs.Sizes as Sizes

pub lent-is-proper : LentIsProper
lent-is-proper = Proper.lent-is-proper

pub settings-fit : SettingsFit
settings-fit = Sizes.settings-fit

pub lent-number : LentNumber
lent-number = CheckSteps.lent-number

pub lent-mounts : LentMounts
lent-mounts = Links.lent-mounts

pub lent-told : LentTold
lent-told = CheckSteps.lent-told
