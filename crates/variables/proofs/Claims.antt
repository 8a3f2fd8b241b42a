-- Each claim of specs/Claims.antt, proved.
-- Assumes nothing.
use Rattle.variables.specs.Claims.{MeaningIsProper, VariablesAreHeaders, VariablesFew, VariablesTake, VariablesSayMeaning}
use Rattle.variables.proofs.Variables as Variables
use Rattle.variables.proofs.Names as Names
use Rattle.variables.proofs.Meanings as Meanings
use Rattle.variables.proofs.Sizes as Sizes

pub meaning-is-proper : MeaningIsProper
meaning-is-proper = Meanings.meaning-proper

pub variables-are-headers : VariablesAreHeaders
variables-are-headers = Meanings.variables-stand

pub variables-few : VariablesFew
variables-few = Names.variable-count

pub variables-take : VariablesTake
variables-take = Sizes.variables-take

pub variables-say-meaning : VariablesSayMeaning
variables-say-meaning = Variables.variables-once
