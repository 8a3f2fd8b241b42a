use mathlib.Core.Path.{refl}
use native.Mathlib.Omega.{arith}
use Rattle.variables.proofs.FixedVariables.{query-part}
use Rattle.variables.proofs.fixed_variables.query.Goals as goal

pub returns : goal.returns
returns c =
    let l = c.args.line in
    (query-part c.args.head.now l.target.start l.target.len l.path c.requires.0 c.requires.1 c.requires.2 c.min.result c.min.ensures, record { memory = refl; offset = omega (arith, c.min.ensures, c.requires.1) })
