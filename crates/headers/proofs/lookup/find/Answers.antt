use mathlib.Core.Path.{sym}
use borrow.Author.Rules.{rules}
use Rattle.headers.proofs.Lookups.{count-refused}
use Rattle.headers.specs.Lookup.{lookup_of}
use Rattle.headers.proofs.lookup.find.Goals as goal

pub returns-in_err-count_headers : goal.returns-in_err-count_headers
unfolding lookup_of
returns-in_err-count_headers c =
    let e = c.in_err-count_headers.ensures in
    rw (count-refused _ _ _ (sym e)) (search rules)
