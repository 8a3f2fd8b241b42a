use mathlib.Core.Path.{◌≡◌, refl, sym}
use Prim.Native.Nat.{ℕ}
use borrow.Author.Rules.{rules}
use Rattle.std.proofs.Common.{Option, None, Some}
use Rattle.mounts.proofs.Mounts.{last-slash, no-slash}
use Rattle.mounts.specs.Search.{slash_part, shortened}
use Rattle.mounts.proofs.search.last_slash.Goals as goal

pub returns : goal.returns
returns c = by c.rposition.result refl
  where
    by : (o : Option ℕ) → c.rposition.result ≡ o → slash_part c.args.path.now o ≡ shortened c.args.path.now
    by (Some k) e = sym (last-slash c.args.path.now k (search rules) (search rules) (search rules))
    by None e = sym (no-slash c.args.path.now (search rules))
