use mathlib.Core.Path.{◌≡◌, sym, ap, ◌∙◌}
use Prim.Native.Nat.{ℕ}
use native.Mathlib.Nat.{le_of_lt}
use native.Mathlib.Omega.{arith}
use borrow.Author.Rules.{rules}
use lib.ListN.{take, length-take}
use lib.Seq.{length-take-le}
use Rattle.std.proofs.Common.{None, Some}
use Rattle.headers.proofs.Claims.{places-inside}
use Rattle.mounts.proofs.Searches.{front-shorter, good-formed, path-is-mount, no-mount, shorter-path}
use Rattle.mounts.specs.Search.{shortened, slash_part}
use Rattle.mounts.proofs.search.+search.Goals as goal
use Rattle.mounts.proofs.search.+search.Goals.{In_ok-slash}

-- the path without its last segment, where it has a slash
shorter : {t : ℕ} (c : In_ok-slash t) → shortened c.args.path.now ≡ Some (take c.in_ok-slash.slash c.args.path.now)
shorter c =
    let e : c.last_slash.result ≡ Some c.in_ok-slash.slash = search rules in
    sym c.last_slash.ensures ∙ ap (slash_part _) e

pub seek-requires : goal.seek-requires
seek-requires t c = good-formed _ c.requires

pub found-requires : goal.found-requires
found-requires t c = places-inside.of_one _ _ _ (sym c.in-Some.ensures)

pub returns-in-Some : goal.returns-in-Some
returns-in-Some t c = c.found.ensures ∙ path-is-mount c.args.mounts.now c.args.path.now c.requires _ (sym c.in-Some.ensures)

pub returns-in_err-slash : goal.returns-in_err-slash
returns-in_err-slash t c =
    let e : c.last_slash.result ≡ None = search rules in
    let f = no-mount c.args.mounts.now c.args.path.now c.requires (sym c.in_default.ensures) (sym c.last_slash.ensures ∙ ap (slash_part _) e) in
    rw (sym f) (search rules)

pub slice_bounds-search-end : goal.slice_bounds-search-end
slice_bounds-search-end t c =
    sym (length-take-le _ c.args.path.now (le_of_lt (front-shorter c.args.path.now _ (shorter c))))

pub search-requires : goal.search-requires
search-requires t c =
    let k = c.in_ok-slash.slash in (
      omega (arith, length-take k c.args.path.now, front-shorter c.args.path.now k (shorter c), c.decreases),
      c.requires,
    )

pub returns : goal.returns
returns t c =
    c.search.ensures
    ∙ shorter-path c.args.mounts.now c.args.path.now c.requires _ (sym c.in_default.ensures) (shorter (goal.at.returns t c).In_ok-slash)
