use Prim.Native.Nat.{ℕ}
use mathlib.Core.Path.{◌≡◌, sym, ◌∙◌}
use native.Mathlib.Omega.{arith}
use borrow.Author.Rules.{rules}
use lib.ListN.{length, replicate, length-replicate}
use Rattle.std.proofs.Common.{Err}
use Rattle.octets.specs.declared.span.Span.{Span}
use Rattle.lent.proofs.CheckSteps.{facts-unfit, site-unfit, mounts-unfit, settled}
use Rattle.lent.proofs.check.check_with.Goals as goal

-- a list has the room that it was made with
room : (n : ℕ) (p : Span) → length (replicate n p) ≡ n
room n p = simp length-replicate

pub whole_as_slice-block_names : goal.whole_as_slice-block_names
whole_as_slice-block_names g c = omega (arith, c.requires)

pub whole_as_slice-block_names-2 : goal.whole_as_slice-block_names-2
whole_as_slice-block_names-2 g c = omega (arith, c.requires)

pub returns-in_err-facts_names : goal.returns-in_err-facts_names
returns-in_err-facts_names g c =
    let e = c.in_err-facts_names.ensures.found in
    let z : c.from_residual.result ≡ Err c.in_err-facts_names.field-0.0 = search rules in
    rw z (rw (room g.row.N _) at (facts-unfit _ _ c.args.site.now c.args.mounts.now _ e))

pub returns-in_err-site_names : goal.returns-in_err-site_names
returns-in_err-site_names g c =
    let f = c.in_ok-facts_names.ensures.found in
    let e = c.in_err-site_names.ensures.found in
    let z : c.from_residual-in_err-site_names.result ≡ Err c.in_err-site_names.field-0.0 = search rules in
    rw z (rw (room g.row.N _) at (site-unfit _ _ _ c.args.mounts.now _ f _ e))

pub returns-then-not-is_mounts : goal.returns-then-not-is_mounts
returns-then-not-is_mounts g c =
    let f = c.in_ok-facts_names.ensures.found in
    let s = c.in_ok-site_names.ensures.found in
    rw (room g.row.N _) at (mounts-unfit _ _ _ _ _ f _ s (sym c.is_mounts.ensures ∙ c.if-not-is_mounts.true))

pub returns : goal.returns
returns g c =
    let f = c.in_ok-facts_names.ensures.found in
    let s = c.in_ok-site_names.ensures.found in
    rw (room g.row.N _) at
    (settled _ _ _ _ _ f _ s (sym c.is_mounts.ensures ∙ c.if-not-is_mounts.false) _ (rw (f.stored, s.stored) at c.find_settings.ensures) _ c.ok_or.ensures.value)
