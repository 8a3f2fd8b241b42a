use mathlib.Core.Path.{◌≡◌, sym}
use Rattle.std.proofs.Common.{Some}
use Rattle.octets.specs.Outcome.{gives}
use Rattle.octets.specs.Text.{bytes}
use Rattle.headers.specs.Lookup.{lookup_of}
use Rattle.lent.proofs.SettingSteps.{well-named, gone, kept, no-auth, user-alone, type-alone, empty-type, empty-user, is-auth}
use Rattle.lent.proofs.settings.find_auth.Goals as goal
use Rattle.lent.proofs.settings.find_auth.Goals.{In-Some-Some}

-- what the two lookups say, where both names are there
type-got : (c : In-Some-Some) → lookup_of c.args.facts.block.now (bytes "AUTH_TYPE") ≡ gives (Some c.in-Some-Some.t)
type-got c = sym (rw c.in-Some-Some.is-0 at c.seek.ensures)

user-got : (c : In-Some-Some) → lookup_of c.args.facts.block.now (bytes "REMOTE_USER") ≡ gives (Some c.in-Some-Some.u)
user-got c = sym (rw c.in-Some-Some.is-1 at c.seek-2.ensures)

pub returns-in-None-None : goal.returns-in-None-None
returns-in-None-None c =
    no-auth _ (well-named _ _ c.args.facts.held) (sym (rw c.in-None-None.is-0 at c.seek.ensures)) (sym (rw c.in-None-None.is-1 at c.seek-2.ensures))

pub returns-in_err-auth_type-in-Some-Some : goal.returns-in_err-auth_type-in-Some-Some
returns-in_err-auth_type-in-Some-Some c =
    let k = (goal.at.returns-in_err-auth_type-in-Some-Some c).In-Some-Some in
    let e = c.in_err-auth_type-in-Some-Some.ensures in
    rw c.from_residual.ensures (empty-type _ (well-named _ _ c.args.facts.held) _ (type-got k) _ (user-got k) (gone _ e))

pub returns-in_err-remote_user-in-Some-Some : goal.returns-in_err-remote_user-in-Some-Some
returns-in_err-remote_user-in-Some-Some c =
    let k = (goal.at.returns-in_err-remote_user-in-Some-Some c).In-Some-Some in
    let a = c.in_ok-auth_type-in-Some-Some.ensures in
    let e = c.in_err-remote_user-in-Some-Some.ensures in
    rw c.from_residual-in_err-remote_user-in-Some-Some.ensures
    (empty-user _ (well-named _ _ c.args.facts.held) _ (type-got k) _ (user-got k) (kept _ _ a).0 (gone _ e))

pub returns-in_ok-remote_user-in-Some-Some : goal.returns-in_ok-remote_user-in-Some-Some
returns-in_ok-remote_user-in-Some-Some c =
    let k = (goal.at.returns-in_ok-remote_user-in-Some-Some c).In-Some-Some in
    let a = c.in_ok-auth_type-in-Some-Some.ensures in
    let b = c.in_ok-remote_user-in-Some-Some.ensures in
    rw ((kept _ _ a).1, (kept _ _ b).1) (is-auth _ (well-named _ _ c.args.facts.held) _ (type-got k) _ (user-got k) (kept _ _ a).0 (kept _ _ b).0)

pub returns-in_default : goal.returns-in_default
returns-in_default c =
    user-alone _ (well-named _ _ c.args.facts.held) _ (sym (rw c.in_default.is-0 at c.seek.ensures)) (sym (rw c.in_default.is-1 at c.seek-2.ensures))

pub returns-in_default-2 : goal.returns-in_default-2
returns-in_default-2 c =
    type-alone _ (well-named _ _ c.args.facts.held) _ (sym (rw c.in_default.is-0 at c.seek.ensures)) (sym (rw c.in_default.is-1 at c.seek-2.ensures))
