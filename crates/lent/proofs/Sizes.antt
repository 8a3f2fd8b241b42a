-- What the settings give takes no more than the two blocks.
-- Assumes nothing.
use Prim.Native.Nat.{ℕ, ◌+◌, ◌≤◌}
use mathlib.Core.Path.{◌≡◌, refl, ap, ◌∙◌}
use mathlib.Core.Bool.{not}
use mathlib.Core.List.{List, [], ◌∷◌}
use Rattle.std.proofs.Common.{Option, None, Some}
use native.Mathlib.Omega.{arith}
use lib.ListN.{length}
use Rattle.octets.specs.Text.{bytes}
use Rattle.octets.specs.Outcome.{gives, given}
use Rattle.octets.specs.Compare.{same_bytes}
use Rattle.octets.specs.Lists.{is_nil, is_in, different}
use Rattle.octets.proofs.Outcomes.{need-gives, given-gives, gives-once, then-gives}
use Rattle.headers.specs.Block.{Header}
use Rattle.headers.specs.Lookup.{value_in}
use Rattle.headers.specs.Sizes.{size_of, sizes_of}
use Rattle.headers.proofs.Claims.{values-fit}
use Rattle.lent.specs.Settings.{Auth, Settings, filled, or_in, sought, is_port, port_in, auth_of, settings_of}
use Rattle.lent.specs.Claims.{auth_size, settings_size, SettingsFit}
use Rattle.lent.proofs.Links.{links}

-- One value.

filled-some : (o : Option (List ℕ)) (v : List ℕ) → filled o ≡ gives v → o ≡ Some v
filled-some o v e =
    let a = then-gives (given o 20) _ v e in
    let b = need-gives (not (is_nil a.it)) 20 (gives a.it) v a.next in
    given-gives o 20 v (a.first ∙ b.1)

either-size : (n : List ℕ) (a b : Option (List ℕ)) (v : List ℕ) → or_in a b ≡ Some v → length n + length v + 2 ≤ size_of n a + size_of n b
either-size n (Some w) b v e =
    let z : w ≡ v = cc in
    omega (arith, ap length z)
either-size n None b v e = omega (arith, ap (size_of n) e)

sought-size :
    (n : List ℕ) (facts site : List Header) (v : List ℕ) → sought n facts site ≡ gives v
    → length n + length v + 2 ≤ size_of n (value_in n facts) + size_of n (value_in n site)
sought-size n facts site v e = either-size n (value_in n facts) (value_in n site) v (filled-some _ v e)

auth-size : (t u : Option (List ℕ)) (a : Option Auth) → auth_of t u ≡ gives a → auth_size a ≤ size_of (bytes "AUTH_TYPE") t + size_of (bytes "REMOTE_USER") u
auth-size None None a e = omega (arith, ap auth_size (gives-once None a e))
auth-size None (Some u) a e = let z : ◌≡◌ {A = ℕ} 0 1 = cc in omega arith
auth-size (Some t) u a e =
    let x = then-gives (filled (Some t)) _ a e in
    let y = then-gives (filled u) _ a x.next in
    let z : Some (record { auth_type = x.it; remote_user = y.it }) ≡ a = gives-once _ a y.next in
    omega
    (arith, ap auth_size z, ap (size_of (bytes "AUTH_TYPE")) (filled-some (Some t) x.it x.first), ap (size_of (bytes "REMOTE_USER")) (filled-some u y.it y.first))

-- All of them: which names are sought in which block.

fact_names : List (List ℕ)
fact_names = bytes "SERVER_NAME" ∷ bytes "SERVER_PORT" ∷ bytes "SERVER_SOFTWARE" ∷ bytes "REMOTE_ADDR" ∷ bytes "AUTH_TYPE" ∷ bytes "REMOTE_USER" ∷ []

site_names : List (List ℕ)
site_names = bytes "SERVER_NAME" ∷ bytes "SERVER_PORT" ∷ bytes "SERVER_SOFTWARE" ∷ []

settings-size : (facts site : List Header) (s : Settings) → settings_of facts site ≡ gives s → settings_size s ≤ sizes_of fact_names facts + sizes_of site_names site
unfolding settings_of sizes_of fact_names site_names
settings-size facts site s e =
    let a = then-gives (sought (bytes "SERVER_NAME") facts site) _ s e in
    let b = then-gives (port_in facts site) _ s a.next in
    let p = then-gives (sought (bytes "SERVER_PORT") facts site) _ b.it b.first in
    let port : p.it ≡ b.it = gives-once p.it b.it (need-gives (is_port p.it) 20 _ b.it p.next).1 in
    let c = then-gives (sought (bytes "SERVER_SOFTWARE") facts site) _ s b.next in
    let d = then-gives (filled (value_in (bytes "REMOTE_ADDR") facts)) _ s c.next in
    let i = then-gives (auth_of (value_in (bytes "AUTH_TYPE") facts) (value_in (bytes "REMOTE_USER") facts)) _ s d.next in
    let z : record { auth = i.it; remote_addr = d.it; server_name = a.it; server_port = b.it; server_software = c.it } ≡ s = gives-once _ s i.next in
    let addr : value_in (bytes "REMOTE_ADDR") facts ≡ Some d.it = filled-some _ d.it d.first in
    let j = sought-size (bytes "SERVER_NAME") facts site a.it a.first in
    let k = sought-size (bytes "SERVER_PORT") facts site p.it p.first in
    let l = sought-size (bytes "SERVER_SOFTWARE") facts site c.it c.first in
    let m = auth-size (value_in (bytes "AUTH_TYPE") facts) (value_in (bytes "REMOTE_USER") facts) i.it i.first in
    omega (arith, ap settings_size z, ap length port, ap (size_of (bytes "REMOTE_ADDR")) addr)

pub settings-fit : SettingsFit
unfolding different is_in same_bytes fact_names site_names
settings-fit facts site mounts l e =
    let k = links facts site mounts l e in
    let i = values-fit facts k.fs fact_names k.facts_hold.headers refl in
    let j = values-fit site k.ss site_names k.site_holds.headers refl in
    record {
      size = omega (arith, i, j, settings-size k.fs k.ss l.settings k.settings);
      facts_limit = k.facts_hold.within;
      site_limit = k.site_holds.within;
    }
