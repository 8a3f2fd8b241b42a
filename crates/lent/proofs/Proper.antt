-- What is lent can stand in a block: no NUL in a value.
-- Assumes nothing.
use Prim.Native.Nat.{ℕ}
use Prim.{absurd}
use mathlib.Core.Path.{◌≡◌, ◌∙◌}
use mathlib.Core.Bool.{Bool, true, false, cond, not}
use mathlib.Core.List.{List, [], ◌∷◌}
use Rattle.std.proofs.Common.{Option, None, Some}
use native.Mathlib.Omega.{arith}
use Rattle.octets.specs.Text.{bytes}
use Rattle.octets.specs.Outcome.{gives, given}
use Rattle.octets.specs.Compare.{same_bytes}
use Rattle.octets.specs.Lists.{All, ◌&◌, NoNul, is_nil}
use Rattle.octets.proofs.Outcomes.{need-gives, given-gives, gives-once, then-gives}
use Rattle.headers.specs.Block.{Header, Proper}
use Rattle.headers.specs.Lookup.{value_in}
use Rattle.headers.proofs.Claims.{headers-proper}
use Rattle.lent.specs.Settings.{Auth, Settings, filled, or_in, sought, is_port, port_in, auth_of, settings_of}
use Rattle.lent.specs.Claims.{ProperAuth, neither, both, ProperSettings, LentIsProper}
use Rattle.lent.proofs.Links.{links}

-- Values.

-- a value that is there has no NUL
abbrev Plain : Option (List ℕ) → Type 0
Plain o = (v : List ℕ) → o ≡ Some v → NoNul v

value-plain : (name : List ℕ) (hs : List Header) → All Proper hs → Plain (value_in name hs)
unfolding value_in
value-plain name [] p v e = absurd (let z : ◌≡◌ {A = ℕ} 0 1 = cc in omega arith)
value-plain name (h ∷ hs) (p & ps) v e = by (same_bytes h.name name) (value-plain name hs ps v) e
  where
    by : (t : Bool) → (value_in name hs ≡ Some v → NoNul v) → cond t (Some h.value) (value_in name hs) ≡ Some v → NoNul v
    by true ih q =
        let z : h.value ≡ v = cc in
        rw (← z) p.value_bytes
    by false ih q = ih q

or-plain : (a b : Option (List ℕ)) → Plain a → Plain b → Plain (or_in a b)
or-plain None b p q = q
or-plain (Some v) b p q = p

filled-plain : (o : Option (List ℕ)) (v : List ℕ) → Plain o → filled o ≡ gives v → NoNul v
filled-plain o v p e =
    let a = then-gives (given o 20) _ v e in
    let b = need-gives (not (is_nil a.it)) 20 (gives a.it) v a.next in
    p v (given-gives o 20 v (a.first ∙ b.1))

auth-proper : (t u : Option (List ℕ)) (a : Option Auth) → Plain t → Plain u → auth_of t u ≡ gives a → ProperAuth a
auth-proper None None a p q e = rw (← gives-once None a e) neither
auth-proper None (Some u) a p q e = absurd (let z : ◌≡◌ {A = ℕ} 0 1 = cc in omega arith)
auth-proper (Some t) u a p q e =
    let b = then-gives (filled (Some t)) _ a e in
    let c = then-gives (filled u) _ a b.next in
    both_at b.it c.it (filled-plain (Some t) b.it p b.first) (filled-plain u c.it q c.first) (gives-once _ a c.next)
  where
    both_at : (x y : List ℕ) → NoNul x → NoNul y → Some (record { auth_type = x; remote_user = y }) ≡ a → ProperAuth a
    both_at x y m n z = rw (← z) (both m n)

module _ (facts site : List Header) (pf : All Proper facts) (ps : All Proper site) where
  sought-plain : (name v : List ℕ) → sought name facts site ≡ gives v → NoNul v
  sought-plain name v e =
      filled-plain (or_in (value_in name facts) (value_in name site)) v
      (or-plain (value_in name facts) (value_in name site) (value-plain name facts pf) (value-plain name site ps)) e

  port-plain : (v : List ℕ) → port_in facts site ≡ gives v → NoNul v
  port-plain v e =
      let a = then-gives (sought (bytes "SERVER_PORT") facts site) _ v e in
      let b = need-gives (is_port a.it) 20 (gives a.it) v a.next in
      sought-plain (bytes "SERVER_PORT") v (a.first ∙ b.1)

  settings-at :
      (s : Settings) (name port software addr : List ℕ) (auth : Option Auth) → NoNul name → NoNul port → NoNul software → NoNul addr → ProperAuth auth
      → record { auth = auth; remote_addr = addr; server_name = name; server_port = port; server_software = software } ≡ s → ProperSettings s
  settings-at s name port software addr auth n p w a u z =
      rw (← z) (record { auth = u; remote_addr = a; server_name = n; server_port = p; server_software = w })

  settings-proper : (s : Settings) → settings_of facts site ≡ gives s → ProperSettings s
  unfolding settings_of
  settings-proper s e =
      let a = then-gives (sought (bytes "SERVER_NAME") facts site) _ s e in
      let b = then-gives (port_in facts site) _ s a.next in
      let c = then-gives (sought (bytes "SERVER_SOFTWARE") facts site) _ s b.next in
      let d = then-gives (filled (value_in (bytes "REMOTE_ADDR") facts)) _ s c.next in
      let f = then-gives (auth_of (value_in (bytes "AUTH_TYPE") facts) (value_in (bytes "REMOTE_USER") facts)) _ s d.next in
      settings-at s a.it b.it c.it d.it f.it
      (sought-plain (bytes "SERVER_NAME") a.it a.first)
      (port-plain b.it b.first)
      (sought-plain (bytes "SERVER_SOFTWARE") c.it c.first)
      (filled-plain (value_in (bytes "REMOTE_ADDR") facts) d.it (value-plain (bytes "REMOTE_ADDR") facts pf) d.first)
      (auth-proper (value_in (bytes "AUTH_TYPE") facts) (value_in (bytes "REMOTE_USER") facts) f.it (value-plain (bytes "AUTH_TYPE") facts pf) (value-plain (bytes "REMOTE_USER") facts pf) f.first)
      (gives-once _ s f.next)

pub lent-is-proper : LentIsProper
lent-is-proper facts site mounts l e =
    let k = links facts site mounts l e in
    let f = headers-proper facts k.fs k.facts_hold.headers in
    let s = headers-proper site k.ss k.site_holds.headers in
    settings-proper k.fs k.ss f s l.settings k.settings
