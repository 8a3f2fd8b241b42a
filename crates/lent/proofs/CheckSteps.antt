-- Laws of the check of what is lent, step by step, and of its answers.
-- Assumes nothing.
use Prim.{absurd}
use Prim.Native.Nat.{ℕ, ◌≤◌}
use mathlib.Core.Path.{◌≡◌, refl, sym, ap, ◌∙◌}
use mathlib.Core.Bool.{Bool, true, false, false≢true, not, ◌&&◌}
use mathlib.Core.List.{List, [], ◌∷◌}
use Rattle.std.proofs.Common.{Option, None, Some, Result, Ok, Err}
use Rattle.std.specs.Option.{ok_or}
use native.Mathlib.Omega.{arith}
use lib.Dec.{leb}
use lib.ListN.{length}
use borrow.Author.Tests.{leb-true, le-ltb}
use Rattle.octets.specs.Text.{bytes}
use Rattle.octets.specs.Outcome.{Outcome, refused, gives, is_good, then, given}
use Rattle.octets.specs.Lists.{is_nil}
use Rattle.octets.proofs.Bools.{and-false}
use Rattle.octets.proofs.Outcomes.{Given as Answer, good-gives, gives-once, then-gives}
use Rattle.octets.proofs.Refusals.{Refuses, with_number, not_refused, only-number, refuses-only, refuses-then, refuses-need, refuses-given}
use Rattle.headers.specs.Block.{Header, headers_of}
use Rattle.headers.specs.Lookup.{value_in}
use Rattle.headers.proofs.Claims.{headers-few, places-inside}
use Rattle.mounts.specs.Blocks.{block_of, stored_of, BlockGood, many_for, lacks_room, BlockFound}
use Rattle.mounts.specs.Mounts.{Mount, mounts_of}
use Rattle.mounts.proofs.Claims.{blocks-hold, blocks-told, mounts-number}
use Rattle.lent.specs.Settings.{Settings, filled, or_in, sought, is_port, auth_of, settings_of}
use Rattle.lent.specs.Lent.{Lent, lent_of}
use Rattle.lent.specs.Places.{settings_at, FactInside, AuthInside, SettingsInside, FactHeld, AuthHeld, SettingsHeld, SettingsFound}
use Rattle.lent.specs.Check.{LentFound, lacks_either, LentTried}
use Rattle.lent.specs.Claims.{LentNumber, Accepted, LentTold}
use Rattle.octets.specs.declared.span.Span.{Span}
use Rattle.octets.specs.declared.refusal.Refusal.{Refusal}
use Rattle.octets.specs.declared.refusal.Refusal.TheVariants.{Lent as LentRefused}
use Rattle.octets.specs.Refusal.{number_of}
use Rattle.headers.specs.declared.names.Names.{Names}
use Rattle.mounts.specs.declared.blocks.Unfit.{Unfit}
use Rattle.mounts.specs.declared.blocks.Unfit.TheVariants.{Full, Breach}
use Rattle.lent.specs.declared.places.Auth.{Auth}
use Rattle.lent.specs.declared.places.SettingPlaces.{SettingPlaces}
use Rattle.lent.proofs.Links.{lent-mounts}
use Rattle.lent.proofs.SettingSteps.{value_inside}

-- Mounts that fail the test of them.

bad-mounts : (mounts : List ℕ) → is_good (mounts_of mounts) ≡ false → mounts_of mounts ≡ refused 20
bad-mounts mounts e = by (mounts_of mounts) refl e
  where
    by : (o : Outcome (List Mount)) → mounts_of mounts ≡ o → is_good o ≡ false → o ≡ refused 20
    by (gives ms) q r = cc
    by (refused k) q r = ap refused (mounts-number mounts k q)

-- The check, step by step.

module _ (facts site mounts : List ℕ) where
  pub wrong-facts : block_of 1024 facts ≡ refused 20 → LentFound facts site mounts (Err LentRefused)
  unfolding lent_of
  wrong-facts e = record { answer = sym (rw e); places = tt }

  module _ (f : BlockGood 1024 facts) where
    pub wrong-site : block_of 1024 site ≡ refused 20 → LentFound facts site mounts (Err LentRefused)
    unfolding lent_of
    wrong-site e = record { answer = sym (rw (f.accepted, e)); places = tt }

    module _ (s : BlockGood 1024 site) where
      pub wrong-mounts : is_good (mounts_of mounts) ≡ false → LentFound facts site mounts (Err LentRefused)
      unfolding lent_of
      wrong-mounts e = record { answer = sym (rw (f.accepted, s.accepted, bad-mounts mounts e)); places = tt }

      module _ (g : is_good (mounts_of mounts) ≡ true) where
        m : Answer (mounts_of mounts)
        m = good-gives (mounts_of mounts) g

        -- what is left of the chain
        left : lent_of facts site mounts ≡ then (settings_of f.hs s.hs) (λ x. gives (record { settings = x; mounts = m.it }))
        unfolding lent_of
        left = rw (f.accepted, s.accepted, m.is)

        pub wrong-settings : SettingsFound facts site None → LentFound facts site mounts (Err LentRefused)
        wrong-settings x =
            let e : refused 20 ≡ settings_of f.hs s.hs = rw (f.headers, s.headers) at x.answer in
            record { answer = sym (rw (left, ← e)); places = tt }

        pub all-lent : (p : SettingPlaces) → SettingsFound facts site (Some p) → LentFound facts site mounts (Ok p)
        all-lent p x =
            let e : gives (settings_at facts site p) ≡ settings_of f.hs s.hs = rw (f.headers, s.headers) at x.answer in
            record { answer = sym (rw (left, ← e)); places = x.places }

-- With lists for the places of names.

module _ (room : ℕ) (facts site mounts : List ℕ) where
  pub facts-unfit : (u : Unfit) → BlockFound 1024 room facts (Err u) → LentTried room facts site mounts (Err u)
  facts-unfit Full f = record { answer = rw (blocks-told.full 1024 room facts f.answer) }
  facts-unfit Breach f =
      let b = blocks-told.breach 1024 room facts f.answer in
      record { answer = (rw (b.0, b.1), wrong-facts facts site mounts b.1) }

  module _ (fn : Names) (ff : BlockFound 1024 room facts (Ok fn)) where
    f : (lacks_room 1024 room facts ≡ false) × BlockGood 1024 facts
    f = blocks-told.good 1024 room facts _ ff.answer

    by-site : lacks_either room facts site ≡ lacks_room 1024 room site
    by-site = rw (f.0, f.1.accepted)

    pub site-unfit : (u : Unfit) → BlockFound 1024 room site (Err u) → LentTried room facts site mounts (Err u)
    site-unfit Full d = record { answer = by-site ∙ blocks-told.full 1024 room site d.answer }
    site-unfit Breach d =
        let b = blocks-told.breach 1024 room site d.answer in
        record { answer = (by-site ∙ b.0, wrong-site facts site mounts f.1 b.1) }

    module _ (sn : Names) (fs : BlockFound 1024 room site (Ok sn)) where
      s : (lacks_room 1024 room site ≡ false) × BlockGood 1024 site
      s = blocks-told.good 1024 room site _ fs.answer

      pub mounts-unfit : is_good (mounts_of mounts) ≡ false → LentTried room facts site mounts (Err Breach)
      mounts-unfit g = record { answer = (by-site ∙ s.0, wrong-mounts facts site mounts f.1 s.1 g) }

      -- by what is found in the two blocks
      pub settled :
          is_good (mounts_of mounts) ≡ true → (o : Option SettingPlaces) → SettingsFound facts site o
          → (r : Result SettingPlaces Unfit) → r ≡ ok_or o Breach → LentTried room facts site mounts r
      settled g o x r e = rw e (by o x)
        where
          by : (p : Option SettingPlaces) → SettingsFound facts site p → LentTried room facts site mounts (ok_or p Breach)
          by None h = record { answer = (by-site ∙ s.0, wrong-settings facts site mounts f.1 s.1 g h) }
          by (Some p) h = record { answer = (by-site ∙ s.0, all-lent facts site mounts f.1 s.1 g p h) }

-- room for a place for each header of a block of 1,024 bytes is room enough
never-full : (b : List ℕ) (room : ℕ) → 341 ≤ room → lacks_room 1024 room b ≡ false
never-full b room h = tested (leb (length b) 1024) refl
  where
    many : (o : Option (List Header)) → headers_of b ≡ o → length b ≤ 1024 → many_for room o ≡ false
    many None z l = refl
    many (Some hs) z l = le-ltb room (length hs) (omega (arith, headers-few b hs (ap (λ (o : Option (List Header)). given o 5) z)))

    tested : (t : Bool) → leb (length b) 1024 ≡ t → t && many_for room (headers_of b) ≡ false
    tested true q = many (headers_of b) refl (leb-true (length b) 1024 q)
    tested false q = refl

-- lists with room for 341 headers are never full
pub always-room : (room : ℕ) (facts site mounts : List ℕ) → LentTried room facts site mounts (Err Full) → 341 ≤ room → ⊥
always-room room facts site mounts f h =
    let e : lacks_either room facts site ≡ false = rw (never-full facts room h, never-full site room h) (and-false (is_good (block_of 1024 facts))) in
    false≢true (sym e ∙ f.answer)

-- what an answer says where no list was full

abbrev pub refusal : Result SettingPlaces Unfit → Result SettingPlaces Refusal
refusal (Ok p) = Ok p
refusal (Err u) = Err LentRefused

pub done :
    (room : ℕ) (facts site mounts : List ℕ) (r : Result SettingPlaces Unfit) → LentTried room facts site mounts r → (r ≡ Err Full → ⊥)
    → (q : Result SettingPlaces Refusal) → q ≡ refusal r → LentFound facts site mounts q
done room facts site mounts (Ok p) f n q e = rw e f.answer.1
done room facts site mounts (Err Breach) f n q e = rw e f.answer.1
done room facts site mounts (Err Full) f n q e = absurd (n refl)

-- .. and the other way round, where both blocks are accepted and neither list is full
module _
    (room : ℕ) (facts site mounts : List ℕ) (k : ℕ) (e : Some (gives k) ≡ stored_of 1024 room facts)
    (j : ℕ) (d : Some (gives j) ≡ stored_of 1024 room site)
  where
    no-list-full : lacks_either room facts site ≡ false
    no-list-full =
        let f = blocks-told.good 1024 room facts k e in
        rw (f.0, f.1.accepted) (blocks-told.good 1024 room site j d).0

    pub all-tried : (r : Result SettingPlaces Unfit) → (r ≡ Err Full → ⊥) → LentFound facts site mounts (refusal r) → LentTried room facts site mounts r
    all-tried (Ok p) n l = record { answer = (no-list-full, l) }
    all-tried (Err Breach) n l = record { answer = (no-list-full, l) }
    all-tried (Err Full) n l = absurd (n refl)

-- Which number the answers have.

filled-refuses : (v : Option (List ℕ)) → Refuses (20 ∷ []) (filled v)
filled-refuses v = refuses-then (refuses-given v 20 refl) (λ w. refuses-need (not (is_nil w)) 20 refl not_refused)

sought-refuses : (name : List ℕ) (fs ss : List Header) → Refuses (20 ∷ []) (sought name fs ss)
sought-refuses name fs ss = filled-refuses (or_in (value_in name fs) (value_in name ss))

auth-refuses : (t u : Option (List ℕ)) → Refuses (20 ∷ []) (auth_of t u)
auth-refuses None None = not_refused
auth-refuses None (Some u) = with_number refl
auth-refuses (Some t) u = refuses-then (filled-refuses (Some t)) (λ a. refuses-then (filled-refuses u) (λ r. not_refused))

settings-refuse : (fs ss : List Header) → Refuses (20 ∷ []) (settings_of fs ss)
unfolding settings_of
settings-refuse fs ss =
    refuses-then (sought-refuses (bytes "SERVER_NAME") fs ss) (λ name.
    refuses-then (refuses-then (sought-refuses (bytes "SERVER_PORT") fs ss) (λ port. refuses-need (is_port port) 20 refl not_refused)) (λ port.
    refuses-then (sought-refuses (bytes "SERVER_SOFTWARE") fs ss) (λ software.
    refuses-then (filled-refuses (value_in (bytes "REMOTE_ADDR") fs)) (λ addr.
    refuses-then (auth-refuses (value_in (bytes "AUTH_TYPE") fs) (value_in (bytes "REMOTE_USER") fs)) (λ auth. not_refused)))))

pub lent-number : LentNumber
unfolding lent_of
lent-number facts site mounts n e =
    only-number n 20
    (refuses-then (refuses-only (block_of 1024 facts) 20 refl (blocks-hold.number 1024 facts)) (λ fs.
    refuses-then (refuses-only (block_of 1024 site) 20 refl (blocks-hold.number 1024 site)) (λ ss.
    refuses-then (refuses-only (mounts_of mounts) 20 refl (mounts-number mounts)) (λ ms.
    refuses-then (settings-refuse fs ss) (λ s. not_refused)))))
    e

-- The places lie in their blocks.

module _ (facts site : List ℕ) where
  fact-inside : (name : List ℕ) (p : Span) → FactHeld facts name p → FactInside facts p
  fact-inside name p e = places-inside.of_one facts name p e

  auth-inside : (p : Option Auth) → AuthHeld facts p → AuthInside facts p
  auth-inside (Some a) h = (fact-inside (bytes "AUTH_TYPE") a.auth_type h.auth_type, fact-inside (bytes "REMOTE_USER") a.remote_user h.remote_user)
  auth-inside None h = tt

  settings-inside : (p : SettingPlaces) → SettingsHeld facts site p → SettingsInside facts site p
  settings-inside p h =
      record {
        auth = auth-inside p.auth h.auth;
        addr = fact-inside (bytes "REMOTE_ADDR") p.addr h.addr;
        name = value_inside facts site (bytes "SERVER_NAME") p.name h.name;
        port = value_inside facts site (bytes "SERVER_PORT") p.port h.port;
        software = value_inside facts site (bytes "SERVER_SOFTWARE") p.software h.software;
      }

accepts : (facts site mounts : List ℕ) (p : SettingPlaces) → LentFound facts site mounts (Ok p) → Accepted facts site mounts p
accepts facts site mounts p f =
    let g = then-gives (lent_of facts site mounts) (λ l. gives l.settings) _ (sym f.answer) in
    let l : Lent = g.it in
    let z : l.settings ≡ settings_at facts site p = gives-once _ _ g.next in
    record {
      ms = l.mounts;
      mounts_are = lent-mounts facts site mounts l g.first;
      lent = g.first ∙ ap (λ (s : Settings). gives (record { settings = s; mounts = l.mounts })) z;
      inside = settings-inside facts site p f.places;
    }

refuses : (n : ℕ) (o : Outcome Lent) → refused n ≡ then o (λ l. gives l.settings) → o ≡ refused n
refuses n (refused k) e = cc
refuses n (gives l) e = cc

pub lent-told : LentTold
lent-told = record { accepts = accepts; refuses = λ facts site mounts e f. refuses (number_of e) (lent_of facts site mounts) f.answer }
