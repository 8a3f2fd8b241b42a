-- What is lent, link by link: the two blocks, the mounts and the settings.
-- Assumes nothing.
use Prim.Native.Nat.{ℕ}
use mathlib.Core.Path.{◌≡◌, ap, ◌∙◌}
use mathlib.Core.List.{List}
use Rattle.octets.specs.Outcome.{gives}
use Rattle.octets.proofs.Outcomes.{gives-once, then-gives}
use Rattle.headers.specs.Block.{Header}
use Rattle.mounts.specs.Blocks.{block_of}
use Rattle.mounts.specs.Mounts.{mounts_of}
use Rattle.mounts.specs.Claims.{BlockHolds}
use Rattle.mounts.proofs.Claims.{blocks-hold}
use Rattle.lent.specs.Settings.{settings_of}
use Rattle.lent.specs.Lent.{Lent, lent_of}
use Rattle.lent.specs.Claims.{LentMounts}

pub record Links (facts site mounts : List ℕ) (l : Lent) : Type 0 where
  pub fs : List Header
  pub ss : List Header
  pub facts_hold : BlockHolds 1024 facts fs
  pub site_holds : BlockHolds 1024 site ss
  pub mounts_are : mounts_of mounts ≡ gives l.mounts
  pub settings : settings_of fs ss ≡ gives l.settings

pub links : (facts site mounts : List ℕ) (l : Lent) → lent_of facts site mounts ≡ gives l → Links facts site mounts l
unfolding lent_of
links facts site mounts l e =
    let a = then-gives (block_of 1024 facts) _ l e in
    let b = then-gives (block_of 1024 site) _ l a.next in
    let c = then-gives (mounts_of mounts) _ l b.next in
    let d = then-gives (settings_of a.it b.it) _ l c.next in
    let z : record { settings = d.it; mounts = c.it } ≡ l = gives-once _ l d.next in
    record {
      fs = a.it;
      ss = b.it;
      facts_hold = blocks-hold.accepts 1024 facts a.it a.first;
      site_holds = blocks-hold.accepts 1024 site b.it b.first;
      mounts_are = c.first ∙ ap (λ (x : Lent). gives x.mounts) z;
      settings = d.first ∙ ap (λ (x : Lent). gives x.settings) z;
    }

pub lent-mounts : LentMounts
lent-mounts facts site mounts l e = (links facts site mounts l e).mounts_are
