-- The header of the mount that wins.
-- Assumes nothing.
use Prim.Native.Nat.{ℕ}
use mathlib.Core.Path.{◌≡◌}
use mathlib.Core.List.{List}
use Rattle.octets.specs.Outcome.{gives}
use Rattle.octets.proofs.Outcomes.{given-gives}
use Rattle.headers.specs.Block.{Header, Among, here, later, parsed}
use Rattle.mounts.specs.Mounts.{Mount, mounts_of, mount_of, mount_for}
use Rattle.mounts.specs.Claims.{MountOf, Each, one_more, Among as MountAmong, here as first-mount, later as later-mount}
use Rattle.mounts.proofs.Claims.{mount-is-longest, mounts-are-headers}

-- one of the headers says one of the mounts
record Said (block : List ℕ) (m : Mount) (hs : List Header) : Type 0 where
  header : Header
  among : Among header hs
  of : MountOf block m header

said : {block : List ℕ} {m : Mount} {ms : List Mount} {hs : List Header} → MountAmong m ms → Each block ms hs → Said block m hs
said first-mount (one_more {m} {h} p ps) = record { header = h; among = here; of = p }
said (later-mount a) (one_more p ps) =
    let o = said a ps in
    record { header = o.header; among = later o.among; of = o.of }

pub record Winner (mounts : List ℕ) (m : Mount) : Type 0 where
  pub hs : List Header
  pub header : Header
  pub are : parsed mounts ≡ gives hs
  pub among : Among header hs
  pub of : MountOf mounts m header

pub winner : (mounts path : List ℕ) (ms : List Mount) (m : Mount) → mounts_of mounts ≡ gives ms → mount_for ms path ≡ gives m → Winner mounts m
winner mounts path ms m e w =
    let all = mounts-are-headers mounts ms e in
    let s = said (mount-is-longest.wins ms path m (given-gives (mount_of ms path) 19 m w)).among all.each in
    record { hs = all.hs; header = s.header; are = all.are; among = s.among; of = s.of }
