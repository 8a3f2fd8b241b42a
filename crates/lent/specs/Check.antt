-- The check of all that the gateway is lent.
-- Assumes nothing.
use Rattle.std.specs.Prelude.{ℕ, ◌≡◌, Bool, true, false, ◌&&◌, ◌||◌, List, Result, Ok, Err, IfOk}
use Rattle.octets.specs.Outcome.{Outcome, gives, is_good, then}
use Rattle.mounts.specs.Blocks.{block_of, lacks_room}
use Rattle.lent.specs.Settings.{Settings}
use Rattle.lent.specs.Lent.{lent_of}
use Rattle.lent.specs.Places.{settings_at, SettingsHeld}
use Rattle.lent.specs.declared.places.SettingPlaces.{SettingPlaces}
use Rattle.octets.specs.Refusal.{outcome}
use Rattle.octets.specs.declared.refusal.Refusal.{Refusal}
use Rattle.octets.specs.declared.refusal.Refusal.TheVariants.{Lent}
use Rattle.mounts.specs.declared.blocks.Unfit.{Unfit}
use Rattle.mounts.specs.declared.blocks.Unfit.TheVariants.{Full, Breach}

-- what the code's answer says: the values at its places
abbrev pub lent_outcome : (facts site : List ℕ) → Result SettingPlaces Refusal → Outcome Settings
lent_outcome facts site = outcome (settings_at facts site)

-- each place is the one that looking its name up gives
abbrev pub LentHeld : (facts site : List ℕ) → Result SettingPlaces Refusal → Type 0
LentHeld facts site r = IfOk r (SettingsHeld facts site)

pub record LentFound (facts site mounts : List ℕ) (r : Result SettingPlaces Refusal) : Type 0 where
  pub answer : lent_outcome facts site r ≡ then (lent_of facts site mounts) (λ l. gives l.settings)
  pub places : LentHeld facts site r

-- With two lists, each with room for so many places of names.

-- the list for the connection facts is full; or they are what they must be, and the list for the site settings is full
abbrev pub lacks_either : (room : ℕ) (facts site : List ℕ) → Bool
lacks_either room facts site = lacks_room 1024 room facts || (is_good (block_of 1024 facts) && lacks_room 1024 room site)

abbrev pub TriedBy : (room : ℕ) (facts site mounts : List ℕ) → Result SettingPlaces Unfit → Type 0
TriedBy room facts site mounts (Ok p) = (lacks_either room facts site ≡ false) × LentFound facts site mounts (Ok p)
TriedBy room facts site mounts (Err Breach) = (lacks_either room facts site ≡ false) × LentFound facts site mounts (Err Lent)
TriedBy room facts site mounts (Err Full) = lacks_either room facts site ≡ true

pub record LentTried (room : ℕ) (facts site mounts : List ℕ) (r : Result SettingPlaces Unfit) : Type 0 where
  pub answer : TriedBy room facts site mounts r
