-- What is claimed of what the gateway is lent.
-- Assumes nothing.
use Rattle.std.specs.Prelude.{ℕ, ◌+◌, ◌≤◌, ◌≡◌, List, length, Option, None, Some, Ok, Err}
use Rattle.octets.specs.Outcome.{refused, gives}
use Rattle.octets.specs.Lists.{NoNul}
use Rattle.mounts.specs.Mounts.{Mount, mounts_of}
use Rattle.lent.specs.Settings.{Auth, Settings}
use Rattle.lent.specs.Lent.{Lent, lent_of}
use Rattle.lent.specs.Places.{settings_at, SettingsInside}
use Rattle.lent.specs.Check.{LentFound}
use Rattle.lent.specs.declared.places.SettingPlaces.{SettingPlaces}
use Rattle.octets.specs.Refusal.{number_of}
use Rattle.octets.specs.declared.refusal.Refusal.{Refusal}

-- what the form of the blocks gives, "name, NUL, value, NUL": no NUL in a value
pub data ProperAuth : Option Auth → Type 0 where
  neither : ProperAuth None
  both : {a : Auth} → NoNul a.auth_type → NoNul a.remote_user → ProperAuth (Some a)

pub record ProperSettings (s : Settings) : Type 0 where
  pub auth : ProperAuth s.auth
  pub remote_addr : NoNul s.remote_addr
  pub server_name : NoNul s.server_name
  pub server_port : NoNul s.server_port
  pub server_software : NoNul s.server_software

abbrev pub LentIsProper : Type 0
LentIsProper = (facts site mounts : List ℕ) (l : Lent) → lent_of facts site mounts ≡ gives l → ProperSettings l.settings

-- how many bytes the variables take that the settings give, with their names and NULs: AUTH_TYPE and REMOTE_USER where they are there
abbrev pub auth_size : Option Auth → ℕ
auth_size None = 0
auth_size (Some a) = (11 + length a.auth_type) + (13 + length a.remote_user)

-- .. and REMOTE_ADDR, SERVER_NAME, SERVER_PORT and SERVER_SOFTWARE
abbrev pub settings_size : Settings → ℕ
settings_size s =
    auth_size s.auth
    + (13 + length s.remote_addr)
    + (13 + length s.server_name)
    + (13 + length s.server_port)
    + (17 + length s.server_software)

-- what the settings give takes no more than the two blocks, "two blocks of 1,024": names and values are parts of them that do not overlap
pub record SettingsWithin (facts site : List ℕ) (s : Settings) : Type 0 where
  pub size : settings_size s ≤ length facts + length site
  pub facts_limit : length facts ≤ 1024
  pub site_limit : length site ≤ 1024

abbrev pub SettingsFit : Type 0
SettingsFit = (facts site mounts : List ℕ) (l : Lent) → lent_of facts site mounts ≡ gives l → SettingsWithin facts site l.settings

-- "Any breach of this section is 20"
abbrev pub LentNumber : Type 0
LentNumber = (facts site mounts : List ℕ) (n : ℕ) → lent_of facts site mounts ≡ refused n → n ≡ 20

-- the mounts that are lent are those of their block
abbrev pub LentMounts : Type 0
LentMounts = (facts site mounts : List ℕ) (l : Lent) → lent_of facts site mounts ≡ gives l → mounts_of mounts ≡ gives l.mounts

-- what is lent, where the code gives places; they lie in their blocks
pub record Accepted (facts site mounts : List ℕ) (p : SettingPlaces) : Type 0 where
  pub ms : List Mount
  pub mounts_are : mounts_of mounts ≡ gives ms
  pub lent : lent_of facts site mounts ≡ gives (record { settings = settings_at facts site p; mounts = ms })
  pub inside : SettingsInside facts site p

-- what the check's answer says of what is lent
pub record LentTold : Type 0 where
  pub accepts :
      (facts site mounts : List ℕ) (p : SettingPlaces) → LentFound facts site mounts (Ok p) → Accepted facts site mounts p
  pub refuses :
      (facts site mounts : List ℕ) (e : Refusal) → LentFound facts site mounts (Err e) → lent_of facts site mounts ≡ refused (number_of e)
