-- What the gateway is lent: connection facts, site settings and mounts, three blocks.
-- Assumes nothing.
use Rattle.std.specs.Prelude.{ℕ, List}
use Rattle.octets.specs.Outcome.{Outcome, gives, then}
use Rattle.mounts.specs.Blocks.{block_of}
use Rattle.mounts.specs.Mounts.{Mount, mounts_of}
use Rattle.lent.specs.Settings.{Settings, settings_of}

pub record Lent : Type 0 where
  pub settings : Settings
  pub mounts : List Mount

-- "Connection facts and site settings: at most 1,024 bytes each"
unfoldable pub lent_of : (facts site mounts : List ℕ) → Outcome Lent
lent_of facts site mounts =
    then (block_of 1024 facts) (λ fs.
    then (block_of 1024 site) (λ ss.
    then (mounts_of mounts) (λ ms.
    then (settings_of fs ss) (λ s. gives (record { settings = s; mounts = ms })))))
