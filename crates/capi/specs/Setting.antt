-- The numbers of oy_setting.
-- Assumes nothing.
use Rattle.std.specs.Prelude.{ℕ, List, [], ◌∷◌, Option, None, Some}
use Rattle.octets.specs.Outcome.{Outcome, gives, then}
use Rattle.headers.specs.Setting.{setting_of}
use Rattle.headers.specs.declared.setting.Held.{Held}
use Rattle.headers.specs.declared.setting.Held.TheVariants.{First, Second}

-- 1 for the connection facts, 2 for the site settings, with start and length in that block: "a part of whichever of the two blocks held the
-- name"; 0 where it is absent, with an empty part
abbrev pub held_numbers : Option Held → List ℕ
held_numbers (Some (First p)) = 1 ∷ p.start ∷ p.len ∷ []
held_numbers (Some (Second p)) = 2 ∷ p.start ∷ p.len ∷ []
held_numbers None = 0 ∷ 0 ∷ 0 ∷ []

-- "sought in the connection facts, then in the site settings"
abbrev pub setting_gives : List ℕ → List ℕ → List ℕ → Outcome (List ℕ)
setting_gives facts site name = then (setting_of facts site name) (λ h. gives (held_numbers h))
