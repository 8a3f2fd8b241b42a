-- The variables of a request as one block, by the places of their values.
-- Assumes nothing.
use Rattle.std.specs.Prelude.{ℕ, ◌≤◌, List, [], ◌++◌, map, length, take, drop}
use Rattle.octets.specs.Copy.{Wrote}
use Rattle.headers.specs.Block.{printed}
use Rattle.mounts.specs.Mounts.{Route}
use Rattle.lent.specs.Places.{settings_at, SettingsInside}
use Rattle.request.specs.RequestRead.{line_in, path_in, fields_in, LineKnown, FieldsKnown}
use Rattle.variables.specs.Meaning.{Meaning, meaning_of}
use Rattle.variables.specs.Variables.{http_variable, fixed}
use Rattle.variables.specs.declared.sources.Sources.{Sources}

-- the route of a decoded path whose first n bytes are the mount's name
abbrev pub route_at : List ℕ → ℕ → Route
route_at path n = record { script_name = take n path; path_info = drop n path }

module _ (k : Sources) where
  -- what the request means but for its body
  abbrev pub meaning_in : Meaning
  meaning_in = meaning_of (line_in k.head.now k.line) (fields_in k.head.now k.places.now k.fields) []

  -- the block's bytes, for a body of `size` bytes
  abbrev pub block_at : ℕ → List ℕ
  block_at size =
      let route = route_at (path_in k.path.now k.line) k.name in
      printed (fixed (settings_at k.facts.now k.site.now k.settings) route meaning_in size ++ map http_variable meaning_in.fields)

  -- what is known of the places
  pub record PlacesKnown : Type 0 where
    pub settings : SettingsInside k.facts.now k.site.now k.settings
    pub line : LineKnown k.head.now k.path.now k.line
    pub fields : FieldsKnown k.head.now k.places.now k.fields
    pub name : k.name ≤ k.line.decoded

  -- .. and of the room
  abbrev pub BlockFits : ℕ → ℕ → Type 0
  BlockFits size room = PlacesKnown × (length (block_at size) ≤ room)

  -- the buffer before and after, and the place behind the block
  abbrev pub BlockWritten : ℕ → List ℕ → List ℕ → ℕ → Type 0
  BlockWritten size before after r = Wrote before 0 (block_at size) after r
