-- The groups in which a block of variables is written are its variables, in their order.
-- Assumes nothing.
use Prim.Native.Nat.{ℕ}
use mathlib.Core.Path.{◌≡◌, ap, ◌∙◌}
use mathlib.Core.List.{List, ◌++◌, append_assoc, map}
use Rattle.std.proofs.Common.{Option}
use Rattle.headers.specs.Block.{printed}
use Rattle.lent.specs.Settings.{Settings}
use Rattle.mounts.specs.Mounts.{Route}
use Rattle.lent.specs.Places.{auth_at, settings_at}
use Rattle.targets.specs.Target.{query_of}
use Rattle.request.specs.RequestRead.{path_in, part_if}
use lib.ListN.{take}
use Rattle.variables.specs.Meaning.{Meaning}
use Rattle.variables.specs.Variables.{Rows, present, content_rows, path_rows, request_rows, server_rows, http_variable, fixed}
use Rattle.variables.specs.FixedVariables.{content_variables, path_variables, request_variables, server_variables}
use Rattle.variables.specs.FieldVariables.{fields_bytes}
use Rattle.variables.specs.Block.{route_at, meaning_in, block_at, PlacesKnown}
use Rattle.variables.specs.declared.sources.Sources.{Sources}
use Rattle.variables.proofs.Variables.{typed}
use Rattle.variables.proofs.FixedVariables.{printed-append, rows_append}

-- four groups of rows, and what follows them
four : (a b c d : Rows) (w : List ℕ) → printed (present (a ++ (b ++ (c ++ d)))) ++ w ≡ printed (present a) ++ (printed (present b) ++ (printed (present c) ++ (printed (present d) ++ w)))
four a b c d w = rw (rows_append a (b ++ (c ++ d)), rows_append b (c ++ d), rows_append c d) (simp append_assoc)

module _ (s : Sources) where
  -- what is written behind each group
  abbrev pub behind_server : List ℕ
  behind_server = fields_bytes s.head.now (take s.fields.count s.places.now)

  abbrev pub behind_request : List ℕ
  behind_request = printed (server_variables s) ++ behind_server

  abbrev pub behind_path : List ℕ
  behind_path = printed (request_variables s) ++ behind_request

  abbrev pub behind_content : List ℕ
  behind_content = printed (path_variables s) ++ behind_path

  abbrev m : Meaning
  m = meaning_in s

  abbrev settings : Settings
  settings = settings_at s.facts.now s.site.now s.settings

  abbrev route : Route
  route = route_at (path_in s.path.now s.line) s.name

  -- the block with another type of the body
  abbrev block_with : ℕ → Option (List ℕ) → List ℕ
  block_with size t = printed (fixed settings route (typed m t) size ++ map http_variable m.fields)

  parts-with :
      (size : ℕ) (t : Option (List ℕ)) → block_with size t ≡ printed (present (content_rows size (auth_at s.facts.now s.settings.auth) t)) ++ behind_content
  unfolding fixed
  parts-with size t =
      printed-append (fixed settings route (typed m t) size) (map http_variable m.fields)
      ∙ four (content_rows size settings.auth t) (path_rows route.path_info (query_of m.target) settings.remote_addr) (request_rows settings.auth m.method m.target) (server_rows route.script_name settings.server_name settings.server_port m.version settings.server_software) (printed (map http_variable m.fields))

  pub block-parts : PlacesKnown s → (size : ℕ) → block_at s size ≡ printed (content_variables s size) ++ behind_content
  block-parts known size = ap (block_with size) known.fields.type_is ∙ parts-with size (part_if s.head.now s.fields.content_type)
