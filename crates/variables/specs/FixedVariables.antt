-- The variables before the fields, group by group, by the places of their values.
-- Assumes nothing.
use Rattle.std.specs.Prelude.{ℕ, min, ◌+◌, ◌≤◌, ◌≡◌, List, length, take, drop}
use Rattle.headers.specs.Block.{Header}
use Rattle.http_head.specs.RequestLine.{version_text}
use Rattle.targets.specs.Target.{query_of}
use Rattle.lent.specs.Places.{fact_at, value_at, auth_at, AuthInside, FactInside, SettingsInside}
use Rattle.request.specs.RequestRead.{target_in, path_in, part_if, PartInside, LineKnown}
use Rattle.request.specs.declared.read.LinePlaces.{LinePlaces}
use Rattle.variables.specs.Variables.{present, content_rows, path_rows, request_rows, server_rows}
use Rattle.variables.specs.declared.sources.Sources.{Sources}

-- where a target's query starts in the head: behind the path and its `?`, or at the target's end where there is none
abbrev pub query_start : LinePlaces → ℕ
query_start l = l.target.start + min (l.path + 1) l.target.len

-- what must be known of the target that it stands in
abbrev pub QueryKnown : List ℕ → LinePlaces → Type 0
QueryKnown head l =
    (l.target.start + l.target.len ≤ length head) × (l.path ≤ l.target.len) × (query_of (target_in head l) ≡ drop (l.path + 1) (target_in head l))

-- the groups

abbrev pub content_variables : Sources → ℕ → List Header
content_variables k size =
    present (content_rows size (auth_at k.facts.now k.settings.auth) (part_if k.head.now k.fields.content_type))

abbrev pub path_variables : Sources → List Header
path_variables k =
    present (path_rows (drop k.name (path_in k.path.now k.line)) (query_of (target_in k.head.now k.line)) (fact_at k.facts.now k.settings.addr))

abbrev pub request_variables : Sources → List Header
request_variables k =
    present (request_rows (auth_at k.facts.now k.settings.auth) (take k.line.method k.head.now) (target_in k.head.now k.line))

abbrev pub server_variables : Sources → List Header
server_variables k =
    let s = k.settings in
    let script = take k.name (path_in k.path.now k.line) in
    let version = version_text k.line.minor in
    let given = value_at k.facts.now k.site.now in
    present (server_rows script (given s.name) (given s.port) version (given s.software))

-- what the writer of each group must know of the places

abbrev pub ContentKnown : Sources → Type 0
ContentKnown k = AuthInside k.facts.now k.settings.auth × PartInside k.head.now k.fields.content_type

abbrev pub PathKnown : Sources → Type 0
PathKnown k = FactInside k.facts.now k.settings.addr × LineKnown k.head.now k.path.now k.line × (k.name ≤ k.line.decoded)

abbrev pub RequestKnown : Sources → Type 0
RequestKnown k =
    AuthInside k.facts.now k.settings.auth × (k.line.method ≤ length k.head.now) × (k.line.target.start + k.line.target.len ≤ length k.head.now)

abbrev pub ServerKnown : Sources → Type 0
ServerKnown k =
    SettingsInside k.facts.now k.site.now k.settings × (k.line.minor ≤ 1) × (k.name ≤ k.line.decoded) × (k.line.decoded ≤ length k.path.now)
