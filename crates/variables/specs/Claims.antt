-- What is claimed of the variables of a request.
-- Assumes nothing.
use Rattle.std.specs.Prelude.{ℕ, ◌+◌, ◌*◌, ◌≤◌, ◌≡◌, Bool, true, not, ◌&&◌, List, ◌∷◌, map, length, Option, None, Some}
use Rattle.octets.specs.Text.{bytes}
use Rattle.octets.specs.Outcome.{gives}
use Rattle.octets.specs.Kinds.{within, is_name}
use Rattle.octets.specs.Decimal.{decimal}
use Rattle.octets.specs.Lists.{All, NoNul, different, Different}
use Rattle.headers.specs.Block.{Header, Proper, names, printed}
use Rattle.http_head.specs.Fields.{Field}
use Rattle.targets.specs.Target.{query_of}
use Rattle.lent.specs.Settings.{Settings}
use Rattle.mounts.specs.Mounts.{Route}
use Rattle.lent.specs.Claims.{ProperSettings, settings_size}
use Rattle.request.specs.Request.{Request, request_of}
use Rattle.variables.specs.Meaning.{Meaning, meaning_of}
use Rattle.variables.specs.Variables.{variables}

-- What makes routes, fields and meanings fit for a block: no NUL, and names of bytes that a field name has in lower case.

pub record ProperRoute (r : Route) : Type 0 where
  pub script_name : NoNul r.script_name
  pub path_info : NoNul r.path_info

-- a field whose name has bytes of the kind k
pub record ProperField (k : ℕ → Bool) (f : Field) : Type 0 where
  pub name_bytes : All (λ b. k b ≡ true) f.name
  pub value_bytes : NoNul f.value

-- a byte of a name in lower case
unfoldable pub is_lower_name : ℕ → Bool
is_lower_name b = is_name b && not (within 65 90 b)

abbrev pub field_names : List Field → List (List ℕ)
field_names fs = map (λ (f : Field). f.name) fs

-- an optional text
pub data Optionally (P : List ℕ → Type 0) : Option (List ℕ) → Type 0 where
  absent : Optionally P None
  there : {v : List ℕ} → P v → Optionally P (Some v)

pub record ProperMeaning (m : Meaning) : Type 0 where
  pub method : NoNul m.method
  pub target : NoNul m.target
  pub query : NoNul (query_of m.target)
  pub version : NoNul m.version
  pub content_type : Optionally NoNul m.content_type
  pub fields : All (ProperField is_lower_name) m.fields
  pub differ : different (field_names m.fields) ≡ true
  pub few : length m.fields ≤ 64

-- so is the meaning of every accepted request, whatever its body: "one HTTP_ variable for each passed field name"
abbrev pub MeaningIsProper : Type 0
MeaningIsProper = (head body : List ℕ) (q : Request) → request_of head ≡ gives q → ProperMeaning (meaning_of q.first q.fields body)

-- the variables can be the headers of an SCGI request: each is one, no two have the same name, and the first two are "CONTENT_LENGTH (body
-- length, no leading zero), SCGI `1`"
pub record VariablesStand (s : Settings) (r : Route) (m : Meaning) : Type 0 where
  pub proper : All Proper (variables s r m)
  pub differ : Different (names (variables s r m))
  pub few : length (variables s r m) ≤ 80
  pub others : List Header
  pub first_two :
      variables s r m
      ≡ record { name = bytes "CONTENT_LENGTH"; value = decimal (length m.body) } ∷ (record { name = bytes "SCGI"; value = bytes "1" } ∷ others)

abbrev pub VariablesAreHeaders : Type 0
VariablesAreHeaders = (s : Settings) (r : Route) (m : Meaning) → ProperSettings s → ProperRoute r → ProperMeaning m → VariablesStand s r m

-- at most sixteen before those of the fields
abbrev pub VariablesFew : Type 0
VariablesFew = (s : Settings) (r : Route) (m : Meaning) → length (variables s r m) ≤ 16 + length m.fields

-- how many bytes the variables take at most, by lengths that are at hand before they are written: of what the settings give, the head and
-- the target, and by the number of fields. The names and their NULs, seven digits and the version are counted in the 138, less the ten bytes
-- of the request line that are no part of a variable; a field's variable takes four bytes more than its line
abbrev pub bound_of : ℕ → ℕ → ℕ → ℕ → ℕ
bound_of settings head target fields = 138 + settings + head + target + 4 * fields

abbrev pub VariablesTake : Type 0
VariablesTake =
    (s : Settings) (head body : List ℕ) (q : Request) (r : Route) → request_of head ≡ gives q
    → length r.script_name + length r.path_info ≤ length q.path → length body ≤ 1048576
    → length (printed (variables s r (meaning_of q.first q.fields body)))
    ≤ bound_of (settings_size s) (length head) (length q.first.target) (length q.fields)

-- equal variables and bodies are equal meanings, under equal settings; and equal meanings have equal variables, since these are a function of the
-- settings, the route and the meaning
abbrev pub VariablesSayMeaning : Type 0
VariablesSayMeaning =
    (s : Settings) (r r' : Route) (m m' : Meaning) → ProperMeaning m → ProperMeaning m' → variables s r m ≡ variables s r' m' → m.body ≡ m'.body
    → m ≡ m'
