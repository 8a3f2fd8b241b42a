-- The meaning of an accepted request is fit for a block, and its variables can be the headers of a request.
-- Assumes nothing.
use Prim.Native.Nat.{ℕ}
use mathlib.Core.Path.{◌≡◌, refl}
use mathlib.Core.List.{List}
use native.Mathlib.Omega.{arith}
use lib.Dec.{ltb}
use lib.ListN.{length}
use Rattle.octets.specs.Text.{bytes}
use Rattle.octets.specs.Outcome.{gives}
use Rattle.octets.specs.Kinds.{is_name}
use Rattle.octets.specs.Scan.{all_of}
use Rattle.octets.specs.Lists.{All}
use Rattle.octets.proofs.Bools.{and_right}
use Rattle.octets.proofs.Alls.{all-implies, all-each}
use Rattle.octets.proofs.Names.{test-different}
use Rattle.headers.specs.Block.{names}
use Rattle.http_head.specs.Fields.{Field}
use Rattle.http_head.specs.Claims.{Clean}
use Rattle.lent.specs.Settings.{Settings}
use Rattle.mounts.specs.Mounts.{Route}
use Rattle.lent.specs.Claims.{ProperSettings}
use Rattle.request.specs.Request.{Request, request_of}
use Rattle.request.specs.Claims.{Obeys}
use Rattle.request.proofs.Claims.{requests-obey}
use Rattle.variables.specs.Meaning.{Meaning, meaning_of}
use Rattle.variables.specs.Variables.{fixed, variables}
use Rattle.variables.specs.Claims.{ProperRoute, ProperField, ProperMeaning, VariablesStand}
use Rattle.variables.proofs.Variables.{variables-proper}
use Rattle.variables.proofs.Names.{names_differ, variable-count}
use Rattle.variables.proofs.Grouping.{Grouped, grouped-once, value-bytes-of}

-- a field of a request
field-proper : (f : Field) → Clean is_name f → ProperField is_name f
field-proper f c =
    record {
      name_bytes = all-each is_name f.name (and_right (ltb 0 (length f.name)) (all_of is_name f.name) c.name);
      value_bytes = c.value_no_nul;
    }

pub meaning-proper : (head body : List ℕ) (q : Request) → request_of head ≡ gives q → ProperMeaning (meaning_of q.first q.fields body)
meaning-proper head body q e =
    let o : Obeys head q = requests-obey head q e in
    let fields : All (ProperField is_name) q.fields = all-implies field-proper o.fields_obey in
    let group : Grouped q.fields (meaning_of q.first q.fields body).fields = grouped-once q.fields fields in
    record {
      method = o.line.method_no_nul;
      target = o.target_obeys.target_no_nul;
      query = rw (← o.target_obeys.query_is) o.target_obeys.query_no_nul;
      version = o.line.version_no_nul;
      content_type = value-bytes-of (bytes "content-type") q.fields fields;
      fields = group.proper;
      differ = group.names;
      few = omega (arith, group.count, o.fields_few);
    }

pub variables-stand : (s : Settings) (r : Route) (m : Meaning) → ProperSettings s → ProperRoute r → ProperMeaning m → VariablesStand s r m
unfolding fixed
variables-stand s r m ps pr pm =
    record {
      proper = variables-proper s r m ps pr pm;
      differ = test-different (names (variables s r m)) (names_differ s r m pm.fields pm.differ);
      few = omega (arith, variable-count s r m, pm.few);
      others = _;
      first_two = refl;
    }
