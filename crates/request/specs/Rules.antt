-- For the code of the rules over all fields: what its answers say, by the places of the fields in a lent list.
-- Assumes nothing.
use Rattle.std.specs.Prelude.{ℕ, ◌+◌, cond, List, [], ◌∷◌, None, Some, Result}
use Rattle.std.specs.Option.{option_or}
use Rattle.octets.specs.Text.{bytes}
use Rattle.octets.specs.Outcome.{Outcome, gives, then}
use Rattle.octets.specs.Refusal.{outcome}
use Rattle.octets.specs.Compare.{same_letters}
use Rattle.octets.specs.declared.refusal.Refusal.{Refusal}
use Rattle.http_head.specs.Fields.{field_in, fields_at}
use Rattle.http_head.specs.declared.fields.Field.{Field as Spans}
use Rattle.request.specs.Named.{lowered}
use Rattle.request.specs.Request.{rules_of}
use Rattle.request.specs.declared.rules.Found.{Found}
use Rattle.request.specs.declared.rules.Judged.{Judged}

-- what was found of a name before the field at a place, and that field, where it has the name too: the first one's value is kept
abbrev pub with_field : (name head : List ℕ) → Spans → Found → Found
with_field name head p seen =
    cond (same_letters (field_in head p).name name) (record { count = seen.count + 1; first = option_or seen.first (Some p.value) }) seen

-- .. and all fields of a list
unfoldable pub found_from : (name head : List ℕ) → Found → List Spans → Found
found_from name head seen [] = seen
found_from name head seen (p ∷ ps) = found_from name head (with_field name head p seen) ps

-- those of the fields that have the name, letter case aside: how many they are, and where the value of the first of them stands
abbrev pub found_of : (name head : List ℕ) → List Spans → Found
found_of name head ps = found_from name head (record { count = 0; first = None }) ps

abbrev pub stated_outcome : Result ℕ Refusal → Outcome ℕ
stated_outcome = outcome (λ n. n)

-- the stated body length, and where the Content-Type's value stands
abbrev pub rules_outcome : Result Judged Refusal → Outcome Judged
rules_outcome = outcome (λ j. j)

abbrev pub judged : ℕ → Found → Judged
judged n type = record { body = n; content_type = type.first }

-- 16; 17; 18: of fields, for a request of the version
abbrev pub judged_of : (version head : List ℕ) → List Spans → Outcome Judged
judged_of version head ps =
    then (rules_of version (lowered (fields_at head ps))) (λ body.
    gives (judged body (found_of (bytes "content-type") head ps)))
