-- What each of a request's fields adds to the variables, for code that goes from field to field.
-- Assumes nothing.
use Rattle.std.specs.Prelude.{ℕ, zero, suc, ◌+◌, ◌<◌, ◌≡◌, Bool, true, not, ◌&&◌, List, [], ◌∷◌, ◌++◌, map, length, drop, Option, is_some, IfSome}
use Rattle.octets.specs.Compare.{same_bytes, lower_of}
use Rattle.octets.specs.Lists.{is_in, different}
use Rattle.headers.specs.Block.{printed}
use Rattle.http_head.specs.Fields.{Field, field_at, fields_at}
use Rattle.http_head.specs.declared.fields.Field.{Field as Spans}
use Rattle.request.specs.Named.{lowered}
use Rattle.variables.specs.Fields.{not_passed, added_by, grouped_of}
use Rattle.variables.specs.Variables.{http_name, http_variable}
use Rattle.variables.specs.Put.{variable, if_there}

-- the name of the field with number k in lower case
abbrev pub low_name : List ℕ → List Spans → ℕ → List ℕ
low_name head fs k = map lower_of (field_at head fs k).name

-- the lower-case names of the fields before number k, the last first
unfoldable pub names_before : List ℕ → List Spans → ℕ → List (List ℕ)
names_before head fs zero = []
names_before head fs (suc k) = low_name head fs k ∷ names_before head fs k

-- the fields from number k on, their names in lower case
abbrev pub low_from : List ℕ → List Spans → ℕ → List Field
low_from head fs k = lowered (fields_at head (drop k fs))

-- what the field with number j adds to the value of the name x, where s stands between two values
abbrev pub added_at : List ℕ → List Spans → List ℕ → List ℕ → ℕ → List ℕ
added_at head fs x s j = if_there (same_bytes (low_name head fs j) x) (s ++ (field_at head fs j).value)

-- what the fields after number k add to its value
abbrev pub added_after : List ℕ → List Spans → ℕ → List ℕ
added_after head fs k = added_by (low_from head fs (k + 1)) (low_name head fs k)

-- the value of the field with number k, with what the later ones add to it
abbrev pub value_from : List ℕ → List Spans → ℕ → List ℕ
value_from head fs k = (field_at head fs k).value ++ added_after head fs k

-- whether the field with number k makes a variable: its name is passed, and stands there for the first time
abbrev pub makes : List ℕ → List Spans → ℕ → Bool
makes head fs k = not (is_in (low_name head fs k) not_passed) && not (is_in (low_name head fs k) (names_before head fs k))

-- the bytes of the variable that the field with number k makes
abbrev pub variable_from : List ℕ → List Spans → ℕ → List ℕ
variable_from head fs k = variable (http_name (low_name head fs k)) (value_from head fs k)

-- .. where no later field has its name
abbrev pub variable_alone : List ℕ → List Spans → ℕ → List ℕ
variable_alone head fs k = variable (http_name (low_name head fs k)) (field_at head fs k).value

-- .. and none where it makes none
abbrev pub variable_if : List ℕ → List Spans → ℕ → List ℕ
variable_if head fs k = if_there (makes head fs k) (variable_from head fs k)

-- the bytes of the variables of all fields
abbrev pub fields_bytes : List ℕ → List Spans → List ℕ
fields_bytes head fs = printed (map http_variable (grouped_of (fields_at head fs)))

-- whether two names are the same
abbrev pub repeats : List ℕ → List Spans → Bool
repeats head fs = not (different (names_before head fs (length fs)))

-- .. where r is some number if so, and the names of the fields before that number differ
abbrev pub RepeatsFrom : List ℕ → List Spans → Option ℕ → Type 0
RepeatsFrom head fs r = (is_some r ≡ repeats head fs) × IfSome r (λ k. different (names_before head fs k) ≡ true)

-- the field with number k has the name of one before it
abbrev pub RepeatAt : List ℕ → List Spans → ℕ → Type 0
RepeatAt head fs k = (k < length fs) × (is_in (low_name head fs k) (names_before head fs k) ≡ true)
