-- The request line: the first line of a head, without its CR LF.
-- Assumes nothing.
use Rattle.std.specs.Prelude.{ℕ, ◌+◌, Bool, ◌&&◌, ◌||◌, List, [], ◌∷◌, ◌++◌, eqb, length, take, get_or, Result}
use Rattle.octets.specs.Text.{bytes}
use Rattle.octets.specs.Outcome.{Outcome, refused, gives, then, need}
use Rattle.octets.specs.Kinds.{is_digit, is_token, within}
use Rattle.octets.specs.Scan.{all_of}
use Rattle.octets.specs.Compare.{same_bytes}
use Rattle.octets.specs.Parts.{parted}
use Rattle.octets.specs.Refusal.{outcome}
use Rattle.octets.specs.declared.refusal.Refusal.{Refusal}
use Rattle.octets.specs.declared.span.Span.{Span}
use Rattle.http_head.specs.declared.request_line.RequestLine.{RequestLine}

-- "The first is method, space, target, space, version"
pub record FirstLine : Type 0 where
  pub method : List ℕ
  pub target : List ℕ
  pub version : List ℕ

-- "The method is 1 to 32 token bytes."
unfoldable pub is_method : List ℕ → Bool
is_method m = within 1 32 (length m) && all_of is_token m

-- "The version has the shape `HTTP/`, digit, `.`, digit": eight bytes, and 46 is `.`
unfoldable pub is_version : List ℕ → Bool
is_version v =
    eqb (length v) 8 && same_bytes (take 5 v) (bytes "HTTP/") && is_digit (get_or v 5 0) && eqb (get_or v 6 0) 46 && is_digit (get_or v 7 0)

-- "HTTP version other than 1.0 and 1.1" is 13
abbrev pub is_served : List ℕ → Bool
is_served v = same_bytes v (bytes "HTTP/1.0") || same_bytes v (bytes "HTTP/1.1")

-- "another shape is 12, another number 13"
unfoldable pub version_of : List ℕ → Outcome (List ℕ)
version_of v = need (is_version v) 12 (need (is_served v) 13 (gives v))

-- the parts of a line at its spaces: three for "exactly two spaces in it, else 12"; "an empty target is 14", and passes here
abbrev pub three_parts : List ℕ → List (List ℕ) → Outcome FirstLine
three_parts m [] = refused 12
three_parts m (t ∷ []) = refused 12
three_parts m (t ∷ (v ∷ [])) = need (is_method m) 12 (then (version_of v) (λ w. gives (record { method = m; target = t; version = w })))
three_parts m (t ∷ (v ∷ (x ∷ xs))) = refused 12

-- the request line, parted at its spaces; 32 is the space
unfoldable pub request_line_of : List ℕ → Outcome FirstLine
request_line_of line = three_parts (parted 32 line).first (parted 32 line).others

-- the version 1.0 or 1.1 by its second digit
abbrev pub version_text : ℕ → List ℕ
version_text d = bytes "HTTP/1." ++ ((48 + d) ∷ [])

-- where the parts of a request line stand in it: the method is its first bytes, the target starts one after the method's space
pub record LineParts : Type 0 where
  pub method_length : ℕ
  pub target : Span
  pub version : List ℕ

abbrev pub line_places : FirstLine → LineParts
line_places f =
    record {
      method_length = length f.method;
      target = record { start = length f.method + 1; len = length f.target };
      version = f.version;
    }

abbrev pub line_places_of : List ℕ → Outcome LineParts
line_places_of line = then (request_line_of line) (λ f. gives (line_places f))

-- what the code's answers say
abbrev pub version_outcome : Result ℕ Refusal → Outcome (List ℕ)
version_outcome = outcome version_text

abbrev pub line_told : RequestLine → LineParts
line_told l = record { method_length = l.method_len; target = l.target; version = version_text l.minor }

abbrev pub line_outcome : Result RequestLine Refusal → Outcome LineParts
line_outcome = outcome line_told
