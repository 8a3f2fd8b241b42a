-- The head of a request, in 01's order of refusals.
-- Assumes nothing.
use Rattle.std.specs.Prelude.{ℕ, Bool, cond, List, [], ◌∷◌, eqb, leb, length}
use Rattle.octets.specs.Text.{bytes}
use Rattle.octets.specs.Outcome.{Outcome, refused, gives, then, need, given}
use Rattle.octets.specs.Kinds.{is_name}
use Rattle.octets.specs.Compare.{same_bytes}
use Rattle.octets.specs.Decimal.{number_of}
use Rattle.http_head.specs.Lines.{lines_of}
use Rattle.http_head.specs.RequestLine.{FirstLine, request_line_of}
use Rattle.targets.specs.Target.{target_of}
use Rattle.http_head.specs.Fields.{Field, fields_of}
use Rattle.request.specs.Named.{lowered, values_of}

-- The rules over all fields; fs are the fields with their names in lower case, so that names are "compared letter case aside".

-- 16: "1.1 needs exactly one Host, 1.0 at most one."
unfoldable pub host_right : List ℕ → List Field → Bool
host_right version fs =
    let hosts = length (values_of (bytes "host") fs) in
    cond (same_bytes version (bytes "HTTP/1.1")) (eqb hosts 1) (leb hosts 1)

-- the body length that the Content-Length fields state: "At most one Content-Length (one or more digits; absent means 0)", and 02 §2: "at
-- most 10 digits: a longer one is .. 17 in HTTP"
abbrev pub stated_by : List (List ℕ) → Outcome ℕ
stated_by [] = gives 0
stated_by (v ∷ []) = given (number_of v) 17
stated_by (v ∷ (w ∷ vs)) = refused 17

-- 17: ".. and at most one Content-Type"; gives the stated body length
unfoldable pub content_of : List Field → Outcome ℕ
content_of fs =
    then (stated_by (values_of (bytes "content-length") fs)) (λ n.
    need (leb (length (values_of (bytes "content-type") fs)) 1) 17 (gives n))

-- 16, 17, and 18: "Transfer-Encoding present"; gives the stated body length
unfoldable pub rules_of : List ℕ → List Field → Outcome ℕ
rules_of version fs =
    need (host_right version fs) 16
    (then (content_of fs) (λ n.
    need (eqb (length (values_of (bytes "transfer-encoding") fs)) 0) 18 (gives n)))

-- what the head of a request says: its request line, its decoded path, its field lines, and the stated body length
pub record Request : Type 0 where
  pub first : FirstLine
  pub path : List ℕ
  pub fields : List Field
  pub body_length : ℕ

-- of a head's bytes before its CR LF CR LF: 12; 13; 14; 15; 16; 17; 18
unfoldable pub request_of : List ℕ → Outcome Request
request_of head =
    then (request_line_of (lines_of head).first) (λ first.
    then (target_of first.target) (λ target.
    then (fields_of is_name (lines_of head).others) (λ fields.
    then (rules_of first.version (lowered fields)) (λ n.
    gives (record { first = first; path = target.path; fields = fields; body_length = n })))))
