-- Worked cases, computed: heads, lines, request lines, field lines.
-- Assumes nothing.
use Prim.Native.Nat.{ℕ}
use mathlib.Core.Path.{◌≡◌, refl}
use mathlib.Core.List.{List, [], ◌∷◌, ◌++◌, map}
use Rattle.std.proofs.Common.{Option, None, Some}
use lib.ListN.{replicate}
use Rattle.octets.specs.Text.{bytes}
use Rattle.octets.specs.Outcome.{Outcome, refused, gives}
use Rattle.octets.specs.Kinds.{is_digit, is_letter, is_token, is_name, is_value, is_blank}
use Rattle.octets.specs.Scan.{run, all_of}
use Rattle.octets.specs.Trim.{kept}
use Rattle.octets.specs.Compare.{same_bytes}
use Rattle.octets.specs.Parts.{Parts, parted}
use Rattle.http_head.specs.Head.{end_from, head_of}
use Rattle.http_head.specs.Lines.{lines_from, lines_of, line_run}
use Rattle.http_head.specs.RequestLine.{FirstLine, is_method, is_version, version_of, request_line_of, line_places_of}
use Rattle.http_head.specs.Fields.{Field, field_of, each_field, fields_of, spans_of, places_from, places_of}
use Rattle.http_head.specs.declared.fields.Field.{Field as Spans}

abbrev crlf : List ℕ
crlf = 13 ∷ 10 ∷ []

-- what is read, and its answer
pub record Case (A B : Type 0) : Type 0 where
  pub input : A
  pub answer : B

unfoldable pub heads : List (Case (List ℕ) (Outcome ℕ))
heads =
    record { input = []; answer = refused 1 } ∷
    record { input = bytes "GET / HTTP/1.1" ++ crlf ++ crlf ++ bytes "x"; answer = gives 18 } ∷
    record { input = bytes "GET / HTTP/1.1" ++ crlf ++ (13 ∷ []); answer = refused 1 } ∷
    record { input = bytes "GET / HTTP/1.1" ++ crlf ++ bytes "A: b" ++ crlf; answer = refused 1 } ∷
    record { input = crlf ++ crlf; answer = gives 4 } ∷
    record { input = 13 ∷ (crlf ++ crlf); answer = gives 5 } ∷
    record { input = 10 ∷ 13 ∷ 10 ∷ 10 ∷ (crlf ++ crlf ++ crlf); answer = gives 8 } ∷
    record { input = replicate 8188 65 ++ crlf ++ crlf; answer = gives 8192 } ∷
    record { input = replicate 8189 65 ++ crlf ++ crlf; answer = refused 11 } ∷
    record { input = replicate 8191 65; answer = refused 1 } ∷
    record { input = replicate 8192 65; answer = refused 11 } ∷
    []

pub heads-right : map (λ c. head_of c.input) heads ≡ map (λ c. c.answer) heads
unfolding heads head_of end_from
heads-right = refl

unfoldable pub lines : List (Case (List ℕ) Parts)
lines =
    record { input = []; answer = record { first = []; others = [] } } ∷
    record { input = bytes "a"; answer = record { first = bytes "a"; others = [] } } ∷
    record { input = bytes "a" ++ crlf ++ bytes "b"; answer = record { first = bytes "a"; others = bytes "b" ∷ [] } } ∷
    record { input = bytes "a" ++ crlf; answer = record { first = bytes "a"; others = [] ∷ [] } } ∷
    record { input = 13 ∷ 13 ∷ 10 ∷ 10 ∷ 97 ∷ 10 ∷ []; answer = record { first = 13 ∷ []; others = (10 ∷ 97 ∷ 10 ∷ []) ∷ [] } } ∷
    []

pub lines-right : map (λ c. lines_of c.input) lines ≡ map (λ c. c.answer) lines
unfolding lines lines_from
lines-right = refl

unfoldable pub request_lines : List (Case (List ℕ) (Outcome FirstLine))
request_lines =
    record { input = bytes "GET / HTTP/1.1"; answer = gives (record { method = bytes "GET"; target = bytes "/"; version = bytes "HTTP/1.1" }) } ∷
    record { input = bytes "a_b  HTTP/1.0"; answer = gives (record { method = bytes "a_b"; target = []; version = bytes "HTTP/1.0" }) } ∷
    record { input = bytes "GET /a b HTTP/1.1"; answer = refused 12 } ∷
    record { input = bytes "GET /HTTP/1.1"; answer = refused 12 } ∷
    record { input = bytes " / HTTP/1.1"; answer = refused 12 } ∷
    record { input = bytes "G:T / HTTP/1.1"; answer = refused 12 } ∷
    record { input = bytes "aaaaaaaaaaaaaaaaaaaaaaaaaaaaaaaaa / HTTP/1.1"; answer = refused 12 } ∷
    record { input = bytes "GET / HTTP/1.2"; answer = refused 13 } ∷
    record { input = bytes "GET / HTTP/2.0"; answer = refused 13 } ∷
    record { input = bytes "G:T / HTTP/2.0"; answer = refused 12 } ∷
    record { input = bytes "GET / HTTP/1.10"; answer = refused 12 } ∷
    record { input = bytes "GET / HTTP/1."; answer = refused 12 } ∷
    record { input = bytes "GET / http/1.1"; answer = refused 12 } ∷
    record { input = bytes "GET / HTTP/1.1" ++ (13 ∷ []); answer = refused 12 } ∷
    record { input = bytes "GET /" ++ (13 ∷ 9 ∷ 10 ∷ bytes " HTTP/1.1"); answer = gives (record { method = bytes "GET"; target = 47 ∷ 13 ∷ 9 ∷ 10 ∷ []; version = bytes "HTTP/1.1" }) } ∷
    record { input = []; answer = refused 12 } ∷
    []

pub request-lines-right : map (λ c. request_line_of c.input) request_lines ≡ map (λ c. c.answer) request_lines
unfolding request_lines request_line_of is_method is_version version_of parted same_bytes all_of is_token is_digit is_letter
request-lines-right = refl

-- the field lines of requests
unfoldable pub field_lines : List (Case (List (List ℕ)) (Outcome (List Field)))
field_lines =
    record { input = []; answer = gives [] } ∷
    record { input = bytes "A: b" ∷ (bytes "C:" ++ (9 ∷ bytes " d e ") ++ (9 ∷ [])) ∷ bytes "F:" ∷ []; answer = gives (record { name = bytes "A"; value = bytes "b" } ∷ record { name = bytes "C"; value = bytes "d e" } ∷ record { name = bytes "F"; value = [] } ∷ []) } ∷
    record { input = bytes "A:b:c" ∷ []; answer = gives (record { name = bytes "A"; value = bytes "b:c" } ∷ []) } ∷
    record { input = bytes "A_b: c" ∷ []; answer = refused 15 } ∷
    record { input = bytes " A: b" ∷ []; answer = refused 15 } ∷
    record { input = bytes "A : b" ∷ []; answer = refused 15 } ∷
    record { input = bytes ": b" ∷ []; answer = refused 15 } ∷
    record { input = bytes "A" ∷ []; answer = refused 15 } ∷
    record { input = [] ∷ []; answer = refused 15 } ∷
    record { input = (bytes "A: b" ++ (13 ∷ [])) ∷ []; answer = refused 15 } ∷
    record { input = (bytes "A: " ++ (255 ∷ 127 ∷ [])) ∷ []; answer = refused 15 } ∷
    record { input = bytes "A: b" ∷ bytes "B" ∷ []; answer = refused 15 } ∷
    []

pub field-lines-right : map (λ c. fields_of is_name c.input) field_lines ≡ map (λ c. c.answer) field_lines
unfolding field_lines each_field field_of run all_of kept is_name is_token is_digit is_letter is_blank is_value
field-lines-right = refl

-- 64 lines pass, and one more does not
unfoldable pub copies : {A : Type 0} → A → List A
copies a = let four = a ∷ a ∷ a ∷ a ∷ [] in let sixteen = four ++ four ++ four ++ four in sixteen ++ sixteen ++ sixteen ++ sixteen

pub most-lines : fields_of is_name (copies (bytes "A:b")) ≡ gives (copies (record { name = bytes "A"; value = bytes "b" }))
unfolding copies each_field field_of run all_of kept is_name is_token is_digit is_letter is_blank is_value
most-lines = refl

pub one-too-many : fields_of is_name (bytes "A:b" ∷ copies (bytes "A:b")) ≡ refused 15
unfolding copies
one-too-many = refl

-- a response's names
pub underscore-allowed : fields_of is_token (bytes "A_b: c" ∷ []) ≡ gives (record { name = bytes "A_b"; value = bytes "c" } ∷ [])
unfolding each_field field_of run all_of kept is_token is_digit is_letter is_blank is_value
underscore-allowed = refl

-- WHERE THEY STAND

pub line-places : line_places_of (bytes "a a HTTP/1.0") ≡ gives (record { method_length = 1; target = record { start = 2; len = 1 }; version = bytes "HTTP/1.0" })
unfolding request_line_of is_method is_version version_of parted same_bytes all_of is_token is_digit is_letter
line-places = refl

-- a name's place and a value's
abbrev pub at : ℕ → ℕ → ℕ → ℕ → Spans
at n k v l = record { name = record { start = n; len = k }; value = record { start = v; len = l } }

unfoldable pub field_places : List (Case (List ℕ) (Option Spans))
field_places =
    record { input = bytes "a:a"; answer = Some (at 0 1 2 1) } ∷
    record { input = bytes "A: b c "; answer = Some (at 0 1 3 3) } ∷
    record { input = bytes "A:"; answer = Some (at 0 1 2 0) } ∷
    record { input = bytes "A:  "; answer = Some (at 0 1 4 0) } ∷
    record { input = bytes "A"; answer = None } ∷
    []

pub field-places-right : map (λ c. spans_of is_name c.input) field_places ≡ map (λ c. c.answer) field_places
unfolding field_places field_of run all_of kept is_name is_token is_digit is_letter is_blank is_value
field-places-right = refl

pub places-right : places_of (bytes "GET / HTTP/1.1" ++ crlf ++ bytes "A: b" ++ crlf ++ bytes "Cd:") ≡ at 16 1 19 1 ∷ at 22 2 25 0 ∷ []
unfolding places_from lines_from line_run run kept is_blank
places-right = refl
