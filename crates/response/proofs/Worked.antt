-- Worked cases, computed as one statement over one list: each row of the table, each way to 24 and to 25, and the limits.
-- Assumes nothing.
use Prim.Native.Nat.{ℕ}
use Prim.Native.String.{String}
use mathlib.Core.Path.{◌≡◌, refl}
use mathlib.Core.Bool.{cond}
use mathlib.Core.List.{List, [], ◌∷◌, ◌++◌, map}
use lib.Dec.{eqb}
use lib.ListN.{replicate}
use Rattle.octets.specs.Text.{bytes}
use Rattle.octets.specs.Outcome.{Outcome, refused, gives}
use Rattle.octets.specs.Kinds.{is_digit, is_letter, is_hex, is_token, is_target, is_value, is_blank, is_scheme}
use Rattle.octets.specs.Scan.{run, all_of, count}
use Rattle.octets.specs.Trim.{kept}
use Rattle.octets.specs.Compare.{same_bytes, lower_of}
use Rattle.octets.specs.Decimal.{number_from}
use Rattle.octets.specs.Parts.{parted}
use Rattle.targets.specs.Escape.{escapes_right, hex_value, decoded_from}
use Rattle.targets.specs.Target.{path_of, query_of, raw_right, no_dots, segments_right, decoded_right, target_of}
use Rattle.http_head.specs.Fields.{field_of}
use Rattle.response.specs.Head.{bare_length, lines_from, fields_of, head_of}
use Rattle.response.specs.Status.{three_alone, status_of}
use Rattle.response.specs.Location.{is_elsewhere}
use Rattle.response.specs.Table.{redirecting, table_of}
use Rattle.response.specs.Response.{named, response_of}
use Rattle.response.specs.declared.table.Answer.{Answer}
use Rattle.response.specs.declared.table.Action.{Action}
use Rattle.response.specs.declared.table.Action.TheVariants.{Serve, Redirect, RedirectDocument, Document}

pub record Case : Type 0 where
  pub input : List ℕ
  pub answer : Outcome Answer

-- | for LF, ^ for CR
abbrev pub output : String → List ℕ
output t = map (λ b. cond (eqb b 124) 10 (cond (eqb b 94) 13 b)) (bytes t)

abbrev pub refuses : ℕ → String → Case
refuses n t = record { input = output t; answer = refused n }

-- action, status, start and length of the Location value and of the body
abbrev pub answer : Action → ℕ → ℕ → ℕ → ℕ → ℕ → Outcome Answer
answer a t l m b n =
    gives (record { action = a; status = t; location = record { start = l; len = m }; body = record { start = b; len = n } })

abbrev pub answers : String → Action → ℕ → ℕ → ℕ → ℕ → ℕ → Case
answers s a t l m b n = record { input = output s; answer = answer a t l m b n }

-- 63 lines
abbrev pub many_lines : List ℕ
many_lines =
    let three = output "X:|X:|X:|" in
    let nine = three ++ three ++ three in nine ++ nine ++ nine ++ nine ++ nine ++ nine ++ nine

unfoldable pub cases : List Case
cases =
    answers "Location: /a||" Serve 0 10 2 14 0 ∷
    answers "location:/jobs/7?x=1 ^|^|" Serve 0 9 11 25 0 ∷
    answers "Location: //host/x||" Serve 0 10 8 20 0 ∷
    answers "Location: http://q.example/x||" Redirect 302 10 18 30 0 ∷
    answers "LOCATION: a:b|X_y: z^||" Redirect 302 10 3 23 0 ∷
    answers "Status: 301 Moved|Content-Type: text/html|Location: http://q.example/||moved" RedirectDocument 301 52 17 71 5 ∷
    answers "Status: 308^|Content-Type: t^|Location: a+b-c.d:e||" RedirectDocument 308 40 9 51 0 ∷
    answers "Content-Type: text/plain||hi" Document 200 0 0 26 2 ∷
    answers "Content-Type: text/plain|X: y^||" Document 200 0 0 32 0 ∷
    answers "content-type: t|Status: 404 Not Found||" Document 404 0 0 39 0 ∷
    answers "Status: 200  x|Content-Type: t||" Document 200 0 0 32 0 ∷
    answers "Status: 599|Content-Type: t||" Document 599 0 0 29 0 ∷
    refuses 25 "|" ∷
    refuses 25 "^|" ∷
    refuses 25 "|Content-Type: t||" ∷
    refuses 24 "Content-Type: t|" ∷
    refuses 24 "Content-Type: t" ∷
    refuses 24 "Content-Type: t^|^" ∷
    refuses 24 "HTTP/1.1 200 OK|Content-Type: t||" ∷
    refuses 24 " Content-Type: t||" ∷
    refuses 24 "Content-Type : t||" ∷
    refuses 24 ": t||" ∷
    refuses 24 "Content-Type: t^^||" ∷
    refuses 24 "Content^Type: t||" ∷
    refuses 24 "Location: /a|Location: /b|bad||" ∷
    refuses 25 "Content-Type: t|content-type: t||" ∷
    refuses 25 "Location: /a|Location: /a||" ∷
    refuses 25 "Content-Type: t|Status: 200|Status: 200||" ∷
    refuses 25 "Content-Type:||" ∷
    refuses 25 "Location: ||" ∷
    refuses 25 "Location: /a%2Fb||" ∷
    refuses 25 "Location: /../a||" ∷
    refuses 25 "Location: x||" ∷
    refuses 25 "Location: 1a:b||" ∷
    refuses 25 "Location: a:||" ∷
    refuses 25 "Location: a_b:c||" ∷
    refuses 25 "Location: a:b c||" ∷
    refuses 25 "Location: /a||body" ∷
    refuses 25 "Location: /a|X: y||" ∷
    refuses 25 "Location: a:b||body" ∷
    refuses 25 "Location: a:b|Content-Type: t||" ∷
    refuses 25 "Location: a:b|Status: 302||" ∷
    refuses 25 "Location: a:b|Status: 304|Content-Type: t||" ∷
    refuses 25 "Location: /a|Status: 302|Content-Type: t||" ∷
    refuses 25 "Content-Type: t|Status: 200OK||" ∷
    refuses 25 "Content-Type: t|Status: 2000||" ∷
    refuses 25 "Content-Type: t|Status: 20||" ∷
    refuses 25 "Content-Type: t|Status: 199||" ∷
    refuses 25 "Content-Type: t|Status: 600||" ∷
    refuses 25 "Content-Type: t|Status:||" ∷
    refuses 25 "Status: 200||" ∷
    refuses 25 "X: y||" ∷
    record { input = output "Content-Type: t|" ++ many_lines ++ output "|"; answer = answer Document 200 0 0 206 0 } ∷
    record { input = output "Content-Type: t|X:|" ++ many_lines ++ output "|"; answer = refused 24 } ∷
    record { input = output "Content-Type: " ++ replicate 8176 97 ++ output "||x"; answer = answer Document 200 0 0 8192 1 } ∷
    record { input = output "Content-Type: " ++ replicate 8177 97 ++ output "||x"; answer = refused 24 } ∷
    []

pub all_right : map (λ c. response_of c.input) cases ≡ map (λ c. c.answer) cases
unfolding cases is_digit is_letter is_hex is_token is_target is_value is_blank is_scheme run all_of count kept same_bytes lower_of number_from parted escapes_right hex_value decoded_from path_of query_of raw_right no_dots segments_right decoded_right target_of field_of bare_length lines_from fields_of head_of three_alone status_of is_elsewhere redirecting table_of named response_of
all_right = refl
