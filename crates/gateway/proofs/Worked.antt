-- The cases that 01 marks W, computed; 01's whole output, and further cases.
-- Assumes nothing.
use Prim.Native.Nat.{ℕ}
use Prim.Native.String.{String}
use mathlib.Core.Path.{◌≡◌, refl}
use mathlib.Core.List.{List, [], ◌∷◌, ◌++◌, map}
use Rattle.octets.specs.Text.{bytes, barred}
use Rattle.octets.specs.Outcome.{Outcome, refused, gives}
use Rattle.octets.specs.Kinds.{is_digit, is_letter, is_hex, is_token, is_name, is_target, is_value, is_blank}
use Rattle.octets.specs.Scan.{run, all_of, count}
use Rattle.octets.specs.Trim.{kept}
use Rattle.octets.specs.Compare.{same_bytes, lower_of, upper_of}
use Rattle.octets.specs.Lists.{is_in, different}
use Rattle.octets.specs.Decimal.{number_from, digits_in}
use Rattle.octets.specs.Parts.{parted}
use Rattle.headers.specs.Block.{printed, paired}
use Rattle.headers.specs.Lookup.{value_in}
use Rattle.scgi.specs.Check.{has, check_block}
use Rattle.scgi.specs.Netstring.{length_from}
use Rattle.scgi.specs.Read.{read_of}
use Rattle.http_head.specs.Head.{end_from, head_of}
use Rattle.http_head.specs.Lines.{lines_from}
use Rattle.http_head.specs.RequestLine.{is_method, is_version, version_of, request_line_of}
use Rattle.targets.specs.Escape.{escapes_right, hex_value, decoded_from}
use Rattle.targets.specs.Target.{path_of, query_of, raw_right, no_dots, segments_right, decoded_right, target_of}
use Rattle.http_head.specs.Fields.{Field, field_of, each_field}
use Rattle.lent.specs.Settings.{settings_of}
use Rattle.mounts.specs.Value.{value_of}
use Rattle.mounts.specs.Mounts.{begins, ends, mounts_from, mounts_of, mount_of}
use Rattle.lent.specs.Lent.{lent_of}
use Rattle.variables.specs.Fields.{passed, separator, added_by, grouped, grouped_of}
use Rattle.request.specs.Named.{values_of}
use Rattle.variables.specs.Variables.{fixed}
use Rattle.request.specs.Request.{host_right, content_of, rules_of, request_of}
use Rattle.gateway.specs.Body.{body_of}
use Rattle.gateway.specs.Step.{Forward, forward_of, step_with, step_of}
use Rattle.gateway.specs.Worked.{facts, site, head_text, step, forward, answer_to, Case, cases}
use Rattle.gateway.specs.Claims.{WorkedCases}

pub worked-cases : WorkedCases
unfolding cases read_of length_from check_block parted paired different is_in same_bytes number_from is_digit has step_with lent_of
    settings_of mounts_of mounts_from value_of begins ends mount_of value_in forward_of head_of end_from lines_from request_of request_line_of version_of
    is_method is_version is_token is_letter is_hex is_target is_name is_value is_blank run all_of count kept escapes_right hex_value
    decoded_from path_of query_of raw_right no_dots segments_right decoded_right target_of field_of each_field lower_of rules_of host_right
    content_of values_of
worked-cases = refl

-- 01's example: "Whole output, | for NUL, 272 bytes"
abbrev pub example_output : List ℕ
example_output =
    barred
    "267:CONTENT_LENGTH|0|SCGI|1|GATEWAY_INTERFACE|CGI/1.1|PATH_INFO|/7|QUERY_STRING|x=1|REMOTE_ADDR|10.0.0.9|REQUEST_METHOD|GET|REQUEST_URI|/jobs/7?x=1|SCRIPT_NAME|/jobs|SERVER_NAME|q.example|SERVER_PORT|80|SERVER_PROTOCOL|HTTP/1.1|SERVER_SOFTWARE|gate/1|HTTP_HOST|q.example|,"

-- fields that are joined, cookies among them, fields that are not passed, and a body with bytes after it
abbrev pub joined_output : List ℕ
joined_output =
    barred
    "347:CONTENT_LENGTH|5|SCGI|1|CONTENT_TYPE|text/plain|GATEWAY_INTERFACE|CGI/1.1|PATH_INFO||QUERY_STRING||REMOTE_ADDR|10.0.0.9|REQUEST_METHOD|POST|REQUEST_URI|/jobs|SCRIPT_NAME|/jobs|SERVER_NAME|q.example|SERVER_PORT|80|SERVER_PROTOCOL|HTTP/1.0|SERVER_SOFTWARE|gate/1|HTTP_ACCEPT|a, b|HTTP_X_JOB_!|, 1|HTTP_TE|trailers|HTTP_COOKIE|c; d|HTTP_COOKIE2|x, y|,hello"

-- 01's example, and cases that 01 settles by its words and that are easy to slip on
unfoldable pub further : List Case
further =
    record {
      asked = step ("GET /jobs/7?x=1 HTTP/1.1" ∷ "Host: q.example" ∷ []) "" 272;
      answer = forward (gives (record { scgi = example_output; pool_start = 6; pool_length = 1; used = 45 }));
    }
    ∷ record { asked = step ("GET /jobs/7?x=1 HTTP/1.1" ∷ "Host: q.example" ∷ []) "" 271; answer = forward (refused 21) }
    ∷ record {
      asked =
          step (
          "POST /jobs HTTP/1.0"
          ∷ "Authorization: Basic x"
          ∷ "Accept: a"
          ∷ "X-Job-!:"
          ∷ "content-TYPE: text/plain"
          ∷ "ACCEPT:b "
          ∷ "Proxy: p"
          ∷ "Keep-Alive: 1"
          ∷ "connection: TE"
          ∷ "TE: trailers"
          ∷ "x-job-!: 1"
          ∷ "Proxy-Authorization: Basic x"
          ∷ "Cookie: c"
          ∷ "Cookie2: x"
          ∷ "COOKIE: d"
          ∷ "cookie2:y"
          ∷ "Content-Length: 005"
          ∷ [])
          "hello!"
          400;
      answer = forward (gives (record { scgi = joined_output; pool_start = 6; pool_length = 1; used = 273 }));
    }
    ∷ record { asked = step ("GET /jobs HTTP/1.1" ∷ "Job_Id: 1" ∷ []) "" 0; answer = forward (refused 15) }
    ∷ record { asked = step ("GET /jobs HTTP/1.1" ∷ []) "" 0; answer = forward (refused 16) }
    ∷ record { asked = step ("GET /jobs HTTP/1.1" ∷ "Host: q" ∷ "HOST: q" ∷ []) "" 0; answer = forward (refused 16) }
    ∷ record { asked = step ("GET /jobs HTTP/1.0" ∷ "Host: q" ∷ "HOST: q" ∷ []) "" 0; answer = forward (refused 16) }
    ∷ record { asked = step ("GET /jobs HTTP/1.0" ∷ "Content-Length: 5" ∷ "content-length: 5" ∷ []) "" 0; answer = forward (refused 17) }
    ∷ record { asked = step ("GET /jobs HTTP/1.0" ∷ "Content-Length: 5, 5" ∷ []) "" 0; answer = forward (refused 17) }
    ∷ record { asked = step ("GET /jobs HTTP/1.0" ∷ "Content-Length:" ∷ []) "" 0; answer = forward (refused 17) }
    ∷ record { asked = step ("GET /jobs HTTP/1.0" ∷ "Content-Type: a" ∷ "content-type: a" ∷ []) "" 0; answer = forward (refused 17) }
    ∷ record { asked = step ("GET /jobs HTTP/1.0" ∷ "TRANSFER-encoding:" ∷ "Content-Length: 1048577" ∷ []) "" 0; answer = forward (refused 18) }
    ∷ record { asked = step ("GET /jobsx HTTP/1.0" ∷ "Content-Length: 1048577" ∷ []) "" 0; answer = forward (refused 19) }
    ∷ record { asked = step ("GET /jobs HTTP/1.0" ∷ "Content-Length: 9999999999" ∷ []) "" 0; answer = forward (refused 9) }
    ∷ record { asked = step ("GET /jobs HTTP/1.0" ∷ "Content-Length: 99999999999" ∷ []) "" 0; answer = forward (refused 17) }
    ∷ record { asked = step ("GET /jobs HTTP/1.0" ∷ "Content-Length: 0000000005" ∷ []) "hell" 0; answer = forward (refused 1) }
    ∷ record { asked = step ("GET /jobsx HTTP/1.0" ∷ "Content-Length: 00000000005" ∷ "Transfer-Encoding:" ∷ []) "" 0; answer = forward (refused 17) }
    ∷ record { asked = step ("GET /jobs HTTP/1.0" ∷ "Content-Length: 5" ∷ []) "hell" 0; answer = forward (refused 1) }
    ∷ record { asked = step ("GET /jobs HTTP/1.0" ∷ "Content-Length: 5" ∷ []) "hello" 0; answer = forward (refused 21) }
    ∷ []

pub further-right : map (λ c. answer_to c.asked) further ≡ map (λ c. c.answer) further
unfolding further same_bytes is_in number_from digits_in is_digit printed parted paired different step_with lent_of settings_of mounts_of
    mounts_from value_of begins ends mount_of value_in forward_of head_of end_from lines_from request_of request_line_of version_of is_method is_version
    is_token is_letter is_hex is_target is_name is_value is_blank run all_of count kept escapes_right hex_value decoded_from path_of query_of
    raw_right no_dots segments_right decoded_right target_of field_of each_field lower_of upper_of rules_of host_right content_of values_of
    body_of fixed passed separator added_by grouped
further-right = refl

-- 02 §13, of a stated length of 5 and an output without room: what is asked under these mounts, by the request line and the bytes after the
-- head, and the refusal; 21 is the last, and so says that the body is accepted
pub data Limited : Type 0 where
  under : (mounts line body : String) → Limited

abbrev pub limited_to : Limited → Outcome Forward
limited_to (under ms line body) = step_of facts site (barred ms) (head_text (line ∷ "Content-Length: 5" ∷ []) ++ bytes body) 0

pub record LimitedCase : Type 0 where
  pub asked : Limited
  pub number : ℕ

unfoldable pub limited : List LimitedCase
limited =
    record { asked = under "/jobs|a;5|" "POST /jobs HTTP/1.0" "hello"; number = 21 }
    ∷ record { asked = under "/jobs|a;4|" "POST /jobs HTTP/1.0" "hello"; number = 9 }
    ∷ record { asked = under "/jobs|a;4|" "POST /jobs HTTP/1.0" "hell"; number = 9 }
    ∷ record { asked = under "/jobs|a;5|" "POST /jobs HTTP/1.0" "hell"; number = 1 }
    ∷ record { asked = under "/jobs|a;0|" "POST /jobsx HTTP/1.0" "hello"; number = 19 }
    ∷ record { asked = under "/jobs|a;4|/jobs/old|b;0000000005|" "POST /jobs/old HTTP/1.0" "hello"; number = 21 }
    ∷ record { asked = under "/jobs|a;5|/jobs/old|b;4|" "POST /jobs/old/7 HTTP/1.0" "hello"; number = 9 }
    ∷ record { asked = under "/jobs|a;5|/x|b;|" "POST /jobs HTTP/1.0" "hello"; number = 20 }
    ∷ []

pub limited-right : map (λ c. limited_to c.asked) limited ≡ map (λ c. refused c.number) limited
unfolding limited same_bytes is_in number_from digits_in is_digit printed parted paired different step_with lent_of settings_of mounts_of
    mounts_from value_of begins ends mount_of value_in forward_of head_of end_from lines_from request_of request_line_of version_of is_method is_version
    is_token is_letter is_hex is_target is_name is_value is_blank run all_of count kept escapes_right hex_value decoded_from path_of query_of
    raw_right no_dots segments_right decoded_right target_of field_of each_field lower_of upper_of rules_of host_right content_of values_of
    body_of fixed passed separator added_by grouped
limited-right = refl

-- a field by its name and its value
abbrev pub field : String → String → Field
field n v = record { name = bytes n; value = bytes v }

-- the fields of a meaning: two Cookie fields are what one with the joined value is, and not what one with a comma is
pub cookies-mean :
    map grouped_of ((field "Cookie" "a" ∷ field "COOKIE" "b" ∷ []) ∷ (field "Cookie" "a; b" ∷ []) ∷ (field "Cookie" "a, b" ∷ []) ∷ [])
    ≡ map (λ v. field "cookie" v ∷ []) ("a; b" ∷ "a; b" ∷ "a, b" ∷ [])
unfolding passed separator added_by grouped is_in same_bytes lower_of
cookies-mean = refl
