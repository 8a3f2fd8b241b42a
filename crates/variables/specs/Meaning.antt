-- What an HTTP request means.
-- Assumes nothing.
use Rattle.std.specs.Prelude.{ℕ, List, Option}
use Rattle.octets.specs.Text.{bytes}
use Rattle.http_head.specs.Fields.{Field}
use Rattle.http_head.specs.RequestLine.{FirstLine}
use Rattle.request.specs.Named.{lowered, values_of, first_found}
use Rattle.variables.specs.Fields.{grouped_of}

-- "Meaning of an accepted request: method, undecoded target, version, Content-Type or its absence, the passed fields as a list of lower-case
-- name and joined value by first appearance, and the body". The version is its bytes, `HTTP/1.0` or `HTTP/1.1`
pub record Meaning : Type 0 where
  pub method : List ℕ
  pub target : List ℕ
  pub version : List ℕ
  pub content_type : Option (List ℕ)
  pub fields : List Field
  pub body : List ℕ

-- the meaning of a request line, field lines and a body
abbrev pub meaning_of : FirstLine → List Field → List ℕ → Meaning
meaning_of first fields body =
    record {
      method = first.method;
      target = first.target;
      version = first.version;
      content_type = first_found (values_of (bytes "content-type") (lowered fields));
      fields = grouped_of fields;
      body = body;
    }
