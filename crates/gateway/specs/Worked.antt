-- The cases that 01 marks W, the reader's and the gateway's, in one list.
-- Assumes nothing.
use Rattle.std.specs.Prelude.{ℕ, List, [], ◌∷◌, ◌++◌}
use Prim.Native.String.{String}
use Rattle.octets.specs.Text.{bytes, barred}
use Rattle.octets.specs.Outcome.{Outcome, refused, gives}
use Rattle.scgi.specs.Read.{Places, read_of}
use Rattle.gateway.specs.Step.{Forward, step_of}

-- a head of these lines
abbrev pub head_text : List String → List ℕ
head_text [] = 13 ∷ 10 ∷ []
head_text (l ∷ ls) = bytes l ++ 13 ∷ 10 ∷ head_text ls

-- what is lent in 01's example: connection facts, site settings and mounts; the pool of `/jobs` is `a`
abbrev pub facts : List ℕ
facts = barred "REMOTE_ADDR|10.0.0.9|"

abbrev pub site : List ℕ
site = barred "SERVER_NAME|q.example|SERVER_PORT|80|SERVER_SOFTWARE|gate/1|"

abbrev pub mounts : List ℕ
mounts = barred "/jobs|a|"

-- what is asked: of the reader, SCGI bytes with | for NUL; of the step, the lines of a head, the bytes after it, and the output's room
pub data Asked : Type 0 where
  reader : String → Asked
  step : List String → String → ℕ → Asked

-- what is answered
pub data Answer : Type 0 where
  read : Outcome Places → Answer
  forward : Outcome Forward → Answer

abbrev pub answer_to : Asked → Answer
answer_to (reader t) = read (read_of (barred t))
answer_to (step ls rest room) = forward (step_of facts site mounts (head_text ls ++ bytes rest) room)

pub record Case : Type 0 where
  pub asked : Asked
  pub answer : Answer

-- source document 001's example: 70 block bytes, 27 body bytes, 101 used
abbrev pub example : Places
example = record { block_start = 3; block_length = 70; body_start = 74; body_length = 27; used = 101 }

-- "W marks the cases proved together, as one statement over one list of them"
unfoldable pub cases : List Case
cases =
    record { asked = reader ""; answer = read (refused 1) }
    ∷ record { asked = reader "0"; answer = read (refused 1) }
    ∷ record { asked = reader "05"; answer = read (refused 2) }
    ∷ record { asked = reader ":"; answer = read (refused 2) }
    ∷ record { asked = reader "16385"; answer = read (refused 3) }
    ∷ record { asked = reader "0:,"; answer = read (refused 8) }
    ∷ record { asked = reader "0:x"; answer = read (refused 4) }
    ∷ record {
      asked = reader "70:CONTENT_LENGTH|27|SCGI|1|REQUEST_METHOD|POST|REQUEST_URI|/deepthought|,What is the answer to life?";
      answer = read (gives example);
    }
    ∷ record {
      asked = reader "70:CONTENT_LENGTH|27|SCGI|1|REQUEST_METHOD|POST|REQUEST_URI|/deepthought|,What is the answer to life";
      answer = read (refused 1);
    }
    ∷ record {
      asked = reader "70:CONTENT_LENGTH|27|SCGI|1|REQUEST_METHOD|POST|REQUEST_URI|/deepthought|,What is the answer to life?x";
      answer = read (gives example);
    }
    ∷ record { asked = step ("GET /a%2Fb HTTP/1.1" ∷ "Host: q.example" ∷ []) "" 0; answer = forward (refused 14) }
    ∷ record { asked = step ("GET /jobsx HTTP/1.1" ∷ "Host: q.example" ∷ []) "" 0; answer = forward (refused 19) }
    ∷ []
