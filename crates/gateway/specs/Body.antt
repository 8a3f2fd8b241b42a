-- The body of a request.
-- Assumes nothing.
use Rattle.std.specs.Prelude.{ℕ, List, leb, length, take, Result}
use Rattle.octets.specs.Outcome.{Outcome, gives, then, need}
use Rattle.octets.specs.Refusal.{outcome}
use Rattle.octets.specs.declared.refusal.Refusal.{Refusal}

-- a request's body, and how many of the bytes after the head it takes
pub record Body : Type 0 where
  pub body : List ℕ
  pub used : ℕ

-- the body at the front of the bytes s after a head, of the length n that the request states: 02 §13: "9 is given above the winning mount's
-- limit", which is `most`; "1 for a short body"
unfoldable pub body_of : (most n : ℕ) → List ℕ → Outcome Body
body_of most n s =
    need (leb n most) 9
    (need (leb n (length s)) 1
    (gives (record { body = take n s; used = n })))

-- how many bytes it takes
abbrev pub length_of : (most n : ℕ) → List ℕ → Outcome ℕ
length_of most n s = then (body_of most n s) (λ b. gives b.used)

-- what the code's answer says
abbrev pub body_outcome : Result ℕ Refusal → Outcome ℕ
body_outcome = outcome (λ n. n)
