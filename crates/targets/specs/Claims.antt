-- What is claimed of targets.
-- Assumes nothing.
use Rattle.std.specs.Prelude.{ℕ, min, ◌+◌, ◌≤◌, ◌≡◌, true, List, length, take, drop, get_or, Ok, Err}
use Rattle.octets.specs.Outcome.{refused, gives}
use Rattle.octets.specs.Kinds.{is_target}
use Rattle.octets.specs.Scan.{all_of, count}
use Rattle.octets.specs.Lists.{NoNul}
use Rattle.octets.specs.Refusal.{number_of}
use Rattle.octets.specs.declared.refusal.Refusal.{Refusal}
use Rattle.targets.specs.Escape.{escapes_right, decoded}
use Rattle.targets.specs.Target.{Target, path_of, query_of, is_plain, segments_right, target_of, TargetRead}

-- the target t is right as it stands
pub record RawSays (t : List ℕ) : Type 0 where
  pub some : 1 ≤ length t
  pub short : length t ≤ 4096
  pub start : get_or t 0 0 ≡ 47
  pub bytes : all_of is_target t ≡ true
  pub escapes : escapes_right t ≡ true
  pub slashes : count 47 (path_of t) ≤ 64

-- the target t is accepted with the path and the query of x
pub record Accepted (t : List ℕ) (x : Target) : Type 0 where
  pub raw : RawSays t
  pub path_is : x.path ≡ decoded (path_of t)
  pub query_is : x.query ≡ query_of t
  pub path_start : get_or x.path 0 0 ≡ 47
  pub path_some : 1 ≤ length x.path
  pub parts_fit : length x.path + length x.query ≤ length t
  pub path_slashes : count 47 x.path ≤ 64
  pub path_plain : all_of is_plain x.path ≡ true
  pub path_segments : segments_right x.path ≡ true
  pub target_no_nul : NoNul t
  pub path_no_nul : NoNul x.path
  pub query_no_nul : NoNul x.query

-- an accepted target and its decoded path obey the rules of targets, and no part has a NUL, which would end a variable's value
abbrev pub TargetsObey : Type 0
TargetsObey = (t : List ℕ) (x : Target) → target_of t ≡ gives x → Accepted t x

-- the answer tells k bytes of path and n bytes decoded of the target t, and d is the buffer that it leaves: the path is the first k bytes
-- of t, decoded it is the first n of d, and the query is what stands behind the path and its `?`
pub record Told (t d : List ℕ) (k n : ℕ) : Type 0 where
  pub answer : gives (record { path = take n d; query = drop (k + 1) t }) ≡ target_of t
  pub path_length : k ≡ length (path_of t)
  pub path_inside : k ≤ length t
  pub decoded_length : n ≡ length (decoded (path_of t))
  pub decoded_inside : n ≤ length d

-- what the lengths of an answer say of the target and of the buffer
pub record TargetsTold : Type 0 where
  pub accepts :
      (t before after : List ℕ) (k n : ℕ) → min (length t) 4096 ≤ length before
      → TargetRead t before after (Ok (record { path_len = k; decoded_len = n })) → Told t after k n
  pub refuses : (t before after : List ℕ) (e : Refusal) → TargetRead t before after (Err e) → refused (number_of e) ≡ target_of t

-- no other number is given: "14 | target refused"
abbrev pub NumbersHold : Type 0
NumbersHold = (t : List ℕ) (n : ℕ) → target_of t ≡ refused n → n ≡ 14
