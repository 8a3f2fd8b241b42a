-- A request's target: the rules it obeys, its decoded path and its query.
-- Assumes nothing.
use Rattle.std.specs.Prelude.{ℕ, ◌+◌, ◌≤◌, ◌≡◌, Bool, true, cond, not, ◌&&◌, ◌||◌, eqb, leb, Result, Ok, Err}
use Rattle.std.specs.Prelude.{List, [], ◌∷◌, length, take, drop, get_or}
use Rattle.octets.specs.Text.{bytes}
use Rattle.octets.specs.Outcome.{Outcome, gives, then, need}
use Rattle.octets.specs.Kinds.{is_target}
use Rattle.octets.specs.Scan.{run, other, all_of, count}
use Rattle.octets.specs.Compare.{same_bytes}
use Rattle.octets.specs.Parts.{parted}
use Rattle.octets.specs.Copy.{over}
use Rattle.octets.specs.Refusal.{outcome}
use Rattle.octets.specs.declared.refusal.Refusal.{Refusal}
use Rattle.octets.specs.declared.refusal.Refusal.TheVariants as Because
use Rattle.targets.specs.Escape.{escapes_right, decoded}
use Rattle.targets.specs.declared.target.Raw.{Raw}
use Rattle.targets.specs.declared.target.TargetPlace.{TargetPlace}

-- "`?` too, the first one ending the path": the bytes before the first 63
unfoldable pub path_of : List ℕ → List ℕ
path_of t = take (run (other 63) t) t

-- the bytes after the first 63; none where there is no 63
unfoldable pub query_of : List ℕ → List ℕ
query_of t = drop (run (other 63) t + 1) t

-- "The target is 1 to 4,096 bytes and begins with `/`. Target bytes: .., and `%` followed by two hex digits; .. The path has at most 64
-- slashes." A slash is 47
unfoldable pub raw_right : List ℕ → Bool
raw_right t =
    leb 1 (length t) && leb (length t) 4096 && eqb (get_or t 0 0) 47 && all_of is_target t && escapes_right t
    && leb (count 47 (path_of t)) 64

-- not a "byte 0 to 31 or 127"
abbrev pub is_plain : ℕ → Bool
is_plain b = not (leb b 31 || eqb b 127)

-- "segment `.` or `..`"
abbrev pub is_dots : List ℕ → Bool
is_dots s = same_bytes s (bytes ".") || same_bytes s (bytes "..")

-- none of the parts is such a segment
unfoldable pub no_dots : List (List ℕ) → Bool
no_dots [] = true
no_dots (s ∷ ss) = not (is_dots s) && no_dots ss

-- .. where the segments are the parts between the slashes
unfoldable pub segments_right : List ℕ → Bool
segments_right p = no_dots ((parted 47 p).first ∷ (parted 47 p).others)

-- of the decoded path d of a path with n slashes: "Decoded, the path must gain no `/` by an escape, have no byte 0 to 31 or 127,
-- and no segment `.` or `..`"
unfoldable pub decoded_right : ℕ → List ℕ → Bool
decoded_right n d = eqb (count 47 d) n && all_of is_plain d && segments_right d

-- "The query is not decoded."
pub record Target : Type 0 where
  pub path : List ℕ
  pub query : List ℕ

-- the target t; 14: every breach of these rules
unfoldable pub target_of : List ℕ → Outcome Target
target_of t =
    need (raw_right t) 14
    (need (decoded_right (count 47 (path_of t)) (decoded (path_of t))) 14
    (gives (record { path = decoded (path_of t); query = query_of t })))

-- what the code's answers say: how long the path of a target is, and how long it is decoded
abbrev pub target_outcome : Result TargetPlace Refusal → Outcome TargetPlace
target_outcome = outcome (λ r. r)

-- .. of the target t
abbrev pub lengths_of : List ℕ → Outcome TargetPlace
lengths_of t = then (target_of t) (λ x. gives (record { path_len = length (path_of t); decoded_len = length x.path }))

-- what is written to the buffer: nothing where the target is refused as it stands, else the decoded path, also where that is refused
abbrev pub written : List ℕ → List ℕ
written t = cond (raw_right t) (decoded (path_of t)) []

-- the answer r, and the buffer before and after, are those of the target t
pub record TargetRead (t before after : List ℕ) (r : Result TargetPlace Refusal) : Type 0 where
  pub answer : target_outcome r ≡ lengths_of t
  pub buffer : after ≡ over before 0 (written t)

-- For the step that judges a target as it stands: the length of its path, and how many slashes the path has.
abbrev pub raw_of : List ℕ → Result Raw Refusal
raw_of t = cond (raw_right t) (Ok (record { path_len = length (path_of t); slashes = count 47 (path_of t) })) (Err Because.Target)

-- For the steps after it: the path p with n slashes is one of a target that is right as it stands.
pub record PathRight (p : List ℕ) (n : ℕ) : Type 0 where
  pub short : length p ≤ 4096
  pub bytes : all_of is_target p ≡ true
  pub escapes : escapes_right p ≡ true
  pub slashes : n ≡ count 47 p

-- .. and the answer r, and the buffer before and after, are those of the path p.
pub record PathRead (p before after : List ℕ) (r : Result TargetPlace Refusal) : Type 0 where
  pub answer :
      r
      ≡ cond (decoded_right (count 47 p) (decoded p)) (Ok (record { path_len = length p; decoded_len = length (decoded p) }))
      (Err Because.Target)
  pub buffer : after ≡ over before 0 (decoded p)
