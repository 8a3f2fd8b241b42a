-- The search of the mounts for the one that a path goes to: the path is tried as a name, then the path without its last segment.
-- Assumes nothing.
use Rattle.std.specs.Prelude.{ℕ, zero, suc, cond, List, [], ◌∷◌, eqb, length, take, Option, None, Some, Result}
use Rattle.octets.specs.Outcome.{Outcome, gives, then, given}
use Rattle.octets.specs.Compare.{same_bytes}
use Rattle.octets.specs.Scan.{count}
use Rattle.octets.specs.Refusal.{outcome}
use Rattle.octets.specs.declared.refusal.Refusal.{Refusal}
use Rattle.mounts.specs.Value.{value_of}
use Rattle.mounts.specs.Mounts.{Mount, mounts_of}
use Rattle.mounts.specs.declared.search.Mount as Code

-- the bytes before the last slash of s, if there is one; a slash is 47
abbrev pub before_slash : ℕ → Option (List ℕ) → Option (List ℕ)
before_slash b (Some t) = Some (b ∷ t)
before_slash b None = cond (eqb b 47) (Some []) None

unfoldable pub shortened : List ℕ → Option (List ℕ)
shortened [] = None
shortened (b ∷ s) = before_slash b (shortened s)

-- what the code's answer says
abbrev pub slash_part : List ℕ → Option ℕ → Option (List ℕ)
slash_part path (Some k) = Some (take k path)
slash_part path None = None

-- the mount with that name: "of equal names the first counts"
unfoldable pub mount_named : List ℕ → List Mount → Option Mount
mount_named name [] = None
mount_named name (m ∷ ms) = cond (same_bytes m.name name) (Some m) (mount_named name ms)

-- the mount of the path, else that of the path without its last segment
abbrev pub or_shorter : Option Mount → (List ℕ → Option Mount) → Option (List ℕ) → Option Mount
or_shorter (Some m) try t = Some m
or_shorter None try None = None
or_shorter None try (Some t) = try t

-- at most n paths are tried
unfoldable pub tried_in : ℕ → List Mount → List ℕ → Option Mount
tried_in zero ms path = None
tried_in (suc n) ms path = or_shorter (mount_named path ms) (tried_in n ms) (shortened path)

-- each path tried has a slash less than the one before, the last has none: "at most 64 slashes deep", since a path has no more
abbrev pub tried : List Mount → List ℕ → Option Mount
tried ms path = tried_in (suc (count 47 path)) ms path

-- a mount by numbers: the length of its name, with which the path begins, its pool's place and its limit
abbrev pub MountPlace : Type 0
MountPlace = Code.Mount

abbrev pub place_of : Mount → MountPlace
place_of m = record { name_len = length m.name; pool = record { start = m.pool_start; len = m.pool_length }; limit = m.limit }

-- .. whose name has n bytes, and whose value v stands at i
abbrev pub place_by : (n i : ℕ) → List ℕ → Outcome MountPlace
place_by n i v = then (value_of v) (λ w. gives (record { name_len = n; pool = record { start = i; len = w.len }; limit = w.limit }))

-- of a mounts block; 19: "no mount fits"
abbrev pub search_of : List ℕ → List ℕ → Outcome MountPlace
search_of mounts path = then (mounts_of mounts) (λ ms. then (given (tried ms path) 19) (λ m. gives (place_of m)))

-- what the code's answer says
abbrev pub mount_outcome : Result MountPlace Refusal → Outcome MountPlace
mount_outcome = outcome (λ m. m)
