-- The mounts of a block, and what they make of a path.
-- Assumes nothing.
use Rattle.std.specs.Prelude.{ℕ, ◌+◌, Bool, true, false, cond, not, ◌&&◌, ◌||◌, List, [], ◌∷◌, ◌++◌, eqb, leb, length, drop, Option, None, Some}
use Rattle.octets.specs.Outcome.{Outcome, gives, then, need, given}
use Rattle.octets.specs.Compare.{same_bytes}
use Rattle.headers.specs.Block.{Header}
use Rattle.mounts.specs.Blocks.{block_of}
use Rattle.mounts.specs.Value.{value_of}

-- s begins with the bytes p
unfoldable pub begins : List ℕ → List ℕ → Bool
begins [] s = true
begins (b ∷ p) [] = false
begins (b ∷ p) (c ∷ s) = eqb b c && begins p s

-- the last byte of s is x
unfoldable pub ends : ℕ → List ℕ → Bool
ends x [] = false
ends x (b ∷ []) = eqb b x
ends x (b ∷ (c ∷ s)) = ends x (c ∷ s)

-- a path under which requests go to a pool: its name, where its pool stands in the mounts block, and how many bytes a body may have
pub record Mount : Type 0 where
  pub name : List ℕ
  pub pool_start : ℕ
  pub pool_length : ℕ
  pub limit : ℕ

-- the mount of a header whose value stands at i: "each name begins with `/` and does not end with `/`". `/` is 47
abbrev pub mount_at : ℕ → Header → Outcome Mount
mount_at i h =
    need (begins (47 ∷ []) h.name) 20
    (need (not (ends 47 h.name)) 20
    (then (value_of h.value) (λ v.
    gives (record { name = h.name; pool_start = i; pool_length = v.len; limit = v.limit }))))

-- those of headers that stand in a block from i on, each "name, NUL, value, NUL"
unfoldable pub mounts_from : ℕ → List Header → Outcome (List Mount)
mounts_from i [] = gives []
mounts_from i (h ∷ hs) =
    then (mount_at (i + length h.name + 1) h) (λ m.
    then (mounts_from (i + length h.name + 1 + length h.value + 1) hs) (λ ms.
    gives (m ∷ ms)))

-- "Mounts: at most 4,096 bytes and 32 entries"
unfoldable pub mounts_of : List ℕ → Outcome (List Mount)
mounts_of block = then (block_of 4096 block) (λ hs. need (leb (length hs) 32) 20 (mounts_from 0 hs))

-- "A mount fits if the decoded path equals its name, or begins with its name and a `/`"
abbrev pub fits : List ℕ → List ℕ → Bool
fits name path = same_bytes name path || begins (name ++ 47 ∷ []) path

-- the longer name of a mount that fits and of the longest that fits among those after it
abbrev pub longer : Mount → Option Mount → Option Mount
longer m None = Some m
longer m (Some o) = cond (leb (length o.name) (length m.name)) (Some m) (Some o)

-- "the longest mount that fits wins"
unfoldable pub mount_of : List Mount → List ℕ → Option Mount
mount_of [] path = None
mount_of (m ∷ ms) path = cond (fits m.name path) (longer m (mount_of ms path)) (mount_of ms path)

-- 19: "no mount fits"
abbrev pub mount_for : List Mount → List ℕ → Outcome Mount
mount_for ms path = given (mount_of ms path) 19

-- "SCRIPT_NAME is that name, PATH_INFO the rest"
pub record Route : Type 0 where
  pub script_name : List ℕ
  pub path_info : List ℕ

abbrev pub route_of : Mount → List ℕ → Route
route_of m path = record { script_name = m.name; path_info = drop (length m.name) path }
