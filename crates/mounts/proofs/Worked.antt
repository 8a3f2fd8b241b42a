-- Worked cases, each list proved as one statement by computation.
-- Assumes nothing.
use Prim.Native.Nat.{ℕ}
use Prim.Native.String.{String}
use mathlib.Core.Path.{◌≡◌, refl}
use mathlib.Core.Bool.{true}
use mathlib.Core.List.{List, [], ◌∷◌, map}
use Rattle.octets.specs.Text.{bytes, barred}
use Rattle.octets.specs.Outcome.{Outcome, refused, gives, is_good, then}
use Rattle.octets.specs.Kinds.{is_digit}
use Rattle.octets.specs.Decimal.{number_from}
use Rattle.octets.specs.Compare.{same_bytes}
use Rattle.octets.specs.Lists.{is_in, different}
use Rattle.octets.specs.Scan.{count}
use Rattle.octets.specs.Parts.{parted}
use Rattle.headers.specs.Block.{Header, paired, printed}
use Rattle.mounts.specs.Value.{value_of}
use Rattle.mounts.specs.declared.value.Value.{Value}
use Rattle.mounts.specs.Mounts.{mounts_from, mounts_of, Route, begins, ends, mount_of, mount_for, route_of}
use Rattle.mounts.specs.Search.{shortened, mount_named, tried_in, MountPlace, search_of}

-- Values.

pub record Case : Type 0 where
  pub value : String
  pub answer : Outcome Value

abbrev pub pool : ℕ → ℕ → Outcome Value
pool len n = gives (record { len = len; limit = n })

unfoldable pub values : List Case
values =
    record { value = "p"; answer = pool 1 1048576 }
    ∷ record { value = "pool b"; answer = pool 6 1048576 }
    ∷ record { value = "p;0"; answer = pool 1 0 }
    ∷ record { value = "pq;5"; answer = pool 2 5 }
    ∷ record { value = "p;0000000005"; answer = pool 1 5 }
    ∷ record { value = "p;1048576"; answer = pool 1 1048576 }
    ∷ record { value = "p;1048577"; answer = refused 20 }
    ∷ record { value = "p;9999999999"; answer = refused 20 }
    ∷ record { value = "p;00000000005"; answer = refused 20 }
    ∷ record { value = ""; answer = refused 20 }
    ∷ record { value = ";"; answer = refused 20 }
    ∷ record { value = ";5"; answer = refused 20 }
    ∷ record { value = "p;"; answer = refused 20 }
    ∷ record { value = "p;5;"; answer = refused 20 }
    ∷ record { value = "p;5;6"; answer = refused 20 }
    ∷ record { value = "p;;5"; answer = refused 20 }
    ∷ record { value = "p;x"; answer = refused 20 }
    ∷ record { value = "p; 5"; answer = refused 20 }
    ∷ record { value = "p;+5"; answer = refused 20 }
    ∷ []

pub all-values : map (λ c. value_of (bytes c.value)) values ≡ map (λ c. c.answer) values
unfolding values value_of parted number_from is_digit
all-values = refl

-- Blocks that are refused: a mount that is none, whichever place it has.

unfoldable pub breaches : List String
breaches = "/|p|" ∷ "/a/|p|" ∷ "a|p|" ∷ "/a||" ∷ "/a|p|/a|q|" ∷ "/a|p" ∷ "/a|p;|" ∷ "/a|p|/b|p;x|" ∷ "/a|;5|/b|p|" ∷ []

pub all-breaches : map (λ b. mounts_of (barred b)) breaches ≡ map (λ b. refused 20) breaches
unfolding breaches mounts_of mounts_from value_of begins ends parted paired different is_in same_bytes number_from is_digit
all-breaches = refl

-- Paths.

pub record Path : Type 0 where
  pub path : String
  pub answer : Outcome Route

abbrev pub to : String → String → Outcome Route
to name rest = gives (record { script_name = bytes name; path_info = bytes rest })

unfoldable pub paths : List Path
paths =
    record { path = "/jobs"; answer = to "/jobs" "" }
    ∷ record { path = "/jobs/7"; answer = to "/jobs" "/7" }
    ∷ record { path = "/jobs/"; answer = to "/jobs" "/" }
    ∷ record { path = "/jobs//x"; answer = to "/jobs" "//x" }
    ∷ record { path = "/jobsx"; answer = refused 19 }
    ∷ record { path = "/jobs/old"; answer = to "/jobs/old" "" }
    ∷ record { path = "/jobs/old/7"; answer = to "/jobs/old" "/7" }
    ∷ record { path = "/jobs/older"; answer = to "/jobs" "/older" }
    ∷ record { path = "/job"; answer = refused 19 }
    ∷ record { path = "/"; answer = refused 19 }
    ∷ []

abbrev pub mounted : List ℕ
mounted = barred "/jobs|p|/jobs/old|q|"

abbrev pub routed : String → Outcome Route
routed p = then (mounts_of mounted) (λ ms. then (mount_for ms (bytes p)) (λ m. gives (route_of m (bytes p))))

pub paths-right : map (λ c. routed c.path) paths ≡ map (λ c. c.answer) paths
unfolding paths mounts_of mounts_from value_of mount_of begins ends same_bytes parted paired different is_in
paths-right = refl

-- the pool is a place in the block: of two equal pools that of the mount that wins, behind its name, without its limit; the limit is the
-- winning mount's, be it larger or smaller than the other's
pub record Sought : Type 0 where
  pub mounts : String
  pub path : String
  pub answer : MountPlace

abbrev pub place : (name_len start len limit : ℕ) → MountPlace
place n s l most = record { name_len = n; pool = record { start = s; len = l }; limit = most }

unfoldable pub searches : List Sought
searches =
    record { mounts = "/a|x|/b|x|"; path = "/b"; answer = place 2 8 1 1048576 }
    ∷ record { mounts = "/jobs|j|"; path = "/jobs/7"; answer = place 5 6 1 1048576 }
    ∷ record { mounts = "/a|x;7|/a/b|xy;0000000005|"; path = "/a/b/c"; answer = place 4 12 2 5 }
    ∷ record { mounts = "/a|x;7|/a/b|xy;0000000005|"; path = "/a/c"; answer = place 2 3 1 7 }
    ∷ record { mounts = "/a/b|x;70|/a|x;0|"; path = "/a/b"; answer = place 4 5 1 70 }
    ∷ []

pub searches-right : map (λ c. search_of (barred c.mounts) (bytes c.path)) searches ≡ map (λ c. gives c.answer) searches
unfolding searches mounts_of mounts_from value_of begins ends tried_in mount_named shortened count same_bytes parted paired different is_in
    number_from is_digit
searches-right = refl

-- "32 entries"

-- a mount for each letter
abbrev pub letters : String → List Header
letters t = map (λ b. record { name = 47 ∷ b ∷ []; value = b ∷ [] }) (bytes t)

pub limits :
    (mounts_of (printed (letters "ABCDEFGHIJKLMNOPQRSTUVWXYZabcdef")) ≡ mounts_from 0 (letters "ABCDEFGHIJKLMNOPQRSTUVWXYZabcdef"))
    × (is_good (mounts_of (printed (letters "ABCDEFGHIJKLMNOPQRSTUVWXYZabcdef"))) ≡ true)
    × (mounts_of (printed (letters "ABCDEFGHIJKLMNOPQRSTUVWXYZabcdefg")) ≡ refused 20)
unfolding printed mounts_of mounts_from value_of begins ends parted paired different is_in same_bytes
limits = (refl, refl, refl)
