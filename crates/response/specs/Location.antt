-- The value of Location.
-- Assumes nothing.
use Rattle.std.specs.Prelude.{ℕ, ◌+◌, Bool, true, false, cond, not, ◌&&◌, List, eqb, ltb, length, take, get_or, Option, None, Some}
use Rattle.octets.specs.Outcome.{Outcome, refused, gives}
use Rattle.octets.specs.Kinds.{within, is_letter, is_scheme}
use Rattle.octets.specs.Scan.{run, other, all_of}
use Rattle.octets.specs.Lists.{is_nil}
use Rattle.targets.specs.Target.{Target, target_of}
use Rattle.response.specs.Head.{Value}

-- "A Location that begins with `/` is local"; 47 is `/`
abbrev pub is_local : List ℕ → Bool
is_local v = eqb (get_or v 0 0) 47

-- "all of 33 to 126"
abbrev pub is_visible : ℕ → Bool
is_visible b = within 33 126 b

-- "another is a letter, then letters, digits, `+`, `-`, `.`, then `:` and one or more bytes, all of 33 to 126"; 58 is `:`, and the first
-- one ends the name before it
unfoldable pub is_elsewhere : List ℕ → Bool
is_elsewhere v =
    let colon = run (other 58) v in
    is_letter (get_or v 0 0) && ltb (colon + 1) (length v) && all_of is_scheme (take colon v) && all_of is_visible v

-- the target rules give no refusal: their 14 becomes 25
abbrev pub accepted : Outcome Target → Bool
accepted (refused n) = false
accepted (gives t) = true

-- "A Location that begins with `/` is local and obeys the target rules; another is .."
abbrev pub is_location : List ℕ → Bool
is_location v = cond (is_local v) (accepted (target_of v)) (is_elsewhere v)

-- .. where there is a Location
abbrev pub location_right : Option Value → Bool
location_right None = true
location_right (Some v) = is_location v.bytes

-- "Content-Type and Location not empty", where they are there
abbrev pub filled : Option Value → Bool
filled None = true
filled (Some v) = not (is_nil v.bytes)
