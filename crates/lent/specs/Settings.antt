-- The values that the lent blocks give.
-- Assumes nothing.
use Rattle.std.specs.Prelude.{ℕ, Bool, false, not, ◌&&◌, List, [], ◌∷◌, leb, Option, None, Some}
use Rattle.octets.specs.Text.{bytes}
use Rattle.octets.specs.Outcome.{Outcome, refused, gives, then, need, given}
use Rattle.octets.specs.Lists.{is_nil}
use Rattle.octets.specs.Decimal.{number_of}
use Rattle.headers.specs.Block.{Header}
use Rattle.headers.specs.Lookup.{value_in}
use Rattle.mounts.specs.Mounts.{begins}

-- AUTH_TYPE and REMOTE_USER: "the other two both there and not empty, or both absent"
pub record Auth : Type 0 where
  pub auth_type : List ℕ
  pub remote_user : List ℕ

pub record Settings : Type 0 where
  pub auth : Option Auth
  pub remote_addr : List ℕ
  pub server_name : List ℕ
  pub server_port : List ℕ
  pub server_software : List ℕ

-- "must be there and not empty"; "Any breach of this section is 20"
abbrev pub filled : Option (List ℕ) → Outcome (List ℕ)
filled v = then (given v 20) (λ w. need (not (is_nil w)) 20 (gives w))

-- the value of the first block that has the name, be it empty
abbrev pub or_in : Option (List ℕ) → Option (List ℕ) → Option (List ℕ)
or_in (Some v) site = Some v
or_in None site = site

-- "sought in the connection facts, then in the site settings"; "must be found and not empty"
abbrev pub sought : List ℕ → List Header → List Header → Outcome (List ℕ)
sought name facts site = filled (or_in (value_in name facts) (value_in name site))

-- "1 to 65535"
abbrev pub port_number : Option ℕ → Bool
port_number None = false
port_number (Some n) = leb 1 n && leb n 65535

-- "the port is 1 to 65535 in digits without a leading zero"; 02 §2: "a longer one is .. 20 in the port". The digit 0 is 48
abbrev pub is_port : List ℕ → Bool
is_port v = not (begins (48 ∷ []) v) && port_number (number_of v)

abbrev pub port_in : List Header → List Header → Outcome (List ℕ)
port_in facts site = then (sought (bytes "SERVER_PORT") facts site) (λ port. need (is_port port) 20 (gives port))

-- "both there and not empty, or both absent"
abbrev pub auth_of : Option (List ℕ) → Option (List ℕ) → Outcome (Option Auth)
auth_of None None = gives None
auth_of None (Some u) = refused 20
auth_of (Some t) u =
    then (filled (Some t)) (λ a. then (filled u) (λ r. gives (Some (record { auth_type = a; remote_user = r }))))

-- of the connection facts and the site settings. "REMOTE_ADDR, AUTH_TYPE and REMOTE_USER come from the connection facts only"
unfoldable pub settings_of : List Header → List Header → Outcome Settings
settings_of facts site =
    then (sought (bytes "SERVER_NAME") facts site) (λ name.
    then (port_in facts site) (λ port.
    then (sought (bytes "SERVER_SOFTWARE") facts site) (λ software.
    then (filled (value_in (bytes "REMOTE_ADDR") facts)) (λ addr.
    then (auth_of (value_in (bytes "AUTH_TYPE") facts) (value_in (bytes "REMOTE_USER") facts)) (λ auth.
    gives (record { auth = auth; remote_addr = addr; server_name = name; server_port = port; server_software = software }))))))
