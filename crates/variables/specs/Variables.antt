-- The variables of a request.
-- Assumes nothing.
use Rattle.std.specs.Prelude.{ℕ, cond, List, [], ◌∷◌, ◌++◌, map, eqb, length, Option, None, Some}
use Prim.Native.String.{String}
use Rattle.octets.specs.Text.{bytes}
use Rattle.octets.specs.Compare.{upper_of}
use Rattle.octets.specs.Decimal.{decimal}
use Rattle.headers.specs.Block.{Header}
use Rattle.http_head.specs.Fields.{Field}
use Rattle.targets.specs.Target.{query_of}
use Rattle.lent.specs.Settings.{Auth, Settings}
use Rattle.mounts.specs.Mounts.{Route}
use Rattle.variables.specs.Meaning.{Meaning}

-- a variable, and one in brackets: "a bracket meaning "if present""
abbrev pub always : String → List ℕ → Option Header
always n v = Some (record { name = bytes n; value = v })

abbrev pub if_present : String → Option (List ℕ) → Option Header
if_present n None = None
if_present n (Some v) = always n v

-- rows of variables; a row is none where its variable is not there
abbrev pub Rows : Type 0
Rows = List (Option Header)

abbrev pub present : Rows → List Header
present [] = []
present (None ∷ hs) = present hs
present (Some h ∷ hs) = h ∷ present hs

abbrev pub auth_type_of : Option Auth → Option (List ℕ)
auth_type_of None = None
auth_type_of (Some a) = Some a.auth_type

abbrev pub remote_user_of : Option Auth → Option (List ℕ)
remote_user_of None = None
remote_user_of (Some a) = Some a.remote_user

-- of a field name's byte: "letters to upper case, `-` to `_`", which are 45 and 95
abbrev pub variable_byte : ℕ → ℕ
variable_byte b = cond (eqb b 45) 95 (upper_of b)

-- the name of a field's variable
abbrev pub http_name : List ℕ → List ℕ
http_name n = bytes "HTTP_" ++ map variable_byte n

abbrev pub http_variable : Field → Header
http_variable f = record { name = http_name f.name; value = f.value }

-- "Variables, in this order": those before the fields, in the four groups in which they are written

-- of the body's length, who asks, and the body's type
abbrev pub content_rows : ℕ → Option Auth → Option (List ℕ) → Rows
content_rows size auth content_type =
    always "CONTENT_LENGTH" (decimal size)
    ∷ always "SCGI" (bytes "1")
    ∷ if_present "AUTH_TYPE" (auth_type_of auth)
    ∷ if_present "CONTENT_TYPE" content_type
    ∷ []

-- of the path behind the mount's name, the query and the address
abbrev pub path_rows : List ℕ → List ℕ → List ℕ → Rows
path_rows info query addr =
    always "GATEWAY_INTERFACE" (bytes "CGI/1.1")
    ∷ always "PATH_INFO" info
    ∷ always "QUERY_STRING" query
    ∷ always "REMOTE_ADDR" addr
    ∷ []

-- of who asks, the method and the target
abbrev pub request_rows : Option Auth → List ℕ → List ℕ → Rows
request_rows auth method target =
    if_present "REMOTE_USER" (remote_user_of auth)
    ∷ always "REQUEST_METHOD" method
    ∷ always "REQUEST_URI" target
    ∷ []

-- of the mount's name, and the server's name, port, version and software
abbrev pub server_rows : List ℕ → List ℕ → List ℕ → List ℕ → List ℕ → Rows
server_rows script name port version software =
    always "SCRIPT_NAME" script
    ∷ always "SERVER_NAME" name
    ∷ always "SERVER_PORT" port
    ∷ always "SERVER_PROTOCOL" version
    ∷ always "SERVER_SOFTWARE" software
    ∷ []

-- .. for a body of `size` bytes
unfoldable pub fixed : Settings → Route → Meaning → ℕ → List Header
fixed s r m size =
    present (
    content_rows size s.auth m.content_type
    ++ (path_rows r.path_info (query_of m.target) s.remote_addr
    ++ (request_rows s.auth m.method m.target
    ++ server_rows r.script_name s.server_name s.server_port m.version s.server_software)))

-- "Then one HTTP_ variable for each passed field name"
abbrev pub variables : Settings → Route → Meaning → List Header
variables s r m = fixed s r m (length m.body) ++ map http_variable m.fields
