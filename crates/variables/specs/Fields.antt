-- The fields of a request: which are passed, and the values of one name joined.
-- Assumes nothing.
use Rattle.std.specs.Prelude.{ℕ, cond, List, [], ◌∷◌, ◌++◌}
use Rattle.octets.specs.Text.{bytes}
use Rattle.octets.specs.Compare.{same_bytes}
use Rattle.octets.specs.Lists.{is_in}
use Rattle.http_head.specs.Fields.{Field}
use Rattle.request.specs.Named.{lowered}

-- "Not passed: Authorization, Proxy-Authorization, Proxy, Connection, Keep-Alive, Content-Length, Content-Type."
abbrev pub not_passed : List (List ℕ)
not_passed =
    bytes "authorization"
    ∷ bytes "proxy-authorization"
    ∷ bytes "proxy"
    ∷ bytes "connection"
    ∷ bytes "keep-alive"
    ∷ bytes "content-length"
    ∷ bytes "content-type"
    ∷ []

-- the passed ones of fields with lower-case names
unfoldable pub passed : List Field → List Field
passed [] = []
passed (f ∷ fs) = cond (is_in f.name not_passed) (passed fs) (f ∷ passed fs)

-- what stands between two values of the name n: "joined in order with a comma and a space"; 02 §4: "Cookie values are joined with a
-- semicolon and a space; every other field as before"
unfoldable pub separator : List ℕ → List ℕ
separator n = cond (same_bytes n (bytes "cookie")) (bytes "; ") (bytes ", ")

-- what the fields fs, that stand after a field of the name n, add to its value
unfoldable pub added_by : List Field → List ℕ → List ℕ
added_by [] n = []
added_by (f ∷ fs) n = cond (same_bytes f.name n) (separator n ++ (f.value ++ added_by fs n)) (added_by fs n)

-- a field with what those after it add: "Values of one name are joined in order"
abbrev pub joined : Field → List Field → Field
joined f fs = record { name = f.name; value = f.value ++ added_by fs f.name }

-- one field for each name, "ordered by first appearance"; seen are the names that stand before
unfoldable pub grouped : List (List ℕ) → List Field → List Field
grouped seen [] = []
grouped seen (f ∷ fs) =
    let rest = grouped (f.name ∷ seen) fs in
    cond (is_in f.name seen) rest (joined f fs ∷ rest)

-- "the passed fields as a list of lower-case name and joined value by first appearance"
abbrev pub grouped_of : List Field → List Field
grouped_of fs = grouped [] (passed (lowered fs))
