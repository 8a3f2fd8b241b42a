-- A block: its headers, how they are written, and how they are parted again.
-- Assumes nothing.
use Rattle.std.specs.Prelude.{ℕ, ◌+◌, ◌-◌, ◌<◌, ◌≡◌, Bool, true, false, cond, not, ◌&&◌, List, [], ◌∷◌, ◌++◌, map, eqb, ltb, length, take, drop, Option, None, Some, Result}
use Rattle.octets.specs.Outcome.{Outcome, refused, gives, then, need, given}
use Rattle.octets.specs.Lists.{NoNul, is_nil}
use Rattle.octets.specs.Parts.{parted}
use Rattle.octets.specs.Scan.{run, other}
use Rattle.octets.specs.Refusal.{outcome}
use Rattle.octets.specs.declared.refusal.Refusal.{Refusal}
use Rattle.headers.specs.declared.block.HeaderPlace.{HeaderPlace}

-- "name, NUL, value, NUL"
pub record Header : Type 0 where
  pub name : List ℕ
  pub value : List ℕ

-- "names are not empty, values may be". Source document 001: "name ::= notnull+, value ::= notnull*"
pub record Proper (h : Header) : Type 0 where
  pub named : is_nil h.name ≡ false
  pub name_bytes : NoNul h.name
  pub value_bytes : NoNul h.value

-- x is one of the headers
pub data Among (x : Header) : List Header → Type 0 where
  here : {hs : List Header} → Among x (x ∷ hs)
  later : {h : Header} {hs : List Header} → Among x hs → Among x (h ∷ hs)

-- the names, in the block's order
abbrev pub names : List Header → List (List ℕ)
names hs = map (λ h. h.name) hs

-- the block of the headers. Source document 001: "headers ::= header*, header ::= name NUL value NUL"
unfoldable pub printed : List Header → List ℕ
printed [] = []
printed (h ∷ hs) = h.name ++ 0 ∷ (h.value ++ 0 ∷ printed hs)

-- a header before those that follow it, if they are headers
abbrev pub with : Header → Option (List Header) → Option (List Header)
with h None = None
with h (Some hs) = Some (h ∷ hs)

-- what NULs part, taken two by two, nothing after the last NUL: "names are not empty, values may be"
unfoldable pub paired : List ℕ → List (List ℕ) → Option (List Header)
paired f [] = cond (is_nil f) (Some []) None
paired n (v ∷ []) = None
paired n (v ∷ (f ∷ fs)) = cond (is_nil n) None (with (record { name = n; value = v }) (paired f fs))

-- the headers of a block, or none where it is malformed: "A block is zero or more of: name, NUL, value, NUL"
abbrev pub headers_of : List ℕ → Option (List Header)
headers_of s = paired (parted 0 s).first (parted 0 s).others

-- 5: "block malformed"
abbrev pub parsed : List ℕ → Outcome (List Header)
parsed s = given (headers_of s) 5

abbrev pub is_some : Option (List Header) → Bool
is_some None = false
is_some (Some hs) = true

abbrev pub well_formed : List ℕ → Bool
well_formed s = is_some (headers_of s)

-- For code that goes from header to header.

-- the place of the first NUL of b from i on, or the end of b where there is none
abbrev pub nul_from : List ℕ → ℕ → ℕ
nul_from b i = i + run (other 0) (drop i b)

-- the header at i of b: its name ends at the first NUL, its value at the next. 5 where the name is empty or one of the NULs is missing
unfoldable pub header_ends : List ℕ → ℕ → Outcome HeaderPlace
header_ends b i =
    need (not (eqb (nul_from b i) i) && ltb (nul_from b i) (length b)) 5
    (need (ltb (nul_from b (nul_from b i + 1)) (length b)) 5
    (gives (record { name_end = nul_from b i; value_end = nul_from b (nul_from b i + 1) })))

-- what the code's answer says
abbrev pub header_outcome : Result HeaderPlace Refusal → Outcome HeaderPlace
header_outcome = outcome (λ h. h)

-- the header at i of b whose name ends at n and whose value at v
abbrev pub header_in : List ℕ → ℕ → ℕ → ℕ → Header
header_in b i n v = record { name = take (n - i) (drop i b); value = take (v - (n + 1)) (drop (n + 1) b) }

-- the headers from i on, by the ends of the first of them
abbrev pub headers_by : List ℕ → ℕ → Outcome HeaderPlace → Outcome (List Header)
headers_by b i (gives e) = then (parsed (drop (e.value_end + 1) b)) (λ hs. gives (header_in b i e.name_end e.value_end ∷ hs))
headers_by b i (refused k) = refused k

abbrev pub InOrder : List ℕ → ℕ → Outcome HeaderPlace → Type 0
InOrder b i (gives e) = (i < e.name_end) × (e.name_end < e.value_end) × (e.value_end < length b)
InOrder b i (refused k) = Unit {0}

-- .. and where these ends lie
pub record HeaderFound (b : List ℕ) (i : ℕ) (o : Outcome HeaderPlace) : Type 0 where
  pub answer : headers_by b i o ≡ parsed (drop i b)
  pub order : InOrder b i o

-- how many headers a block has
abbrev pub count_of : List ℕ → Outcome ℕ
count_of b = then (parsed b) (λ hs. gives (length hs))

abbrev pub count_outcome : Result ℕ Refusal → Outcome ℕ
count_outcome = outcome (λ n. n)
