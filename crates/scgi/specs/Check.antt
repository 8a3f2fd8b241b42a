-- What is asked of a whole block, by the reader and by the writer.
-- Assumes nothing.
use Rattle.std.specs.Prelude.{Result, ℕ, Bool, false, ◌&&◌, ◌||◌, List, [], ◌∷◌, leb, length}
use Rattle.octets.specs.Text.{bytes}
use Rattle.octets.specs.Outcome.{Outcome, refused, gives, then, need, given}
use Rattle.octets.specs.Refusal.{outcome}
use Rattle.octets.specs.declared.refusal.Refusal.{Refusal}
use Rattle.octets.specs.Compare.{same_bytes}
use Rattle.octets.specs.Lists.{different}
use Rattle.octets.specs.Decimal.{number_of}
use Rattle.headers.specs.Block.{Header, names, parsed}
use Rattle.scgi.specs.Grammar.{scgi1}

-- the body length that the first header states; 8: "first header is not CONTENT_LENGTH with one or more digits", and 02 §2: "at most 10
-- digits: a longer one is 8 in SCGI"
abbrev pub stated_by : List Header → Outcome ℕ
stated_by [] = refused 8
stated_by (h ∷ hs) = need (same_bytes h.name (bytes "CONTENT_LENGTH")) 8 (given (number_of h.value) 8)

-- one of the headers is x, its name and its value; 10: "no header SCGI with value `1`"
unfoldable pub has : Header → List Header → Bool
has x [] = false
has x (h ∷ hs) = (same_bytes h.name x.name && same_bytes h.value x.value) || has x hs

-- "over the whole block 5, 6, 7, 8, 9, 10 in turn"; gives the stated body length. 5: "block malformed"; 6: "more than 128 headers"; 7: "two
-- headers with equal names"; 9: "stated body length above 1,048,576"
unfoldable pub check_block : List ℕ → Outcome ℕ
check_block block =
    then (parsed block) (λ hs.
    need (leb (length hs) 128) 6
    (need (different (names hs)) 7
    (then (stated_by hs) (λ n.
    need (leb n 1048576) 9
    (need (has scgi1 hs) 10 (gives n))))))

-- For the steps of the code, each over the whole block.

-- the stated body length
abbrev pub stated_in : List ℕ → Outcome ℕ
stated_in block = then (parsed block) stated_by

abbrev pub has_scgi : List ℕ → Outcome Bool
has_scgi block = then (parsed block) (λ hs. gives (has scgi1 hs))

-- 8, 9, 10 in turn: what is asked after the names
abbrev pub rest_of : List ℕ → Outcome ℕ
rest_of block = then (parsed block) (λ hs. then (stated_by hs) (λ n. need (leb n 1048576) 9 (need (has scgi1 hs) 10 (gives n))))

-- what the code's answer says
abbrev pub checked_outcome : Result ℕ Refusal → Outcome ℕ
checked_outcome = outcome (λ n. n)
