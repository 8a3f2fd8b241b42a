-- A mount's value: its pool and its limit. 02 §13: "A mount's value may now be pool, `;`, limit".
-- Assumes nothing.
use Rattle.std.specs.Prelude.{ℕ, not, List, [], ◌∷◌, leb, length, Option}
use Rattle.octets.specs.Outcome.{Outcome, refused, gives, then, need, given}
use Rattle.octets.specs.Lists.{is_nil}
use Rattle.octets.specs.Parts.{parted}
use Rattle.octets.specs.Decimal.{number_of}
use Rattle.mounts.specs.declared.value.Value.{Value}

-- what stands before the first `;`, which is 59
abbrev pub pool_of : List ℕ → List ℕ
pool_of v = (parted 59 v).first

-- by what stands behind each `;`: "a limit of 0 to 1,048,576 under §2's digit rule; without `;` the old limit holds"; "a second `;` or a
-- bad limit is 20"
abbrev pub limit_by : List (List ℕ) → Outcome ℕ
limit_by [] = gives 1048576
limit_by (t ∷ []) = then (given (number_of t) 20) (λ n. need (leb n 1048576) 20 (gives n))
limit_by (t ∷ (u ∷ ts)) = refused 20

abbrev pub limit_of : List ℕ → Outcome ℕ
limit_of v = limit_by (parted 59 v).others

-- how long the pool is, which stands at the value's start, and the limit. "An empty pool, a second `;` or a bad limit is 20"
unfoldable pub value_of : List ℕ → Outcome Value
value_of v =
    need (not (is_nil (pool_of v))) 20
    (then (limit_of v) (λ n.
    gives (record { len = length (pool_of v); limit = n })))

-- what the code's answer says
abbrev pub value_outcome : Option Value → Outcome Value
value_outcome v = given v 20
