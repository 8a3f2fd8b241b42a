-- A spool of any length, read through a window that holds some of its bytes.
-- Assumes nothing.
use Rattle.std.specs.Prelude.{ℕ, zero, suc, ◌-◌, ◌≤◌, ◌<◌, ◌≡◌, Bool, true, false, cond, List, [], ◌∷◌, ◌++◌, length, drop}
use Rattle.octets.specs.Copy.{over}
use Rattle.octets.specs.Refusal.{number_of}
use Rattle.framing.specs.Spool.{Ending, whole, cut, refused_by, full, Spool, ended, behind, total}
use Rattle.scgi.specs.Spool.{requests_of}
use Rattle.scgi.specs.declared.window.Next.{Next}
use Rattle.scgi.specs.declared.window.Next.TheVariants.{More, Again, Whole, Cut, Refused}
use Rattle.scgi.specs.declared.window.Turn.{Turn}

-- what comes after a turn: more input behind the bytes that are left, those bytes again, or an ending of the spool
pub data After : Type 0 where
  more : After
  again : After
  ends : Ending → After

-- what the code's answer says
abbrev pub next_as : Next → After
next_as More = more
next_as Again = again
next_as Whole = ends whole
next_as Cut = ends cut
next_as (Refused e) = ends (refused_by (number_of e))

-- what comes after an ending, where the flag says that the input has no more: an ending of the spool, or a window that goes on
abbrev pub next_of : Bool → Ending → After
next_of is_end whole = cond is_end (ends whole) more
next_of is_end cut = cond is_end (ends cut) more
next_of is_end (refused_by n) = ends (refused_by n)
next_of is_end full = again

-- the most bytes of a request: five digits, a colon, 16,384 bytes of block, a comma, 1,048,576 bytes of body
abbrev pub largest : ℕ
largest = 1064967

-- a turn over the held bytes is the spool call over them; where it asks for more input, fewer bytes than the largest request has are left over,
-- so a window of that size has room for a byte more
pub record TurnDone (held : List ℕ) (is_end : Bool) (before after : List ℕ) (r : Turn) : Type 0 where
  pub count : r.count ≡ length (requests_of held (length before)).lengths
  pub taken : r.taken ≡ total (requests_of held (length before)).lengths
  pub next : next_as r.next ≡ next_of is_end (requests_of held (length before)).ending
  pub list : after ≡ over before 0 (requests_of held (length before)).lengths
  pub few : r.count ≤ length before
  pub inside : r.taken ≤ length held
  pub room : r.next ≡ More → length held - r.taken < largest

-- What the program does turn by turn, for the claim that the cuts between its reads don't matter. Between two turns it knows whether the input
-- has ended, holds bytes, and has reads to come, each of a byte or more: a read of none says that the input has ended.
abbrev pub Turns : Type 0
Turns = Bool → List ℕ → List (List ℕ) → Spool

-- where a turn asks for more: the next read goes behind the bytes that are left; where there is none, the input has ended
abbrev pub read_more : Turns → List ℕ → List (List ℕ) → Spool
read_more turns left [] = turns true left []
read_more turns left (r ∷ reads) = turns false (left ++ r) reads

-- what is done after a turn
abbrev pub after_turn : Turns → Bool → List ℕ → List (List ℕ) → After → Spool
after_turn turns is_end left reads more = read_more turns left reads
after_turn turns is_end left reads again = turns is_end left reads
after_turn turns is_end left reads (ends e) = ended e

-- k turns at most, each with an empty list that has room for so many lengths: a turn's lengths stand before those of the turns after it, which
-- go on with the bytes that it did not take
unfoldable pub turns_in : ℕ → ℕ → Turns
turns_in zero room is_end held reads = ended full
turns_in (suc k) room is_end held reads =
    behind (requests_of held room).lengths
    (after_turn (turns_in k room) is_end (drop (total (requests_of held room).lengths) held) reads
    (next_of is_end (requests_of held room).ending))

-- nothing is held before the first turn
abbrev pub through_window : ℕ → ℕ → List (List ℕ) → Spool
through_window k room reads = turns_in k room false [] reads
