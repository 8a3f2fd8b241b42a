-- Which numbers each step can give.
-- Assumes nothing.
use Prim.Native.Nat.{ℕ}
use mathlib.Core.Path.{refl}
use mathlib.Core.Bool.{Bool, true, false, cond}
use mathlib.Core.List.{List, [], ◌∷◌}
use lib.Dec.{leb}
use lib.ListN.{length, take}
use Rattle.octets.specs.Outcome.{given}
use Rattle.octets.specs.Parts.{parted}
use Rattle.octets.proofs.Refusals.{Refuses, with_number, not_refused, number-of, only-number, refuses-then, refuses-need, refuses-given}
use Rattle.http_head.specs.Head.{end_from, head_of}
use Rattle.http_head.specs.RequestLine.{is_method, is_version, is_served, version_of, three_parts, request_line_of}
use Rattle.http_head.specs.Fields.{fields_in}
use Rattle.http_head.specs.Claims.{NumbersHold}

head-numbers : (s : List ℕ) → Refuses (1 ∷ 11 ∷ []) (head_of s)
unfolding head_of
head-numbers s = by (leb 8192 (length s))
  where
    by : (t : Bool) → Refuses (1 ∷ 11 ∷ []) (given (end_from 0 (take 8192 s)) (cond t 11 1))
    by true = refuses-given (end_from 0 (take 8192 s)) 11 refl
    by false = refuses-given (end_from 0 (take 8192 s)) 1 refl

line-numbers : (line : List ℕ) → Refuses (12 ∷ 13 ∷ []) (request_line_of line)
unfolding request_line_of version_of
line-numbers line = by (parted 32 line).first (parted 32 line).others
  where
    by : (m : List ℕ) (os : List (List ℕ)) → Refuses (12 ∷ 13 ∷ []) (three_parts m os)
    by m [] = with_number refl
    by m (t ∷ []) = with_number refl
    by m (t ∷ (v ∷ [])) =
        refuses-need (is_method m) 12 refl
        (refuses-then (refuses-need (is_version v) 12 refl (refuses-need (is_served v) 13 refl not_refused)) (λ w. not_refused))
    by m (t ∷ (v ∷ (x ∷ xs))) = with_number refl

pub numbers-hold : NumbersHold
numbers-hold =
    record {
      head = λ s n. number-of n (head-numbers s);
      line = λ line n. number-of n (line-numbers line);
      fields = λ rule lines n. only-number n 15 (refuses-given (fields_in 64 rule lines) 15 refl);
    }
