-- Laws of paths: what is read of a path whose decoded form is written to the buffer, and of one without escapes.
-- Assumes nothing.
use Prim.Native.Nat.{ℕ, ◌+◌, ◌≤◌, ◌<◌}
use Prim.{absurd}
use mathlib.Core.Path.{◌≡◌, refl, sym, ap, ◌∙◌}
use mathlib.Core.Bool.{Bool, true, false, false≢true, not, ◌||◌}
use mathlib.Core.List.{List, [], ◌∷◌}
use native.Mathlib.Nat.{zero-add}
use native.Mathlib.Omega.{arith}
use lib.Dec.{eqb, leb}
use lib.ListN.{length, take}
use Rattle.std.proofs.Common.{Ok, Err}
use borrow.Author.Tests.{eq-eqb, eqb-true, leb-true, not-true}
use Rattle.octets.specs.Kinds.{is_digit, is_letter, is_target}
use Rattle.octets.specs.Scan.{run, other, all_of, count}
use Rattle.octets.specs.Copy.{Wrote}
use Rattle.octets.specs.declared.refusal.Refusal.TheVariants as Because
use Rattle.octets.proofs.Bools.{and_left, and_right}
use Rattle.octets.proofs.ByteRules.{below}
use Rattle.octets.proofs.Scans.{all-same-run}
use Rattle.octets.proofs.Copies.{length_over}
use Rattle.octets.proofs.Copies as copies
use Rattle.targets.specs.Escape.{decoded_from, decoded}
use Rattle.targets.specs.Target.{is_plain, segments_right, decoded_right, PathRead}
use Rattle.targets.proofs.Escapes.{decoded-le}

-- The path p is decoded to the front of the buffer d; r is the length of what is written.

module _ (p d d' : List ℕ) (r : ℕ) (w : Wrote d 0 (decoded p) d' r) where
  front_length : r ≡ length (decoded p)
  front_length = w.ends ∙ zero-add (length (decoded p))

  pub front-short : r ≤ length p
  front-short = omega (arith, front_length, decoded-le 0 p)

  module _ (room : length p ≤ length d) where
    decoded-room : 0 + length (decoded p) ≤ length d
    decoded-room = omega (arith, decoded-le 0 p)

    pub front-inside : r ≤ length d'
    front-inside = omega (arith, front_length, decoded-room, ap length w.holds ∙ length_over d 0 (decoded p) decoded-room)

    pub front-judged : (n : ℕ) → n ≡ count 47 p → decoded_right (count 47 p) (decoded p) ≡ decoded_right n (take r d')
    front-judged n e = rw (e, w.holds, w.ends, copies.before d 0 (decoded p) decoded-room)

  pub path-refused : decoded_right (count 47 p) (decoded p) ≡ false → PathRead p d d' (Err Because.Target)
  path-refused q = record { answer = rw q; buffer = w.holds }

  pub path-accepted : decoded_right (count 47 p) (decoded p) ≡ true → PathRead p d d' (Ok (record { path_len = length p; decoded_len = r }))
  path-accepted q = record { answer = rw (q, front_length); buffer = w.holds }

-- A path without escapes.

pub no-escape : (p : List ℕ) (n : ℕ) → n ≡ 0 + run (other 37) p → n ≡ length p → all_of (other 37) p ≡ true
no-escape p n e h = all-same-run (other 37) p ∙ eq-eqb (run (other 37) p) (length p) (omega arith)

-- .. is its own decoded form
decoded-self : (p : List ℕ) → all_of (other 37) p ≡ true → decoded p ≡ p
unfolding decoded_from all_of
decoded-self [] e = refl
decoded-self (b ∷ p) e =
    simp (not-true (eqb b 37) (and_left (other 37 b) (all_of (other 37) p) e), decoded-self p (and_right (other 37 b) (all_of (other 37) p) e))

-- A target byte is no control byte.

not-below : (b : ℕ) → b < 32 → is_target b ≡ false
unfolding is_target is_letter is_digit
not-below b h = not-true _ (below (λ c. not (is_target c)) 32 refl b h)

not-delete : is_target 127 ≡ false
unfolding is_target is_letter is_digit
not-delete = refl

target-plain : (b : ℕ) → is_target b ≡ true → is_plain b ≡ true
target-plain b e = by (leb b 31) (eqb b 127) refl refl
  where
    by : (x y : Bool) → leb b 31 ≡ x → eqb b 127 ≡ y → not (x || y) ≡ true
    by true y l q = absurd (false≢true (sym (not-below b (omega (arith, leb-true b 31 l))) ∙ e))
    by false true l q = absurd (false≢true (sym not-delete ∙ ap is_target (sym (eqb-true b 127 q)) ∙ e))
    by false false l q = refl

all_plain : (p : List ℕ) → all_of is_target p ≡ true → all_of is_plain p ≡ true
unfolding all_of
all_plain [] e = refl
all_plain (b ∷ p) e =
    rw (target-plain b (and_left (is_target b) (all_of is_target p) e), all_plain p (and_right (is_target b) (all_of is_target p) e))

module _ (p : List ℕ) (bytes : all_of is_target p ≡ true) (none : all_of (other 37) p ≡ true) where
  pub plain-judged : decoded_right (count 47 p) (decoded p) ≡ segments_right p
  unfolding decoded_right
  plain-judged = rw (decoded-self p none, eq-eqb (count 47 p) (count 47 p) refl, all_plain p bytes)

  pub plain-written : (d d' : List ℕ) (r : ℕ) → Wrote d 0 p d' r → Wrote d 0 (decoded p) d' r
  plain-written d d' r w = rw (decoded-self p none) w
