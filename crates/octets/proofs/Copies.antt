-- Laws of writing over a buffer: byte after byte, piece after piece, and from the last byte down.
-- Assumes nothing.
use mathlib.Core.Path.{◌≡◌, refl, sym, ap, ◌∙◌}
use mathlib.Core.List.{List, [], ◌∷◌, ◌++◌, append_assoc, append-nil}
use Prim.Native.Nat.{ℕ, suc, ◌+◌, ◌-◌, ◌≤◌, ◌<◌}
use native.Mathlib.Nat.{add_assoc, add-zero}
use native.Mathlib.Numerals.{add-one}
use native.Mathlib.Omega.{arith}
use lib.ListN.{length, take, drop, set, get_or, length-append, length-take, length-drop, length-set, take-append-drop, drop_of_length-le}
use lib.Seq.{take_at, drop_at, drop-drop, paste, take-add, take-length, take-suc, get_or-drop, get_or-append-add, set_split, take-set-le}
use Rattle.octets.specs.Copy.{over, Wrote}
use Rattle.octets.proofs.Lists.{from}

-- a loop that stores byte after byte: `paste d at s i` is d with the first i bytes of s over it
pub whole : (d : List ℕ) (at : ℕ) (s : List ℕ) → paste d at s (length s) ≡ over d at s
unfolding over
whole d at s = simp (append_assoc, take-length)

-- what stands in d after a write of p to `d[at..at + length p]`
pub written : (d : List ℕ) (at : ℕ) (p : List ℕ) → take at d ++ (p ++ drop (at + length p - at) (drop at d)) ≡ over d at p
unfolding over
written d at p =
    let e : at + (at + length p - at) ≡ at + length p = omega arith in
    rw (drop-drop, e)

-- one byte
pub one_byte : (d : List ℕ) (at b : ℕ) → at < length d → set d at b ≡ over d at (b ∷ [])
unfolding over
one_byte d at b h = set_split d at b h ∙ simp add-one

-- the last byte of a piece may be written first
pub last-first :
    (d : List ℕ) (at : ℕ) (p : List ℕ) (b : ℕ) → at + length p < length d
    → over d at (p ++ b ∷ []) ≡ over (set d (at + length p) b) at p
unfolding over
last-first d at p b h =
    let behind : drop (at + length p) (set d (at + length p) b) ≡ b ∷ drop (suc (at + length p)) d =
    rw (set_split d (at + length p) b h) (drop_at (take (at + length p) d) _ (at + length p) (simp length-take (omega arith))) in
    let end : at + (length p + 1) ≡ suc (at + length p) = omega arith in
    sym (rw (take-set-le at d (at + length p) b (omega arith), behind) (simp (append_assoc, length-append, end)))

module _ (d : List ℕ) (at : ℕ) (p : List ℕ) (room : at + length p ≤ length d) where
  pub length_over : length (over d at p) ≡ length d
  unfolding over
  length_over = simp (length-append, length-take, length-drop) (omega arith)

  head-length : length (take at d ++ p) ≡ at + length p
  head-length = simp (length-append, length-take) (omega arith)

  split : over d at p ≡ (take at d ++ p) ++ drop (at + length p) d
  unfolding over
  split = sym (append_assoc (take at d) p (drop (at + length p) d))

  pub before : take (at + length p) (over d at p) ≡ take at d ++ p
  before = rw split (take_at (take at d ++ p) (drop (at + length p) d) (at + length p) head-length)

  after : (n : ℕ) → drop (at + length p + n) (over d at p) ≡ drop (at + length p + n) d
  after n =
      rw split
      (sym (drop-drop n (at + length p) ((take at d ++ p) ++ drop (at + length p) d))
      ∙ ap (drop n) (drop_at (take at d ++ p) (drop (at + length p) d) (at + length p) head-length)
      ∙ drop-drop n (at + length p) d)

  opened :
      (q : List ℕ)
      → over (over d at p) (at + length p) q
      ≡ take (at + length p) (over d at p) ++ (q ++ drop (at + length p + length q) (over d at p))
  unfolding over
  opened q = refl

  closed : (q : List ℕ) → (take at d ++ p) ++ (q ++ drop (at + length p + length q) d) ≡ over d at (p ++ q)
  unfolding over
  closed q = simp (append_assoc, length-append, add_assoc)

  -- one piece after another is one piece
  pub over-over : (q : List ℕ) → over (over d at p) (at + length p) q ≡ over d at (p ++ q)
  over-over q = opened q ∙ rw (before, after (length q)) (closed q)

-- one number more, behind what is written
pub store-last : (d : List ℕ) (at : ℕ) (p : List ℕ) (x : ℕ) → at + length p < length d → set (over d at p) (at + length p) x ≡ over d at (p ++ x ∷ [])
store-last d at p x h =
    let l : length (over d at p) ≡ length d = length_over d at p (omega arith) in
    one_byte (over d at p) (at + length p) x (omega arith) ∙ over-over d at p (omega arith) (x ∷ [])

-- nothing written
pub over-nil : (d : List ℕ) (at : ℕ) → over d at [] ≡ d
unfolding over
over-nil d at = rw (add-zero at) (take-append-drop at d)

-- one write after another: what a row of writes has done
pub and_then :
    {d : List ℕ} {at : ℕ} {p d' : List ℕ} {r : ℕ} → Wrote d at p d' r → at + length p ≤ length d → (q d'' : List ℕ) (r' : ℕ)
    → Wrote d' r q d'' r' → Wrote d at (p ++ q) d'' r'
and_then {d} {at} {p} w room q d'' r' e =
    record {
      ends = simp length-append (omega (arith, w.ends, e.ends));
      holds = e.holds ∙ rw (w.holds, w.ends) (over-over d at p room q);
    }

-- a list written chunk after chunk: its first i bytes are written, then n more, or all the rest
module _ {d : List ℕ} {at : ℕ} (s : List ℕ) (i : ℕ) {d' : List ℕ} (w : Wrote d at (take i s) d' (at + i)) (room : at + length s ≤ length d) (d'' : List ℕ) (r : ℕ) where
  pub chunk-then : (n : ℕ) → i + n ≤ length s → Wrote d' (at + i) (take n (drop i s)) d'' r → Wrote d at (take (i + n) s) d'' (at + (i + n))
  chunk-then n h e =
      let l : length (take i s) ≡ i = simp length-take (omega arith) in
      record {
        ends = simp length-take (omega arith);
        holds = rw (take-add i n s) (and_then w (omega (arith, l)) (take n (drop i s)) d'' r e).holds;
      }

  pub rest_then : i ≤ length s → Wrote d' (at + i) (take (length s - i) (drop i s)) d'' r → Wrote d at s d'' r
  rest_then h e =
      let l : length (take i s) ≡ i = simp length-take (omega arith) in
      rw (from s i, take-append-drop i s) at (and_then w (omega (arith, l)) (take (length s - i) (drop i s)) d'' r e)

-- a list written over the whole of a buffer
pub over-all : (d p : List ℕ) → length p ≡ length d → over d 0 p ≡ p
unfolding over
over-all d p h =
    let n : length d ≤ 0 + length p = omega arith in
    rw (drop_of_length-le d n) (append-nil p)

-- a list written to the front of a buffer is the front of that
pub front-is : (d p : List ℕ) {d' : List ℕ} {r : ℕ} → length p ≤ length d → Wrote d 0 p d' r → take r d' ≡ p
front-is d p h w = rw (w.ends, w.holds) (before d 0 p (omega arith))

-- .. and ends in it
pub front-inside : (d p : List ℕ) {d' : List ℕ} {r : ℕ} → length p ≤ length d → Wrote d 0 p d' r → r ≤ length d'
front-inside d p h w = omega (arith, w.ends, ap length w.holds, length_over d 0 p (omega arith))

-- Moving bytes to the front.

behind-front : (d p : List ℕ) (j : ℕ) → length p ≤ j → get_or (over d 0 p) j 0 ≡ get_or d j 0
unfolding over
behind-front d p j h =
    let e : length p + (j - length p) ≡ j = omega arith in
    let z : 0 + length p + (j - length p) ≡ j = omega arith in
    rw (← e) (get_or-append-add p (drop (0 + length p) d) (j - length p) 0 ∙ get_or-drop (0 + length p) d (j - length p) 0 ∙ rw z (ap (λ (k : ℕ). get_or d k 0) (sym e)))

-- the byte at from + i, moved to i
pub moved-next :
    (d : List ℕ) (from i : ℕ) → from + i < length d
    → set (over d 0 (take i (drop from d))) i (get_or (over d 0 (take i (drop from d))) (from + i) 0) ≡ over d 0 (take (i + 1) (drop from d))
moved-next d from i h =
    let l : length (take i (drop from d)) ≡ i = simp (length-take, length-drop) (omega arith) in
    let b : get_or (over d 0 (take i (drop from d))) (from + i) 0 ≡ get_or d (from + i) 0 = behind-front d (take i (drop from d)) (from + i) (omega arith) in
    let s : take (i + 1) (drop from d) ≡ take i (drop from d) ++ get_or d (from + i) 0 ∷ [] =
    rw add-one (take-suc (drop from d) i 0 (simp length-drop (omega arith)) ∙ rw (get_or-drop from d i 0)) in
    let z : 0 + length (take i (drop from d)) ≡ i = omega arith in
    rw (b, s) (ap (λ (k : ℕ). set (over d 0 (take i (drop from d))) k (get_or d (from + i) 0)) (sym z) ∙ store-last d 0 (take i (drop from d)) (get_or d (from + i) 0) (omega arith))

-- a front that stays where it is
pub front-stays : (d : List ℕ) (n : ℕ) → n ≤ length d → d ≡ over d 0 (take n d)
unfolding over
front-stays d n h =
    let l : 0 + length (take n d) ≡ n = simp length-take (omega arith) in
    rw l (sym (take-append-drop n d))

-- the first byte of a piece, and then the rest
pub first_then : (d : List ℕ) (at b : ℕ) (p : List ℕ) → at < length d → over d at (b ∷ p) ≡ over (set d at b) (at + 1) p
first_then d at b p h = sym (rw (one_byte d at b h) (over-over d at (b ∷ []) (omega arith) p))

-- the first two, and then the rest
pub two-stored :
    (d : List ℕ) (at x y : ℕ) (rest : List ℕ) → at + 2 + length rest ≤ length d
    → over (set (set d at x) (at + 1) y) (at + 2) rest ≡ over d at (x ∷ (y ∷ rest))
two-stored d at x y rest room =
    let e : at + 1 + 1 ≡ at + 2 = omega arith in
    let one : over d at (x ∷ (y ∷ rest)) ≡ over (set d at x) (at + 1) (y ∷ rest) = first_then d at x (y ∷ rest) (omega arith) in
    let two : over (set d at x) (at + 1) (y ∷ rest) ≡ over (set (set d at x) (at + 1) y) (at + 1 + 1) rest =
    first_then (set d at x) (at + 1) y rest (simp length-set (omega arith)) in
    sym (one ∙ two ∙ ap (λ (k : ℕ). over (set (set d at x) (at + 1) y) k rest) e)

-- what stands behind a piece is as it was
pub over-rest :
    (d : List ℕ) (at : ℕ) (p : List ℕ) → at + length p ≤ length d → (n : ℕ) → at + length p ≤ n → drop n (over d at p) ≡ drop n d
over-rest d at p room n h =
    let e : at + length p + (n - (at + length p)) ≡ n = omega arith in
    ap (λ (m : ℕ). drop m (over d at p)) (sym e) ∙ after d at p room (n - (at + length p)) ∙ ap (λ (m : ℕ). drop m d) e

-- Bytes written twice.

-- what stands before a piece is as it was
pub over-front : (d : List ℕ) (at : ℕ) (p : List ℕ) → at ≤ length d → take at (over d at p) ≡ take at d
unfolding over
over-front d at p h = take_at (take at d) (p ++ drop (at + length p) d) at (simp length-take (omega arith))

-- a piece over another that is not longer
over-twice :
    (d : List ℕ) (at : ℕ) (p q : List ℕ) → length p ≤ length q → at + length q ≤ length d → over (over d at p) at q ≡ over d at q
unfolding over
over-twice d at p q h room =
    ap (λ (t : List ℕ). t ++ (q ++ drop (at + length q) (over d at p))) (over-front d at p (omega arith))
    ∙ ap (λ (t : List ℕ). take at d ++ (q ++ t)) (over-rest d at p (omega arith) (at + length q) (omega arith))

-- the first j bytes of a list, and then all from a place i on that is not behind them
pub over-again :
    (d : List ℕ) (at : ℕ) (s : List ℕ) (i j : ℕ) → i ≤ j → j ≤ length s → at + length s ≤ length d
    → over (over d at (take j s)) (at + i) (drop i s) ≡ over d at s
over-again d at s i j h l room =
    let n : length (take i s) ≡ i = simp length-take (omega arith) in
    let m : length (take (j - i) (drop i s)) ≡ j - i = simp (length-take, length-drop) (omega arith) in
    let k : length (drop i s) ≡ length s - i = length-drop i s in
    let e : i + (j - i) ≡ j = omega arith in
    let parted : take j s ≡ take i s ++ take (j - i) (drop i s) = ap (λ (x : ℕ). take x s) (sym e) ∙ take-add i (j - i) s in
    let d₁ = over d at (take i s) in
    let q : length d₁ ≡ length d = length_over d at (take i s) (omega arith) in
    let first : over d at (take j s) ≡ over d₁ (at + i) (take (j - i) (drop i s)) =
    rw parted (sym (over-over d at (take i s) (omega arith) (take (j - i) (drop i s))) ∙ rw n) in
    rw first
    (over-twice d₁ (at + i) (take (j - i) (drop i s)) (drop i s) (omega arith) (omega arith)
    ∙ ap (λ (x : ℕ). over d₁ (at + x) (drop i s)) (sym n) ∙ over-over d at (take i s) (omega arith) (drop i s) ∙ ap (over d at) (take-append-drop i s))

-- the same of writes
pub and_again :
    {d : List ℕ} {at : ℕ} {s d' : List ℕ} {r : ℕ} (i j : ℕ) → Wrote d at (take j s) d' r → i ≤ j → j ≤ length s
    → at + length s ≤ length d → (d'' : List ℕ) (r' : ℕ) → Wrote d' (at + i) (drop i s) d'' r' → Wrote d at s d'' r'
and_again {d} {at} {s} i j w h l room d'' r' e =
    record {
      ends = simp length-drop at e.ends ∙ omega arith;
      holds = e.holds ∙ rw w.holds (over-again d at s i j h l room);
    }
