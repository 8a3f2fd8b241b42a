-- Writes one after the other.
-- Assumes nothing.
use Prim.Native.Nat.{ℕ, ◌+◌, ◌≤◌}
use mathlib.Core.Path.{◌≡◌, refl, sym, ap, ◌∙◌}
use mathlib.Core.List.{List, [], ◌∷◌, ◌++◌, append_assoc, append-nil}
use native.Mathlib.Nat.{add-zero}
use native.Mathlib.Omega.{arith}
use lib.ListN.{length, length-append}
use Rattle.octets.specs.Copy.{Wrote}
use Rattle.octets.proofs.Copies
use Rattle.octets.proofs.Copies.{length_over, over-nil}
use Rattle.headers.specs.Block.{Header, printed}
use Rattle.variables.specs.Put.{variable}
use Rattle.variables.specs.declared.writer.Writer.{Writer}
use Rattle.variables.specs.Writer.{Fits, Appended}
use Rattle.variables.proofs.FixedVariables.{print-one, print-last}

-- nothing written
pub wrote_none : (d : List ℕ) (at : ℕ) → Wrote d at [] d at
wrote_none d at = record { ends = sym (add-zero at); holds = sym (over-nil d at) }

-- .. where the place is in the buffer
pub appended_none : (w : Writer) → Fits w [] → Appended w w []
appended_none w h =
    record { same_buffer = refl; room = h; wrote = wrote_none w.out.now w.at }

-- a write keeps the buffer's length
pub wrote-length : {d : List ℕ} {at : ℕ} {w d' : List ℕ} {m : ℕ} → Wrote d at w d' m → at + length w ≤ length d → length d' ≡ length d
wrote-length {d} {at} {w} x h = ap length x.holds ∙ length_over d at w h

-- one write after another
pub and_then : {w w' w'' : Writer} (p q : List ℕ) → Appended w w' p → Appended w' w'' q → Appended w w'' (p ++ q)
and_then {w} {w'} p q x y =
    let l : length w'.out.now ≡ length w.out.now = wrote-length x.wrote x.room in
    record {
      same_buffer = y.same_buffer ∙ x.same_buffer;
      room = omega (arith, y.room, l, x.wrote.ends, length-append p q);
      wrote = Copies.and_then x.wrote x.room q _ _ y.wrote;
    }

-- the room that is left after a write
pub room-left : {w w' : Writer} (p q : List ℕ) → Fits w (p ++ q) → Appended w w' p → Fits w' q
room-left {w} {w'} p q h x =
    let l : length w'.out.now ≡ length w.out.now = wrote-length x.wrote x.room in
    omega (arith, h, l, x.wrote.ends, length-append p q)

-- room for bytes is room for the first of them
pub room-front : (w : Writer) (p q : List ℕ) → Fits w (p ++ q) → Fits w p
room-front w p q h = omega (arith, h, length-append p q)

-- the bytes p are to be written by w, which has room for them; v is what is left of them, for w'
pub record Left (w : Writer) (p : List ℕ) (w' : Writer) (v : List ℕ) : Type 0 where
  pub room : Fits w p
  pub done : List ℕ
  pub written : Appended w w' done
  pub parts : p ≡ done ++ v

pub left-all : (w : Writer) (p : List ℕ) → Fits w p → Left w p w p
left-all w p h = record { room = h; done = []; written = appended_none w (omega (arith, h)); parts = refl }

module _ {w : Writer} {p : List ℕ} {w' : Writer} where
  -- there is room for what is left
  pub left-rest : {v : List ℕ} → Left w p w' v → Fits w' v
  left-rest {v} l =
      let k : length p ≡ length (l.done ++ v) = ap length l.parts in
      room-left l.done v (omega (arith, l.room, k)) l.written

  -- .. and for u, its first bytes
  pub left-room : {v : List ℕ} (u v' : List ℕ) → v ≡ u ++ v' → Left w p w' v → Fits w' u
  left-room u v' e l = omega (arith, left-rest l, ap length e, length-append u v')

  -- once u is written, the others are left
  pub left-more : {v u : List ℕ} {w'' : Writer} (v' : List ℕ) → v ≡ u ++ v' → Left w p w' v → Appended w' w'' u → Left w p w'' v'
  left-more {v} {u} v' e l x =
      record {
        room = l.room;
        done = l.done ++ u;
        written = and_then l.done u l.written x;
        parts = l.parts ∙ ap (λ (s : List ℕ). l.done ++ s) e ∙ sym (append_assoc l.done u v');
      }

  -- the last write
  pub left-last : {v : List ℕ} {w'' : Writer} → Left w p w' v → Appended w' w'' v → Appended w w'' p
  left-last {v} l x = rw l.parts (and_then l.done v l.written x)

  -- nothing is left
  pub left-none : {v : List ℕ} → v ≡ [] → Left w p w' v → Appended w w' p
  left-none e l = rw (l.parts ∙ ap (λ (s : List ℕ). l.done ++ s) e ∙ append-nil l.done) l.written

-- the first write
pub left-first : {w w' : Writer} {p u : List ℕ} (v : List ℕ) → p ≡ u ++ v → Fits w p → Appended w w' u → Left w p w' v
left-first {w} {w'} {p} v e h x = left-more v e (left-all w p h) x

-- the variables h and hs are left
module _ {w : Writer} {p : List ℕ} {w' : Writer} (h : Header) where
  pub row_room : (hs : List Header) → Left w p w' (printed (h ∷ hs)) → Fits w' (variable h.name h.value)
  row_room hs l = left-room _ _ (print-one h hs) l

  pub row_more : (hs : List Header) {w'' : Writer} → Left w p w' (printed (h ∷ hs)) → Appended w' w'' (variable h.name h.value) → Left w p w'' (printed hs)
  row_more hs l x = left-more _ (print-one h hs) l x

  pub row_last : {w'' : Writer} → Left w p w' (printed (h ∷ [])) → Appended w' w'' (variable h.name h.value) → Appended w w'' p
  row_last l x = left-last l (rw (print-last h) x)
