-- Laws of targets: what the tests of each step say.
-- Assumes nothing.
use Prim.Native.Nat.{ℕ, min, ◌+◌, ◌≤◌, ◌<◌}
use mathlib.Core.Path.{◌≡◌, refl, sym, ap, ◌∙◌}
use mathlib.Core.Bool.{Bool, true, false, cond, not, ◌&&◌, and-true}
use mathlib.Core.List.{List}
use native.Mathlib.Nat.{zero-add}
use native.Mathlib.Omega.{arith}
use lib.Dec.{eqb, leb}
use lib.ListN.{length, take, drop, get_or}
use lib.Seq.{length-take-le}
use Rattle.std.proofs.Common.{Result, Ok, Err}
use borrow.Author.Tests.{eq-eqb, ne_eqb, le-leb, lt-leb, eqb-true, leb-true}
use Rattle.octets.specs.Kinds.{is_target}
use Rattle.octets.specs.Scan.{run, other, all_of, count}
use Rattle.octets.specs.Copy.{over}
use Rattle.octets.specs.declared.refusal.Refusal.{Refusal}
use Rattle.octets.specs.declared.refusal.Refusal.TheVariants as Because
use Rattle.octets.proofs.Bools.{and_left, and_right, and-false}
use Rattle.octets.proofs.Scans.{run-le, all_take, all-same-run}
use Rattle.octets.proofs.Parting.{part-found, part_none}
use Rattle.octets.proofs.Copies.{over-nil}
use Rattle.targets.specs.Escape.{escapes_right, decoded}
use Rattle.targets.specs.Target.{path_of, raw_right, is_dots, no_dots, segments_right, decoded_right, target_of, written, TargetRead, raw_of, PathRight, PathRead}
use Rattle.targets.specs.Claims.{RawSays}
use Rattle.targets.specs.declared.target.Raw.{Raw}
use Rattle.targets.specs.declared.target.TargetPlace.{TargetPlace}
use Rattle.targets.proofs.Escapes.{path-escapes}

-- Segments, one at a time.

-- the first one, and those behind the first slash, whose place is n
pub segments-next :
    (q : List ℕ) (n : ℕ) → n ≡ run (other 47) q → n < length q → segments_right q ≡ not (is_dots (take n q)) && segments_right (drop (n + 1) q)
unfolding segments_right no_dots
segments-next q n e h =
    let w : run (other 47) q < length q = omega arith in
    rw (e, part-found 47 q w)

-- the last one
pub segments-last : (q : List ℕ) → length q ≤ run (other 47) q → segments_right q ≡ not (is_dots q)
unfolding segments_right no_dots
segments-last q h = rw (part_none 47 q h) (and-true (not (is_dots q)))

-- The path.

pub path_length : (t : List ℕ) → length (path_of t) ≡ run (other 63) t
unfolding path_of
path_length t = length-take-le (run (other 63) t) t (run-le (other 63) t)

-- n is the place of the first 63, as a scan gives it
module _ (t : List ℕ) (n : ℕ) (e : n ≡ 0 + run (other 63) t) where
  pub path_inside : n ≤ length t
  path_inside = omega (arith, run-le (other 63) t)

  pub path-ends : n ≡ length (path_of t)
  path-ends = omega (arith, path_length t)

  pub path-taken : take n t ≡ path_of t
  unfolding path_of
  path-taken = ap (λ (m : ℕ). take m t) (e ∙ zero-add (run (other 63) t))

-- What the tests of the target as it stands say; n is what a scan gives.

module _ (t : List ℕ) where
  pub raw-empty : length t ≡ 0 → raw_of t ≡ Err Because.Target
  unfolding raw_right
  raw-empty h = simp h

  pub raw-long : 4096 < length t → raw_of t ≡ Err Because.Target
  unfolding raw_right
  raw-long h = simp (lt-leb (length t) 4096 h, and-false)

  pub raw-start : (get_or t 0 0 ≡ 47 → ⊥) → raw_of t ≡ Err Because.Target
  unfolding raw_right
  raw-start h = simp (ne_eqb _ _ h, and-false)

  pub raw-byte : (n : ℕ) → n ≡ 0 + run is_target t → (n ≡ length t → ⊥) → raw_of t ≡ Err Because.Target
  unfolding raw_right
  raw-byte n e h =
      let f : all_of is_target t ≡ false = all-same-run is_target t ∙ ne_eqb _ _ (λ q. h (e ∙ zero-add (run is_target t) ∙ q)) in
      simp (f, and-false)

  pub raw-escapes : escapes_right t ≡ false → raw_of t ≡ Err Because.Target
  unfolding raw_right
  raw-escapes e = simp (e, and-false)

  pub raw-slashes : 64 < count 47 (path_of t) → raw_of t ≡ Err Because.Target
  unfolding raw_right
  raw-slashes h = simp (lt-leb (count 47 (path_of t)) 64 h, and-false)

  pub raw-whole :
      (length t ≡ 0 → ⊥) → length t ≤ 4096 → get_or t 0 0 ≡ 47 → (n : ℕ) → n ≡ 0 + run is_target t → n ≡ length t → escapes_right t ≡ true
      → count 47 (path_of t) ≤ 64 → raw_of t ≡ Ok (record { path_len = length (path_of t); slashes = count 47 (path_of t) })
  unfolding raw_right
  raw-whole a b c n d m e f =
      let a' : 1 ≤ length t = omega arith in
      let d' : all_of is_target t ≡ true = all-same-run is_target t ∙ eq-eqb (run is_target t) (length t) (omega arith) in
      simp (le-leb 1 (length t) a', le-leb (length t) 4096 b, eq-eqb _ _ c, d', e, le-leb (count 47 (path_of t)) 64 f)

pub raw-says : (t : List ℕ) → raw_right t ≡ true → RawSays t
unfolding raw_right
raw-says t e =
    let a = leb 1 (length t) in
    let b = leb (length t) 4096 in
    let c = eqb (get_or t 0 0) 47 in
    let d = all_of is_target t in
    let f = escapes_right t in
    let g = leb (count 47 (path_of t)) 64 in
    let e₅ : a && b && c && d && f ≡ true = and_left (a && b && c && d && f) g e in
    let e₄ : a && b && c && d ≡ true = and_left (a && b && c && d) f e₅ in
    let e₃ : a && b && c ≡ true = and_left (a && b && c) d e₄ in
    let e₂ : a && b ≡ true = and_left (a && b) c e₃ in
    record {
      some = leb-true _ _ (and_left a b e₂);
      short = leb-true _ _ (and_right a b e₂);
      start = eqb-true _ _ (and_right (a && b) c e₃);
      bytes = and_right (a && b && c) d e₄;
      escapes = and_right (a && b && c && d) f e₅;
      slashes = leb-true _ _ (and_right (a && b && c && d && f) g e);
    }

-- The whole call: after the step that judges the target as it stands, and after the path is decoded.

pub raw-refused : (t d : List ℕ) (e : Refusal) → raw_of t ≡ Err e → TargetRead t d d (Err e)
unfolding target_of
raw-refused t d e = by (raw_right t) refl
  where
    by :
        (x : Bool) → raw_right t ≡ x
        → cond {A = Result Raw Refusal} x (Ok (record { path_len = length (path_of t); slashes = count 47 (path_of t) })) (Err Because.Target) ≡ Err e
        → TargetRead t d d (Err e)
    by true q h = record { answer = cc; buffer = cc }
    by false q h =
        let k : e ≡ Because.Target = cc in
        record { answer = rw (q, k); buffer = rw q (sym (over-nil d 0)) }

record RawGives (t : List ℕ) (k n : ℕ) : Type 0 where
  right : raw_right t ≡ true
  length_is : k ≡ length (path_of t)
  slashes_are : n ≡ count 47 (path_of t)

raw-gives : (t : List ℕ) (k n : ℕ) → raw_of t ≡ Ok (record { path_len = k; slashes = n }) → RawGives t k n
raw-gives t k n = by (raw_right t) refl
  where
    by :
        (x : Bool) → raw_right t ≡ x → cond {A = Result Raw Refusal} x (Ok (record { path_len = length (path_of t); slashes = count 47 (path_of t) })) (Err Because.Target) ≡ Ok (record { path_len = k; slashes = n })
        → RawGives t k n
    by true q e =
        let r : ◌≡◌ {A = Raw} (record { path_len = length (path_of t); slashes = count 47 (path_of t) }) (record { path_len = k; slashes = n }) = cc in
        record { right = q; length_is = ap (λ (x : Raw). x.path_len) (sym r); slashes_are = ap (λ (x : Raw). x.slashes) (sym r) }
    by false q e = record { right = cc; length_is = cc; slashes_are = cc }

-- the bytes of the path are those of the target
path_bytes : (t : List ℕ) → all_of is_target t ≡ true → all_of is_target (path_of t) ≡ true
unfolding path_of
path_bytes t e =
    let whole : run is_target t ≡ length t = eqb-true _ _ (sym (all-same-run is_target t) ∙ e) in
    let short = run-le (other 63) t in
    all_take is_target t (run (other 63) t) short ∙ le-leb (run (other 63) t) (run is_target t) (omega arith)

module _ (t d : List ℕ) (k n : ℕ) (e : raw_of t ≡ Ok (record { path_len = k; slashes = n })) (room : min (length t) 4096 ≤ length d) where
  pub raw-inside : k ≤ length t
  raw-inside = omega (arith, (raw-gives t k n e).length_is, path_length t, run-le (other 63) t)

  path-part : take k t ≡ path_of t
  unfolding path_of
  path-part = ap (λ (m : ℕ). take m t) ((raw-gives t k n e).length_is ∙ path_length t)

  pub path_room : length (take k t) ≤ length d
  path_room = omega (arith, length-take-le k t raw-inside, raw-inside, (raw-says t (raw-gives t k n e).right).short)

  pub path-right : PathRight (take k t) n
  unfolding path_of
  path-right =
      let says = raw-says t (raw-gives t k n e).right in
      record {
        short = omega (arith, length-take-le k t raw-inside, raw-inside, says.short);
        bytes = ap (all_of is_target) path-part ∙ path_bytes t says.bytes;
        escapes = ap escapes_right path-part ∙ path-escapes t says.escapes;
        slashes = (raw-gives t k n e).slashes_are ∙ ap (count 47) (sym path-part);
      }

  -- the path is read
  module _ (d' : List ℕ) (r : Result TargetPlace Refusal) (w : PathRead (take k t) d d' r) where
    path-answer :
        r
        ≡ cond (decoded_right (count 47 (path_of t)) (decoded (path_of t))) (Ok (record { path_len = length (path_of t); decoded_len = length (decoded (path_of t)) })) (Err Because.Target)
    path-answer = rw path-part at w.answer

    path-buffer : d' ≡ over d 0 (decoded (path_of t))
    path-buffer = rw path-part at w.buffer

    whole-buffer : d' ≡ over d 0 (written t)
    whole-buffer = rw (raw-gives t k n e).right path-buffer

    pub target_read : TargetRead t d d' r
    unfolding target_of
    target_read = rw path-answer (by (decoded_right (count 47 (path_of t)) (decoded (path_of t))) refl)
      where
        by :
            (x : Bool) → decoded_right (count 47 (path_of t)) (decoded (path_of t)) ≡ x
            → TargetRead t d d' (cond x (Ok (record { path_len = length (path_of t); decoded_len = length (decoded (path_of t)) })) (Err Because.Target))
        by true q = record { answer = rw ((raw-gives t k n e).right, q); buffer = whole-buffer }
        by false q = record { answer = rw ((raw-gives t k n e).right, q); buffer = whole-buffer }
