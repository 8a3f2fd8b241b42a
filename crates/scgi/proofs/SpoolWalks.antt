-- Laws of the spool call, for a loop that goes from request to request and stores a length for each.
-- Assumes nothing.
use Prim.Native.Nat.{ℕ, suc, ◌+◌, ◌-◌, ◌≤◌, ◌<◌}
use mathlib.Core.Path.{◌≡◌, refl, sym, ap, ◌∙◌}
use mathlib.Core.Bool.{Bool, true, false, cond}
use mathlib.Core.List.{List, [], ◌∷◌, ◌++◌, append_assoc, append-nil}
use native.Mathlib.Nat.{zero-add, sub-zero}
use native.Mathlib.Omega.{arith}
use lib.Dec.{eqb}
use lib.ListN.{length, drop, set, length-append, length-drop, drop_of_length-le}
use lib.Seq.{drop-drop}
use borrow.Author.Tests.{eqb-true, eqb-false}
use Rattle.octets.specs.Outcome.{refused, gives}
use Rattle.octets.specs.Copy.{over}
use Rattle.octets.proofs.Copies.{over-nil, store-last}
use Rattle.framing.specs.Spool.{Spool, cut, refused_by, ended, before, behind, total}
use Rattle.framing.proofs.SpoolSteps.{at_end, at_cut, at-refused, at-full, onward}
use Rattle.scgi.specs.Read.{used_of}
use Rattle.scgi.specs.Spool.{ending_of, requests_of, SpoolDone}
use Rattle.scgi.specs.declared.spool.Ending.{Ending}
use Rattle.scgi.specs.declared.spool.Ending.TheVariants.{Whole, Full}
use Rattle.scgi.proofs.Reader.{spools-hold}

total-append : (a b : List ℕ) → total (a ++ b) ≡ total a + total b
unfolding total
total-append [] b = sym (zero-add (total b))
total-append (n ∷ a) b = omega (arith, total-append a b)

-- the reader stands at i, and n lengths are stored
pub record Standing (s d : List ℕ) (i n : ℕ) (out : List ℕ) : Type 0 where
  pub done : List ℕ
  pub count : n ≡ length done
  pub next : i ≡ total done
  pub fits : n ≤ length d
  pub stored : out ≡ over d 0 done
  pub answer : requests_of s (length d) ≡ behind done (requests_of (drop i s) (length d - n))

pub start : (s d : List ℕ) → Standing s d 0 0 d
unfolding total
start s d = record { done = []; count = refl; next = refl; fits = omega arith; stored = sym (over-nil d 0); answer = rw (sub-zero (length d)) }

module _ {s d : List ℕ} {i n : ℕ} {out : List ℕ} (r : Standing s d i n out) where
  ends : (e : Ending) → requests_of (drop i s) (length d - n) ≡ ended (ending_of e) → SpoolDone s d out (record { count = n; next = i; ending = e })
  ends e h =
      let q : requests_of s (length d) ≡ behind r.done (ended (ending_of e)) = r.answer ∙ ap (behind r.done) h in
      let l : (requests_of s (length d)).lengths ≡ r.done = ap (λ (p : Spool). p.lengths) q ∙ append-nil r.done in
      record {
        count = r.count ∙ ap length (sym l);
        next = r.next ∙ ap total (sym l);
        ending = sym (ap (λ (p : Spool). p.ending) q);
        list = r.stored ∙ ap (over d 0) (sym l);
      }

  pub none_left : length s ≤ i → SpoolDone s d out (record { count = n; next = i; ending = Whole })
  none_left h = ends Whole (rw (drop_of_length-le s h) (at_end used_of spools-hold.frames (length d - n)))

  module _ (more : i < length s) where
    some : 0 < length (drop i s)
    some = simp length-drop (omega arith)

    pub refusal :
        (k : ℕ) (e : Ending) → used_of (drop i s) ≡ refused k → ending_of e ≡ cond (eqb k 1) cut (refused_by k)
        → SpoolDone s d out (record { count = n; next = i; ending = e })
    refusal k e u w = ends e (by (eqb k 1) refl ∙ ap ended (sym w))
      where
        by : (t : Bool) → eqb k 1 ≡ t → requests_of (drop i s) (length d - n) ≡ ended (cond (eqb k 1) cut (refused_by k))
        by true t =
            let z : k ≡ 1 = eqb-true k 1 t in
            rw t (at_cut used_of spools-hold.frames (drop i s) some (length d - n) (u ∙ ap refused z))
        by false t = rw t (at-refused used_of spools-hold.frames (drop i s) some (length d - n) k u (eqb-false k 1 t))

    module _ (u : ℕ) (reads : used_of (drop i s) ≡ gives u) where
      pub within : i + u ≤ length s
      within = omega (arith, (spools-hold.frames.within (drop i s) u reads).1, length-drop i s)

      pub used-some : 0 < u
      used-some = (spools-hold.frames.within (drop i s) u reads).0

      pub no_room : length d ≤ n → SpoolDone s d out (record { count = n; next = i; ending = Full })
      no_room h =
          let z : length d - n ≡ 0 = omega arith in
          ends Full (rw z (at-full used_of spools-hold.frames (drop i s) some u reads))

      pub stored_one : n < length d → Standing s d (i + u) (n + 1) (set out n u)
      unfolding total
      stored_one h =
          let z : length d - n ≡ suc (length d - (n + 1)) = omega arith in
          let m : requests_of (drop i s) (length d - n) ≡ before u (requests_of (drop (i + u) s) (length d - (n + 1))) =
          rw (z, ← drop-drop u i s) (onward used_of spools-hold.frames (drop i s) some (length d - (n + 1)) u reads) in
          record {
            done = r.done ++ (u ∷ []);
            count = simp length-append (omega (arith, r.count));
            next = omega (arith, r.next, total-append r.done (u ∷ []));
            fits = omega arith;
            stored = rw (r.stored, r.count) (rw (← zero-add (length r.done)) (store-last d 0 r.done u (omega (arith, r.count))));
            answer = r.answer ∙ ap (behind r.done) m ∙ simp append_assoc;
          }
