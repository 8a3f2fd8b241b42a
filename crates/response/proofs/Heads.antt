-- Laws of the head, for the loop that goes from line to line.
-- Assumes nothing.
use Prim.Native.Nat.{ℕ, suc, ◌+◌, ◌-◌, ◌≤◌, ◌<◌}
use mathlib.Core.Path.{◌≡◌, refl, sym, ap, ◌∙◌}
use mathlib.Core.Bool.{Bool, true, false, cond}
use mathlib.Core.List.{List, [], ◌∷◌}
use Rattle.std.proofs.Common.{Option, None, Some}
use native.Mathlib.Nat.{add-zero}
use native.Mathlib.Omega.{arith}
use lib.Dec.{leb-zero, leb-suc-zero, leb-suc-suc, leb}
use lib.ListN.{length, take, drop, length-drop, drop_of_length-le}
use lib.Seq.{drop-drop}
use Rattle.octets.specs.Lists.{is_nil}
use Rattle.octets.specs.Scan.{run, other}
use Rattle.octets.specs.Parts.{Parts, parted, before}
use Rattle.octets.proofs.Parting.{part-found, part_none}
use Rattle.response.specs.Head.{
  bare_length,
  bare,
  Line,
  Lines,
  on_top,
  lines_from,
  lines_at,
  Named,
  field_in,
  ahead,
  fields_of,
  Head,
  ends_at,
  head_with,
}
use Rattle.response.specs.Seen.{see_field, seen_with, seen_from, seen_on, seen_head}
use Rattle.response.specs.declared.fields.Seen.{Seen}
use Rattle.response.specs.declared.head.HeadPlace.{HeadPlace}
use Rattle.response.proofs.LineEnds.{part_length, bare-is, bare-empty, bare-some}

-- A line before others.

abbrev pub head_after : Named → Option Head → Option Head
head_after x None = None
head_after x (Some h) = Some (record { fields = x ∷ h.fields; ends = h.ends })

module _ (l : Line) where
  too-many-lines : (o : Option Lines) → head_with 0 (on_top l o) ≡ None
  too-many-lines None = refl
  too-many-lines (Some h) = rw (leb-suc-zero (length h.lines))

  bad-first : (k : ℕ) (o : Option Lines) → field_in l ≡ None → head_with k (on_top l o) ≡ None
  unfolding fields_of
  bad-first k None e = refl
  bad-first k (Some h) e = rw e (by (leb (suc (length h.lines)) k))
    where
      by : (t : Bool) → cond t (ends_at h.ends None) None ≡ None
      by true = refl
      by false = refl

  good-first : (k : ℕ) (o : Option Lines) (x : Named) → field_in l ≡ Some x → head_with (suc k) (on_top l o) ≡ head_after x (head_with k o)
  unfolding fields_of
  good-first k None x e = refl
  good-first k (Some h) x e = rw (e, leb-suc-suc (length h.lines) k) (by (leb (length h.lines) k) (fields_of h.lines))
    where
      by : (t : Bool) (o : Option (List Named)) → cond t (ends_at h.ends (ahead (Some x) o)) None ≡ head_after x (cond t (ends_at h.ends o) None)
      by true None = refl
      by true (Some fs) = refl
      by false o = refl

seen-after : (n : ℕ) (seen : Seen) (x : Named) (o : Option Head) → seen_on n seen (head_after x o) ≡ seen_on (n + 1) (see_field seen x) o
unfolding seen_from
seen-after n seen x None = refl
seen-after n seen x (Some h) =
    let e : n + suc (length h.fields) ≡ n + 1 + length h.fields = omega arith in
    rw e

-- The line that starts at a place, and whose LF stands at end.

pub nothing_left : (t : List ℕ) (at : ℕ) → length t ≤ at → lines_at at (drop at t) ≡ None
unfolding parted lines_from
nothing_left t at h = ap (lines_at at) (drop_of_length-le t h)

module _ (t : List ℕ) (at end : ℕ) (a : at ≤ length t) (e : end ≡ at + run (other 10) (drop at t)) where
  pub not-ended : length t ≤ end → lines_at at (drop at t) ≡ None
  unfolding lines_from
  not-ended h =
      let l : length (drop at t) ≤ run (other 10) (drop at t) = omega (arith, length-drop at t) in
      ap (λ (p : Parts). lines_from at p.first p.others) (part_none 10 (drop at t) l)

  module _ (h : end < length t) where
    abbrev f : List ℕ
    f = take (end - at) (drop at t)

    parts_are : parted 10 (drop at t) ≡ before f (parted 10 (drop (end + 1) t))
    parts_are =
        let l : run (other 10) (drop at t) < length (drop at t) = omega (arith, length-drop at t) in
        let n : run (other 10) (drop at t) ≡ end - at = omega arith in
        let m : at + (run (other 10) (drop at t) + 1) ≡ end + 1 = omega arith in
        let d : drop (run (other 10) (drop at t) + 1) (drop at t) ≡ drop (end + 1) t = drop-drop (run (other 10) (drop at t) + 1) at t ∙ ap (λ (k : ℕ). drop k t) m in
        part-found 10 (drop at t) l
        ∙ ap (λ (r : List ℕ). before (take (run (other 10) (drop at t)) (drop at t)) (parted 10 r)) d
        ∙ ap (λ (k : ℕ). before (take k (drop at t)) (parted 10 (drop (end + 1) t))) n

    abbrev others : Option Lines
    others = lines_at (end + 1) (drop (end + 1) t)

    abbrev line : Line
    line = record { start = at; bytes = bare f }

    one_line : lines_at at (drop at t) ≡ cond (is_nil (bare f)) (Some (record { lines = []; ends = end + 1 })) (on_top line others)
    unfolding lines_from
    one_line =
        let n : at + length f + 1 ≡ end + 1 = omega (arith, part_length t at end (omega arith) (omega arith)) in
        ap (λ (p : Parts). lines_from at p.first p.others) parts_are
        ∙ ap (λ (k : ℕ). cond (is_nil (bare f)) (Some (record { lines = []; ends = k })) (on_top line (lines_from k (parted 10 (drop (end + 1) t)).first (parted 10 (drop (end + 1) t)).others))) n

    head-ends : (k : ℕ) → bare_length f ≡ 0 → head_with k (lines_at at (drop at t)) ≡ Some (record { fields = []; ends = end + 1 })
    unfolding fields_of
    head-ends k z =
        let b : lines_at at (drop at t) ≡ Some (record { lines = []; ends = end + 1 }) = one_line ∙ rw (bare-empty f z) in
        ap (head_with k) b ∙ rw (leb-zero k)

    head-goes-on : (k : ℕ) → (bare_length f ≡ 0 → ⊥) → head_with k (lines_at at (drop at t)) ≡ head_with k (on_top line others)
    head-goes-on k z =
        let b : lines_at at (drop at t) ≡ on_top line others = one_line ∙ rw (bare-some f z) in
        ap (head_with k) b

-- The loop: n fields were seen, and the next line starts at a place.

pub record Standing (t : List ℕ) (n : ℕ) (seen : Seen) (at : ℕ) : Type 0 where
  pub count : n ≤ 64
  pub within : at ≤ length t
  pub answer : seen_head (head_with 64 (lines_at 0 t)) ≡ seen_on n seen (head_with (64 - n) (lines_at at (drop at t)))

module _ {t : List ℕ} {n : ℕ} {seen : Seen} {at : ℕ} (r : Standing t n seen at) where
  abbrev whole : Option HeadPlace
  whole = seen_head (head_with 64 (lines_at 0 t))

  pub at_end : length t ≤ at → whole ≡ None
  at_end h = r.answer ∙ ap (λ (o : Option Lines). seen_on n seen (head_with (64 - n) o)) (nothing_left t at h)

  module _ (end : ℕ) (e : end ≡ at + run (other 10) (drop at t)) where
    pub unended : length t ≤ end → whole ≡ None
    unended h = r.answer ∙ ap (λ (o : Option Lines). seen_on n seen (head_with (64 - n) o)) (not-ended t at end r.within e h)

    module _ (h : end < length t) (l : ℕ) (q : l ≡ at + bare_length (take (end - at) (drop at t))) where
      pub ends : l ≡ at → whole ≡ Some (record { end = end + 1; fields = n; seen = seen })
      unfolding seen_from
      ends z =
          let b : bare_length (take (end - at) (drop at t)) ≡ 0 = omega arith in
          r.answer ∙ ap (seen_on n seen) (head-ends t at end r.within e h (64 - n) b) ∙ rw (add-zero n)

      module _ (z : l ≡ at → ⊥) where
        goes_on : whole ≡ seen_on n seen (head_with (64 - n) (on_top (line t at end r.within e h) (others t at end r.within e h)))
        goes_on = r.answer ∙ ap (seen_on n seen) (head-goes-on t at end r.within e h (64 - n) (λ b. z (omega arith)))

        pub too_many : n ≡ 64 → whole ≡ None
        too_many m =
            let k : 64 - n ≡ 0 = omega arith in
            goes_on ∙ ap (λ (i : ℕ). seen_on n seen (head_with i (on_top (line t at end r.within e h) (others t at end r.within e h)))) k
            ∙ ap (seen_on n seen) (too-many-lines (line t at end r.within e h) (others t at end r.within e h))

        bytes-are : take (l - at) (drop at t) ≡ bare (take (end - at) (drop at t))
        bytes-are = bare-is t at end (omega arith) (omega arith) l q

        pub bad-line : None ≡ seen_with seen (field_in (record { start = at; bytes = take (l - at) (drop at t) })) → whole ≡ None
        bad-line w =
            goes_on ∙ ap (seen_on n seen) (bad-first (line t at end r.within e h) (64 - n) (others t at end r.within e h) (by (field_in (line t at end r.within e h)) (rw bytes-are at w)))
          where
            by : (o : Option Named) → None ≡ seen_with seen o → o ≡ None
            by None p = refl
            by (Some x) p = cc

        pub onward :
            (n ≡ 64 → ⊥) → (next : Seen) → Some next ≡ seen_with seen (field_in (record { start = at; bytes = take (l - at) (drop at t) }))
            → Standing t (n + 1) next (end + 1)
        onward m next w =
            record {
              count = omega (arith, r.count);
              within = omega arith;
              answer = goes_on ∙ ap (λ (i : ℕ). seen_on n seen (head_with i (on_top (line t at end r.within e h) (others t at end r.within e h)))) k ∙ by (field_in (line t at end r.within e h)) refl (rw bytes-are at w);
            }
          where
            k : 64 - n ≡ suc (64 - (n + 1))
            k = omega (arith, r.count)

            by :
                (o : Option Named) → field_in (line t at end r.within e h) ≡ o → Some next ≡ seen_with seen o
                → seen_on n seen (head_with (suc (64 - (n + 1))) (on_top (line t at end r.within e h) (others t at end r.within e h)))
                ≡ seen_on (n + 1) next (head_with (64 - (n + 1)) (others t at end r.within e h))
            by None p w = cc
            by (Some x) p w =
                let s : next ≡ see_field seen x = cc in
                ap (seen_on n seen) (good-first (line t at end r.within e h) (64 - (n + 1)) (others t at end r.within e h) x p)
                ∙ seen-after n seen x (head_with (64 - (n + 1)) (others t at end r.within e h)) ∙ rw (sym s)
