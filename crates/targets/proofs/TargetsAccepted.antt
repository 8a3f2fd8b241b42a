-- What an accepted target says, that it has no NUL, and what the lengths of an answer say.
-- Assumes nothing.
use Prim.Native.Nat.{ℕ, min, ◌+◌, ◌≤◌}
use mathlib.Core.Path.{◌≡◌, refl, sym, ap, ◌∙◌}
use mathlib.Core.Bool.{Bool, true, false, cond, ◌&&◌}
use mathlib.Core.List.{List, [], ◌∷◌}
use native.Mathlib.Omega.{arith}
use lib.Dec.{eqb}
use lib.ListN.{length, take, drop, get_or, length-drop}
use Rattle.std.proofs.Common.{Ok, Err}
use borrow.Author.Tests.{eqb-true}
use Rattle.octets.specs.Outcome.{Outcome, refused, gives, then}
use Rattle.octets.specs.Kinds.{is_digit, is_letter, is_target}
use Rattle.octets.specs.Scan.{run, other, all_of, count}
use Rattle.octets.specs.Lists.{NoNul}
use Rattle.octets.specs.Refusal.{number_of}
use Rattle.octets.specs.declared.refusal.Refusal.{Refusal}
use Rattle.octets.proofs.Outcomes.{Gave, need-gives, then-gives, gives-once}
use Rattle.octets.proofs.Bools.{and_left, and_right}
use Rattle.octets.proofs.Lists.{there}
use Rattle.octets.proofs.Scans.{run-le, all_drop}
use Rattle.octets.proofs.Alls.{all_without}
use Rattle.octets.proofs.Copies.{length_over}
use Rattle.octets.proofs.Copies as copies
use Rattle.targets.specs.Escape.{decoded_from, decoded}
use Rattle.targets.specs.Target.{
  Target,
  path_of,
  query_of,
  raw_right,
  is_plain,
  segments_right,
  decoded_right,
  target_of,
  written,
  TargetRead,
}
use Rattle.targets.specs.Claims.{Accepted, Told}
use Rattle.targets.specs.declared.target.TargetPlace.{TargetPlace}
use Rattle.targets.proofs.Escapes.{decoded-le}
use Rattle.targets.proofs.Targets.{raw-says, path_length}

decoded-start : (t : List ℕ) → get_or t 0 0 ≡ 47 → get_or (decoded (path_of t)) 0 0 ≡ 47
unfolding path_of run decoded_from
decoded-start [] e = e
decoded-start (b ∷ t) e = rw e

-- the decoded path and the query take no more than the target
parts_fit : (t : List ℕ) → length (decoded (path_of t)) + length (query_of t) ≤ length t
unfolding query_of
parts_fit t = omega (arith, decoded-le 0 (path_of t), path_length t, run-le (other 63) t, length-drop (run (other 63) t + 1) t)

decoded-path-le : (t : List ℕ) → length (decoded (path_of t)) ≤ length t
decoded-path-le t = omega (arith, parts_fit t)

-- No NUL, for a writer of names and values that NULs end.

nul-is-none : is_target 0 ≡ false
unfolding is_target is_letter is_digit
nul-is-none = refl

module _ (t : List ℕ) (bytes : all_of is_target t ≡ true) where
  target_no_nul : NoNul t
  target_no_nul = all_without is_target 0 t nul-is-none bytes

  query_no_nul : NoNul (query_of t)
  unfolding query_of
  query_no_nul = all_without is_target 0 (query_of t) nul-is-none (all_drop is_target (run (other 63) t + 1) t bytes)

pub accepted : (t : List ℕ) (x : Target) → target_of t ≡ gives x → Accepted t x
unfolding target_of decoded_right
accepted t x e =
    let p = decoded (path_of t) in
    let a = eqb (count 47 p) (count 47 (path_of t)) in
    let b = all_of is_plain p in
    let g = segments_right p in
    let r = need-gives (raw_right t) 14 _ x e in
    let d = need-gives (a && b && g) 14 _ x r.1 in
    let path : x.path ≡ decoded (path_of t) = cc d.1 in
    let query : x.query ≡ query_of t = cc d.1 in
    let raw = raw-says t r.0 in
    let start : get_or (decoded (path_of t)) 0 0 ≡ 47 = decoded-start t raw.start in
    let ab : a && b ≡ true = and_left (a && b) g d.0 in
    record {
      raw = raw;
      path_is = path;
      query_is = query;
      path_start = rw path start;
      path_some = rw path (there (decoded (path_of t)) 0 46 start);
      parts_fit = rw (path, query) (parts_fit t);
      path_slashes = rw path (omega (arith, eqb-true (count 47 p) (count 47 (path_of t)) (and_left a b ab), raw.slashes));
      path_plain = rw path (and_right a b ab);
      path_segments = rw path (and_right (a && b) g d.0);
      target_no_nul = target_no_nul t raw.bytes;
      path_no_nul = rw path (all_without is_plain 0 p refl (and_right a b ab));
      query_no_nul = rw query (query_no_nul t raw.bytes);
    }

-- The buffer: what is written fits, and of an accepted target it is the decoded path.

written-le : (t : List ℕ) → length (written t) ≤ length t
written-le t = by (raw_right t)
  where
    by : (x : Bool) → length (cond x (decoded (path_of t)) []) ≤ length t
    by true = decoded-path-le t
    by false = omega arith

written-short : (t : List ℕ) → length (written t) ≤ 4096
written-short t = by (raw_right t) refl
  where
    by : (x : Bool) → raw_right t ≡ x → length (cond x (decoded (path_of t)) []) ≤ 4096
    by true e = omega (arith, decoded-path-le t, (raw-says t e).short)
    by false e = omega arith

written-path : (t : List ℕ) (x : Target) → target_of t ≡ gives x → written t ≡ decoded (path_of t)
unfolding target_of
written-path t x e = rw (need-gives (raw_right t) 14 _ x e).0

-- What an answer says.

module _ (t d d' : List ℕ) (k n : ℕ) (room : min (length t) 4096 ≤ length d) (w : TargetRead t d d' (Ok (record { path_len = k; decoded_len = n }))) where
  abbrev lengths : Target → TargetPlace
  lengths x = record { path_len = length (path_of t); decoded_len = length x.path }

  gave : Gave (target_of t) (λ x. gives (lengths x)) (record { path_len = k; decoded_len = n })
  gave = then-gives (target_of t) (λ x. gives (lengths x)) (record { path_len = k; decoded_len = n }) (sym w.answer)

  says : Accepted t gave.it
  says = accepted t gave.it gave.first

  same : lengths gave.it ≡ record { path_len = k; decoded_len = n }
  same = gives-once _ _ gave.next

  path-told : k ≡ length (path_of t)
  path-told = ap (λ (l : TargetPlace). l.path_len) (sym same)

  decoded-told : n ≡ length (decoded (path_of t))
  decoded-told = ap (λ (l : TargetPlace). l.decoded_len) (sym same) ∙ ap length says.path_is

  fits : 0 + length (written t) ≤ length d
  fits = omega (arith, written-short t, written-le t)

  front : take n d' ≡ decoded (path_of t)
  front =
      let e : n ≡ 0 + length (written t) = omega (arith, decoded-told, ap length (written-path t gave.it gave.first)) in
      rw (w.buffer, e) (copies.before d 0 (written t) fits) ∙ written-path t gave.it gave.first

  query : drop (k + 1) t ≡ query_of t
  unfolding query_of
  query = ap (λ (m : ℕ). drop (m + 1) t) (path-told ∙ path_length t)

  pub told : Told t d' k n
  told =
      record {
        answer = sym (gave.first ∙ rw (front, query, ← says.path_is, ← says.query_is));
        path_length = path-told;
        path_inside = omega (arith, path-told, path_length t, run-le (other 63) t);
        decoded_length = decoded-told;
        decoded_inside = omega (arith, decoded-told, decoded-path-le t, says.raw.short, ap length w.buffer ∙ length_over d 0 (written t) fits);
      }

pub refused-told : (t d d' : List ℕ) (e : Refusal) → TargetRead t d d' (Err e) → refused (number_of e) ≡ target_of t
refused-told t d d' e w = by (target_of t) w.answer
  where
    by : (o : Outcome Target) → ◌≡◌ {A = Outcome TargetPlace} (refused (number_of e)) (then o (λ x. gives (record { path_len = length (path_of t); decoded_len = length x.path }))) → refused (number_of e) ≡ o
    by (refused m) h = cc
    by (gives x) h = cc
