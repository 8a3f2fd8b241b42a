-- Laws of the request line: what each test of the reader says, and what a request line is made of.
-- Assumes nothing.
use mathlib.Core.Path.{◌≡◌, refl, sym, ap, ◌∙◌}
use mathlib.Core.Bool.{Bool, true, false, ◌||◌, and-false, false≢true}
use mathlib.Core.List.{List, [], ◌∷◌, ◌++◌, append_assoc}
use Prim.Native.Nat.{ℕ, suc, ◌+◌, ◌-◌, ◌≤◌, ◌<◌}
use native.Mathlib.Omega.{arith}
use Rattle.std.proofs.Common.{Ok, Err}
use lib.Dec.{eqb}
use lib.ListN.{length, take, drop, get_or, length-append, length-take, length-drop}
use lib.Seq.{drop-drop, take_at, drop_at, length-take-le}
use borrow.Author.Tests.{ne_eqb, le-leb, lt-leb}
use Rattle.octets.specs.Text.{bytes}
use Rattle.octets.specs.Outcome.{Outcome, refused, gives, then, need}
use Rattle.octets.specs.Kinds.{is_digit, is_letter, is_token, within}
use Rattle.octets.specs.Scan.{run, all_of, other}
use Rattle.octets.specs.Compare.{same_bytes}
use Rattle.octets.specs.Parts.{Parts, parted, before}
use Rattle.octets.specs.Lists.{All, ◌&◌, Without, NoNul}
use Rattle.octets.proofs.Bools.{and_right}
use Rattle.octets.proofs.Alls.{all_without, no_nul}
use Rattle.octets.proofs.Compares.{same_true}
use Rattle.octets.proofs.Outcomes.{Gave, need-gives, then-gives, gives-once}
use Rattle.octets.proofs.Scans.{all-same-run}
use Rattle.octets.proofs.Parting.{joined_by, parts-of, part-ended, part-found, part_none}
use Rattle.http_head.specs.RequestLine.{FirstLine, is_method, is_version, is_served, version_of, version_text, three_parts, request_line_of, LineParts, line_places, line_places_of, line_told, line_outcome}
use Rattle.http_head.specs.Fields.{part_at}
use Rattle.http_head.specs.Claims.{Reads, LineStands}
use Rattle.octets.specs.Refusal.{number_of}
use Rattle.octets.specs.declared.refusal.Refusal.{Refusal}
use Rattle.http_head.specs.declared.request_line.RequestLine.{RequestLine}

-- the method
module _ (m : List ℕ) where
  pub empty-method : length m ≡ 0 → is_method m ≡ false
  unfolding is_method
  empty-method h = simp (lt-leb 1 (length m) (omega arith))

  pub long-method : 32 < length m → is_method m ≡ false
  unfolding is_method
  long-method h = simp (lt-leb (length m) 32 h, and-false)

  pub token-method : (length m ≡ 0 → ⊥) → length m ≤ 32 → eqb (0 + run is_token (drop 0 m)) (length m) ≡ is_method m
  unfolding is_method
  token-method z l =
      let e : 0 + run is_token m ≡ run is_token m = omega arith in
      sym (rw (all-same-run is_token m, le-leb 1 (length m) (omega arith), le-leb (length m) 32 l, e))

-- the version
pub version-0 : (v : List ℕ) → same_bytes v (bytes "HTTP/1.0") ≡ true → version_of v ≡ gives (version_text 0)
unfolding version_of is_version is_digit same_bytes
version-0 v e =
    let q : v ≡ bytes "HTTP/1.0" = same_true v (bytes "HTTP/1.0") e in
    ap version_of q

pub version-1 : (v : List ℕ) → same_bytes v (bytes "HTTP/1.1") ≡ true → version_of v ≡ gives (version_text 1)
unfolding version_of is_version is_digit same_bytes
version-1 v e =
    let q : v ≡ bytes "HTTP/1.1" = same_true v (bytes "HTTP/1.1") e in
    ap version_of q

pub other-number :
    (v : List ℕ) → same_bytes v (bytes "HTTP/1.0") ≡ false → same_bytes v (bytes "HTTP/1.1") ≡ false → is_version v ≡ true → version_of v ≡ refused 13
unfolding version_of
other-number v a b e = rw (e, a, b)

pub other-shape : (v : List ℕ) → is_version v ≡ false → version_of v ≡ refused 12
unfolding version_of
other-shape v e = rw e

-- where the next part at a space begins, from i on
module _ (line : List ℕ) (i j : ℕ) (end : j ≡ i + run (other 32) (drop i line)) where
  more_parts : j < length line → parted 32 (drop i line) ≡ before (take (j - i) (drop i line)) (parted 32 (drop (j + 1) line))
  more_parts h =
      let n = run (other 32) (drop i line) in
      let r : n ≡ j - i = omega arith in
      let l : n < length (drop i line) = simp length-drop (omega arith) in
      let q : i + (n + 1) ≡ j + 1 = omega arith in
      part-found 32 (drop i line) l
      ∙ ap (λ (k : ℕ). before (take k (drop i line)) (parted 32 (drop (n + 1) (drop i line)))) r
      ∙ ap (λ (s : List ℕ). before (take (j - i) (drop i line)) (parted 32 s)) (drop-drop (n + 1) i line ∙ ap (λ (k : ℕ). drop k line) q)

  last-part : length line ≤ j → parted 32 (drop i line) ≡ record { first = drop i line; others = [] }
  last-part h = part_none 32 (drop i line) (simp length-drop (omega arith))

abbrev line_of : Parts → Outcome FirstLine
line_of p = three_parts p.first p.others

abbrev parts_outcome : Parts → Outcome LineParts
parts_outcome p = then (line_of p) (λ f. gives (line_places f))

-- the first space stands at m
module _ (line : List ℕ) (m : ℕ) (method : m ≡ 0 + run (other 32) (drop 0 line)) where
  pub one-part : length line ≤ m → line_places_of line ≡ refused 12
  unfolding request_line_of
  one-part h = ap parts_outcome (last-part line 0 m method h)

  -- .. and the second at t
  module _ (l : m < length line) (t : ℕ) (target : t ≡ m + 1 + run (other 32) (drop (m + 1) line)) where
    pub two-parts : length line ≤ t → line_places_of line ≡ refused 12
    unfolding request_line_of
    two-parts h = ap parts_outcome (more_parts line 0 m method l ∙ ap (before (take (m - 0) line)) (last-part line (m + 1) t target h))

    -- .. and the next one, or the end, at e
    module _ (k : t < length line) (e : ℕ) (version : e ≡ t + 1 + run (other 32) (drop (t + 1) line)) where
      parts :
          parted 32 line ≡ before (take m line) (before (take (t - (m + 1)) (drop (m + 1) line)) (parted 32 (drop (t + 1) line)))
      parts =
          let z : m - 0 ≡ m = omega arith in
          more_parts line 0 m method l
          ∙ ap (λ (n : ℕ). before (take n line) (parted 32 (drop (m + 1) line))) z
          ∙ ap (before (take m line)) (more_parts line (m + 1) t target k)

      pub four-parts : e < length line → line_places_of line ≡ refused 12
      unfolding request_line_of
      four-parts h = ap parts_outcome (parts ∙ ap (λ (p : Parts). before (take m line) (before (take (t - (m + 1)) (drop (m + 1) line)) p)) (more_parts line (t + 1) e version h))

      module _ (h : length line ≤ e) where
        three-parts :
            line_places_of line
            ≡ then
            (need (is_method (take m line)) 12
            (then (version_of (drop (t + 1) line)) (λ w. gives (record { method = take m line; target = take (t - (m + 1)) (drop (m + 1) line); version = w }))))
            (λ f. gives (line_places f))
        unfolding request_line_of
        three-parts = ap parts_outcome (parts ∙ ap (λ (p : Parts). before (take m line) (before (take (t - (m + 1)) (drop (m + 1) line)) p)) (last-part line (t + 1) e version h))

        pub no-method : is_method (take m line) ≡ false → line_places_of line ≡ refused 12
        no-method q = three-parts ∙ rw q

        pub bad-version : is_method (take m line) ≡ true → (n : ℕ) → version_of (drop (t + 1) line) ≡ refused n → line_places_of line ≡ refused n
        bad-version q n r = three-parts ∙ rw (q, r)

        pub whole :
            is_method (take m line) ≡ true → (d : ℕ) → version_of (drop (t + 1) line) ≡ gives (version_text d)
            → line_places_of line
            ≡ gives (record { method_length = m; target = record { start = m + 1; len = t - (m + 1) }; version = version_text d })
        whole q d r =
            let x : length (take m line) ≡ m = length-take-le m line (omega arith) in
            let y : length (take (t - (m + 1)) (drop (m + 1) line)) ≡ t - (m + 1) = simp (length-take, length-drop) (omega arith) in
            three-parts ∙ rw (q, r, x, y)

-- WHAT A REQUEST LINE IS MADE OF, and that what is made so is a request line

-- no NUL in a method, nor in a version
method_no_nul : (m : List ℕ) → is_method m ≡ true → NoNul m
unfolding is_method is_token is_digit is_letter
method_no_nul m e = all_without is_token 0 m refl (and_right (within 1 32 (length m)) (all_of is_token m) e)

served-no-nul : (v : List ℕ) → is_served v ≡ true → NoNul v
served-no-nul v = by (same_bytes v (bytes "HTTP/1.0")) (same_bytes v (bytes "HTTP/1.1")) refl refl
  where
    by : (t u : Bool) → same_bytes v (bytes "HTTP/1.0") ≡ t → same_bytes v (bytes "HTTP/1.1") ≡ u → t || u ≡ true → NoNul v
    by true u p q e = rw (same_true v (bytes "HTTP/1.0") p) (no_nul (bytes "HTTP/1.0") refl)
    by false true p q e = rw (same_true v (bytes "HTTP/1.1") q) (no_nul (bytes "HTTP/1.1") refl)
    by false false p q e = absurd (false≢true e)

three :
    (line m t v : List ℕ) (f : FirstLine) → joined_by 32 m (t ∷ (v ∷ [])) ≡ line → Without 32 t
    → need (is_method m) 12 (then (version_of v) (λ w. gives (record { method = m; target = t; version = w }))) ≡ gives f → Reads line f
unfolding joined_by version_of
three line m t v f j n e =
    let a = need-gives (is_method m) 12 (then (version_of v) (λ w. gives (record { method = m; target = t; version = w }))) f e in
    let g = then-gives (version_of v) (λ w. gives (record { method = m; target = t; version = w })) f a.1 in
    let b = need-gives (is_version v) 12 (need (is_served v) 13 (gives v)) g.it g.first in
    let d = need-gives (is_served v) 13 (gives v) g.it b.1 in
    let x : v ≡ g.it = cc in
    let y : f ≡ record { method = m; target = t; version = v } = cc in
    rw y
    (record {
      parts = sym j;
      method = a.0;
      target = n;
      version = b.0;
      served = d.0;
      method_no_nul = method_no_nul m a.0;
      version_no_nul = served-no-nul v d.0;
    })

pub line_read : (line : List ℕ) (f : FirstLine) → request_line_of line ≡ gives f → Reads line f
unfolding request_line_of
line_read line f = by (parted 32 line).first (parted 32 line).others (parts-of 32 line).from (parts-of 32 line).in_others
  where
    by : (m : List ℕ) (os : List (List ℕ)) → joined_by 32 m os ≡ line → All (Without 32) os → three_parts m os ≡ gives f → Reads line f
    by m [] j n e = absurd (let z : ◌≡◌ {A = ℕ} 0 1 = cc in omega arith)
    by m (t ∷ []) j n e = absurd (let z : ◌≡◌ {A = ℕ} 0 1 = cc in omega arith)
    by m (t ∷ (v ∷ (x ∷ xs))) j n e = absurd (let z : ◌≡◌ {A = ℕ} 0 1 = cc in omega arith)
    by m (t ∷ (v ∷ [])) j (n & ns) e = three line m t v f j n e

method-space : (m : List ℕ) → is_method m ≡ true → Without 32 m
unfolding is_method is_token is_digit is_letter
method-space m e = all_without is_token 32 m refl (and_right (within 1 32 (length m)) (all_of is_token m) e)

served-space : (v : List ℕ) → is_served v ≡ true → Without 32 v
unfolding all_of
served-space v = by (same_bytes v (bytes "HTTP/1.0")) (same_bytes v (bytes "HTTP/1.1")) refl refl
  where
    by : (t u : Bool) → same_bytes v (bytes "HTTP/1.0") ≡ t → same_bytes v (bytes "HTTP/1.1") ≡ u → t || u ≡ true → Without 32 v
    by true u p q e = rw (same_true v (bytes "HTTP/1.0") p) (all_without (other 32) 32 (bytes "HTTP/1.0") refl refl)
    by false true p q e = rw (same_true v (bytes "HTTP/1.1") q) (all_without (other 32) 32 (bytes "HTTP/1.1") refl refl)
    by false false p q e = absurd (false≢true e)

last_one : (v : List ℕ) → Without 32 v → parted 32 v ≡ record { first = v; others = [] }
unfolding parted
last_one [] n = refl
last_one (b ∷ v) (h & n) = simp (ne_eqb b 32 h, last_one v n)

pub line_made : (line : List ℕ) (f : FirstLine) → Reads line f → request_line_of line ≡ gives f
unfolding request_line_of version_of
line_made line f r =
    let p : parted 32 line ≡ record { first = f.method; others = f.target ∷ (f.version ∷ []) } =
    ap (parted 32) r.parts ∙ part-ended 32 f.method _ (method-space _ r.method)
    ∙ rw (part-ended 32 f.target f.version r.target, last_one f.version (served-space _ r.served)) in
    ap line_of p ∙ rw (r.method, r.version, r.served)

-- THE PARTS AT THEIR PLACES

-- a version that is served
served-minor : (d : ℕ) → is_served (version_text d) ≡ true → d ≤ 1
served-minor d = by (same_bytes (version_text d) (bytes "HTTP/1.0")) (same_bytes (version_text d) (bytes "HTTP/1.1")) refl refl
  where
    by :
        (t u : Bool) → same_bytes (version_text d) (bytes "HTTP/1.0") ≡ t → same_bytes (version_text d) (bytes "HTTP/1.1") ≡ u → t || u ≡ true → d ≤ 1
    by true u p q e =
        let z : 48 + d ≡ 48 = ap (λ (s : List ℕ). get_or s 7 0) (same_true (version_text d) (bytes "HTTP/1.0") p) in
        omega arith
    by false true p q e =
        let z : 48 + d ≡ 49 = ap (λ (s : List ℕ). get_or s 7 0) (same_true (version_text d) (bytes "HTTP/1.1") q) in
        omega arith
    by false false p q e = absurd (false≢true e)

module _ (line : List ℕ) (l : RequestLine) (says : line_outcome (Ok l) ≡ line_places_of line) where
  gave : Gave (request_line_of line) (λ f. gives (line_places f)) (line_told l)
  gave = then-gives (request_line_of line) (λ f. gives (line_places f)) (line_told l) (sym says)

  abbrev f : FirstLine
  f = gave.it

  same : line_places f ≡ line_told l
  same = gives-once _ _ gave.next

  made : Reads line f
  made = line_read line f gave.first

  method-is : length f.method ≡ l.method_len
  method-is = ap (λ (p : LineParts). p.method_length) same

  start_is : length f.method + 1 ≡ l.target.start
  start_is = ap (λ (p : LineParts). p.target.start) same

  target_is : length f.target ≡ l.target.len
  target_is = ap (λ (p : LineParts). p.target.len) same

  version-is : f.version ≡ version_text l.minor
  version-is = ap (λ (p : LineParts). p.version) same

  abbrev behind : List ℕ
  behind = f.target ++ (32 ∷ f.version)

  method-there : take l.method_len line ≡ f.method
  method-there = ap (take l.method_len) made.parts ∙ take_at f.method (32 ∷ behind) l.method_len method-is

  behind-there : drop l.target.start line ≡ behind
  behind-there =
      let e : f.method ++ (32 ∷ behind) ≡ (f.method ++ (32 ∷ [])) ++ behind = sym (append_assoc f.method (32 ∷ []) behind) in
      ap (drop l.target.start) (made.parts ∙ e)
      ∙ drop_at (f.method ++ (32 ∷ [])) behind l.target.start (length-append f.method (32 ∷ []) ∙ start_is)

  target-there : part_at line l.target ≡ f.target
  target-there = ap (take l.target.len) behind-there ∙ take_at f.target (32 ∷ f.version) l.target.len target_is

  long : length line ≡ length f.method + suc (length f.target + suc (length f.version))
  long = ap length made.parts ∙ simp length-append

  pub line-stands : LineStands line l
  line-stands =
      record {
        answer = sym (gave.first ∙ rw (method-there, target-there, ← version-is));
        method_inside = omega (arith, long, method-is);
        target_inside = omega (arith, long, start_is, target_is);
        minor_is = served-minor l.minor (rw version-is at made.served);
      }

pub line_refused : (line : List ℕ) (e : Refusal) → line_outcome (Err e) ≡ line_places_of line → refused (number_of e) ≡ request_line_of line
line_refused line e = by (request_line_of line)
  where
    by : (o : Outcome FirstLine) → ◌≡◌ {A = Outcome LineParts} (refused (number_of e)) (then o (λ f. gives (line_places f))) → refused (number_of e) ≡ o
    by (refused m) e = cc
    by (gives f) e = cc
