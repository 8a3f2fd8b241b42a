-- Laws of a field line that is read in place: the run of its name's bytes ends at the colon, the run of its value's bytes where
-- the line does.
-- Assumes nothing.
use mathlib.Core.Path.{◌≡◌, refl, sym, ap, ◌∙◌}
use mathlib.Core.Bool.{Bool, true, false, cond, not, ◌&&◌, ◌||◌, and-false}
use mathlib.Core.List.{List, [], ◌∷◌}
use Rattle.std.proofs.Common.{Option, None, Some}
use Prim.Native.Nat.{ℕ, zero, suc, ◌+◌, ◌-◌, ◌≤◌, ◌<◌}
use native.Mathlib.Nat.{le_refl}
use native.Mathlib.Omega.{arith}
use lib.Dec.{eqb, leb}
use lib.ListN.{length, take, drop, get_or, length-take, length-drop}
use lib.Seq.{take-take, take-add, get_or-take, get_or-drop, drop-drop, drop_at, length-take-le}
use borrow.Author.Tests.{eq-eqb, eqb-true, eqb-false, lt-ltb, le-leb, lt-leb, leb-true, leb-false}
use Rattle.octets.specs.Kinds.{is_digit, is_letter, is_token, is_name, is_blank, is_value}
use Rattle.octets.specs.Scan.{run, all_of, other}
use Rattle.octets.specs.Trim.{kept, trimmed, trimmed_end}
use Rattle.octets.proofs.Scans.{run-within, all_take}
use Rattle.octets.proofs.Trims.{kept-take}
use Rattle.http_head.specs.Lines.{ends_line, lines_of, line_run}
use Rattle.http_head.specs.Fields.{Field, is_field_name, field_with, field_of, name_length, value_start, value_length, place_if, place_of}
use Rattle.http_head.proofs.FieldLines.{no-colon, bad-name}
use Rattle.http_head.proofs.LineCuts.{passes-other, ends_at, line-more, line-le, run-line, line_on, first-line}

-- PARTS OF A LIST

-- what follows the first n bytes of the first m
drop-take : (n m : ℕ) (s : List ℕ) → n ≤ m → n ≤ length s → drop n (take m s) ≡ take (m - n) (drop n s)
drop-take n m s h l =
    let e : n + (m - n) ≡ m = omega arith in
    ap (λ (k : ℕ). drop n (take k s)) (sym e)
    ∙ ap (drop n) (take-add n (m - n) s)
    ∙ drop_at (take n s) (take (m - n) (drop n s)) n (length-take-le n s l)

-- a run that ends within the first m bytes is theirs
run_take : (p : ℕ → Bool) (s : List ℕ) (m : ℕ) → run p s ≤ m → run p (take m s) ≡ run p s
unfolding run
run_take p [] zero h = refl
run_take p [] (suc m) h = refl
run_take p (b ∷ s) zero h = omega arith
run_take p (b ∷ s) (suc m) h = by (p b) h (run_take p s m)
  where
    by :
        (t : Bool) → cond t (suc (run p s)) 0 ≤ suc m → (run p s ≤ m → run p (take m s) ≡ run p s)
        → cond t (suc (run p (take m s))) 0 ≡ cond t (suc (run p s)) 0
    by true h ih = ap suc (ih (omega arith))
    by false h ih = refl

-- the first x stands in s
first-there : (x : ℕ) (s : List ℕ) → run (other x) s < length s → get_or s (run (other x) s) 0 ≡ x
unfolding run
first-there x [] h = absurd (omega arith)
first-there x (b ∷ s) h = by (eqb b x) refl h (first-there x s)
  where
    by :
        (t : Bool) → eqb b x ≡ t → cond (not t) (suc (run (other x) s)) 0 < suc (length s)
        → (run (other x) s < length s → get_or s (run (other x) s) 0 ≡ x) → get_or (b ∷ s) (cond (not t) (suc (run (other x) s)) 0) 0 ≡ x
    by true e h ih = eqb-true b x e
    by false e h ih = ih (omega arith)

-- A BYTE x THAT FAILS THE TEST p

module _ (p : ℕ → Bool) (x : ℕ) (fails : p x ≡ false) where
  -- the run ends at the first x, or before it
  run-before : (s : List ℕ) → run p s ≤ run (other x) s
  unfolding run
  run-before [] = omega arith
  run-before (b ∷ s) = by (p b) refl (run-before s)
    where
      by : (t : Bool) → p b ≡ t → run p s ≤ run (other x) s → cond t (suc (run p s)) 0 ≤ cond (not (eqb b x)) (suc (run (other x) s)) 0
      by true e h = rw (passes-other p x fails b e) (omega arith)
      by false e h = omega arith

  -- .. and at the first x where it ends at one
  run-first : (s : List ℕ) → run p s < length s → get_or s (run p s) 0 ≡ x → run (other x) s ≡ run p s
  unfolding run
  run-first [] h q = absurd (omega arith)
  run-first (b ∷ s) h q = by (p b) refl h q (run-first s)
    where
      by :
          (t : Bool) → p b ≡ t → cond t (suc (run p s)) 0 < suc (length s) → get_or (b ∷ s) (cond t (suc (run p s)) 0) 0 ≡ x
          → (run p s < length s → get_or s (run p s) 0 ≡ x → run (other x) s ≡ run p s)
          → cond (not (eqb b x)) (suc (run (other x) s)) 0 ≡ cond t (suc (run p s)) 0
      by true e h q ih = rw (passes-other p x fails b e) (ap suc (ih (omega arith) q))
      by false e h q ih = rw (eq-eqb b x q)

-- SPACES AND TABS AT THE ENDS, of bytes whose test p they pass

module _ (p : ℕ → Bool) (passes : (b : ℕ) → is_blank b ≡ true → p b ≡ true) where
  all-kept : (s : List ℕ) → all_of p (trimmed_end s) ≡ all_of p s
  unfolding kept all_of
  all-kept [] = refl
  all-kept (b ∷ s) = by (eqb (kept s) 0) (is_blank b) refl refl (all-kept s)
    where
      by :
          (t u : Bool) → eqb (kept s) 0 ≡ t → is_blank b ≡ u → all_of p (trimmed_end s) ≡ all_of p s
          → all_of p (take (cond (t && u) 0 (suc (kept s))) (b ∷ s)) ≡ p b && all_of p s
      by true true q e h = rw (passes b e) (ap (λ (k : ℕ). all_of p (take k s)) (sym (eqb-true (kept s) 0 q)) ∙ h)
      by true false q e h = ap (◌&&◌ (p b)) h
      by false u q e h = ap (◌&&◌ (p b)) h

  all-begun : (s : List ℕ) → all_of p (drop (run is_blank s) s) ≡ all_of p s
  unfolding run all_of
  all-begun [] = refl
  all-begun (b ∷ s) = by (is_blank b) refl (all-begun s)
    where
      by :
          (t : Bool) → is_blank b ≡ t → all_of p (drop (run is_blank s) s) ≡ all_of p s
          → all_of p (drop (cond t (suc (run is_blank s)) 0) (b ∷ s)) ≡ p b && all_of p s
      by true e h = rw (passes b e) h
      by false e h = refl

  all-trimmed : (s : List ℕ) → all_of p (trimmed s) ≡ all_of p s
  all-trimmed s = all-kept (drop (run is_blank s) s) ∙ all-begun s

blank-value : (b : ℕ) → is_blank b ≡ true → is_value b ≡ true
unfolding is_blank is_value
blank-value b = by (eqb b 32) (eqb b 9) refl refl
  where
    by : (t u : Bool) → eqb b 32 ≡ t → eqb b 9 ≡ u → t || u ≡ true → is_value b ≡ true
    by true u p q e = ap is_value (eqb-true b 32 p)
    by false true p q e = ap is_value (eqb-true b 9 q)
    by false false p q e = cc

-- the value of a line that is the first m bytes of s
value-part :
    (s : List ℕ) (m : ℕ) → run is_blank s ≤ m → m ≤ length s
    → (let b = run is_blank s in
    trimmed (take m s) ≡ take (kept (take (m - b) (drop b s))) (drop b s))
value-part s m h l =
    let b = run is_blank s in
    ap (λ (k : ℕ). trimmed_end (drop k (take m s))) (run_take is_blank s m h)
    ∙ ap trimmed_end (drop-take b m s h (omega arith))
    ∙ take-take (kept (take (m - b) (drop b s))) (m - b) (drop b s) (kept-take (m - b) (drop b s))

-- neither CR nor the colon is a byte of a name
name-cr : is_name 13 ≡ false
unfolding is_name is_token is_digit is_letter
name-cr = refl

name-colon : is_name 58 ≡ false
unfolding is_name is_token is_digit is_letter
name-colon = refl

-- THE FIELD OF THE LINE THAT s BEGINS WITH, by the run of its name's bytes

module _ (s : List ℕ) where
  abbrev line : List ℕ
  line = take (line_run s) s

  line-length : length line ≡ line_run s
  line-length = length-take-le (line_run s) s (line-le s)

  name-run : run is_name line ≡ run is_name s
  name-run = run_take is_name s (line_run s) (run-line is_name name-cr s)

  -- the run of a name's bytes ends at no colon
  no_field : (run is_name s < length s → get_or s (run is_name s) 0 ≡ 58 → ⊥) → field_of is_name line ≡ None
  no_field h = by (leb (length line) (run (other 58) line)) refl
    where
      by : (t : Bool) → leb (length line) (run (other 58) line) ≡ t → field_of is_name line ≡ None
      by true e = no-colon is_name line (run (other 58) line) (omega arith) (leb-true _ _ e)
      by false e =
          let i : run (other 58) line < length line = leb-false _ _ e in
          let b : run is_name line ≤ run (other 58) line = run-before is_name 58 name-colon line in
          let d : run is_name line ≡ run (other 58) line → ⊥ =
          λ q. h (omega (arith, name-run, line-length, line-le s)) (rw (sym name-run, q) (sym (get_or-take (line_run s) s (run (other 58) line) 0 (omega (arith, line-length))) ∙ first-there 58 line i)) in
          bad-name is_name line (run (other 58) line) (omega arith) i (run is_name line) (omega arith) (omega arith)

  -- .. or at one
  module _ (i : run is_name s < length s) (q : get_or s (run is_name s) 0 ≡ 58) where
    abbrev n : ℕ
    n = run is_name s

    abbrev rest : List ℕ
    rest = drop (n + 1) s

    line-past : line_run s ≡ n + 1 + line_run rest
    line-past =
        let e : ends_line (drop n s) ≡ false = ends_at s n ∙ rw q in
        omega (arith, line_on is_name name-cr s 0 n (omega arith), line-more s n i e)

    name-length : name_length line ≡ n
    name-length =
        let j : run is_name line < length line = omega (arith, name-run, line-length, line-past) in
        let c : get_or line (run is_name line) 0 ≡ 58 = rw name-run (get_or-take (line_run s) s n 0 (omega (arith, line-past)) ∙ q) in
        run-first is_name 58 name-colon line j c ∙ name-run

    at-colon : field_of is_name line ≡ field_with is_name line n
    unfolding field_of
    at-colon = ap (field_with is_name line) name-length

    after-name : drop (n + 1) line ≡ take (line_run rest) rest
    after-name =
        let m : line_run s - (n + 1) ≡ line_run rest = omega (arith, line-past) in
        drop-take (n + 1) (line_run s) s (omega (arith, line-past)) (omega arith) ∙ ap (λ (k : ℕ). take k rest) m

    value-start : value_start line ≡ n + 1 + run is_blank rest
    unfolding is_blank
    value-start =
        ap (λ (m : ℕ). m + 1 + run is_blank (drop (m + 1) line)) name-length
        ∙ ap (λ (t : List ℕ). n + 1 + run is_blank t) after-name
        ∙ ap (λ (m : ℕ). n + 1 + m) (run_take is_blank rest (line_run rest) (run-line is_blank refl rest))

    value-length : value_length line ≡ length (trimmed (take (line_run rest) rest))
    value-length = ap (λ (m : ℕ). length (trimmed (drop (m + 1) line))) name-length ∙ ap (λ (t : List ℕ). length (trimmed t)) after-name

    empty_name : n ≡ 0 → field_of is_name line ≡ None
    empty_name z = at-colon ∙ rw z (simp and-false)

    module _ (z : n ≡ 0 → ⊥) where
      name_is : take n line ≡ take n s
      name_is = take-take n (line_run s) s (run-line is_name name-cr s)

      name-test : is_field_name is_name (take n s) ≡ true
      name-test =
          let m : 0 < length (take n s) = simp length-take (omega arith) in
          simp (lt-ltb 0 (length (take n s)) m, all_take is_name s n (omega arith), le-leb n n (le_refl n))

      value-test : all_of is_value (trimmed (take (line_run rest) rest)) ≡ leb (line_run rest) (run is_value rest)
      value-test = all-trimmed is_value blank-value (take (line_run rest) rest) ∙ all_take is_value rest (line_run rest) (line-le rest)

      by_value :
          field_of is_name line
          ≡ cond (leb (line_run rest) (run is_value rest)) (Some (record { name = take n s; value = trimmed (take (line_run rest) rest) })) None
      by_value =
          at-colon ∙ rw (name_is, after-name, value-test, name-test, lt-ltb n (length line) (omega (arith, line-length, line-past)))

-- THE LINE OF head THAT BEGINS AT start, where the run of the name's bytes ends at c

module _ (head : List ℕ) (start c : ℕ) (l : start ≤ length head) (name : c ≡ start + run is_name (drop start head)) where
  byte : get_or (drop start head) (run is_name (drop start head)) 0 ≡ get_or head c 0
  byte = get_or-drop start head (run is_name (drop start head)) 0 ∙ ap (λ (k : ℕ). get_or head k 0) (sym name)

  malformed : field_of is_name (lines_of (drop start head)).first ≡ None → None ≡ place_of is_name head start
  malformed e = sym (ap (λ (o : Option Field). place_if o start (lines_of (drop start head)).first) e)

  pub colonless : (c < length head → get_or head c 0 ≡ 58 → ⊥) → None ≡ place_of is_name head start
  colonless h =
      malformed
      (ap (field_of is_name) (first-line (drop start head))
      ∙ no_field (drop start head) (λ i q. h (omega (arith, length-drop start head)) (sym byte ∙ q)))

  -- .. which is the colon
  module _ (i : c < length head) (q : get_or head c 0 ≡ 58) where
    inside : run is_name (drop start head) < length (drop start head)
    inside = omega (arith, length-drop start head)

    pub nameless : c ≡ start → None ≡ place_of is_name head start
    nameless z =
        malformed
        (ap (field_of is_name) (first-line (drop start head))
        ∙ empty_name (drop start head) inside (byte ∙ q) (omega arith))

    abbrev after : List ℕ
    after = drop (c + 1) head

    after_is : drop (run is_name (drop start head) + 1) (drop start head) ≡ after
    after_is =
        let e : start + (run is_name (drop start head) + 1) ≡ c + 1 = omega arith in
        drop-drop (run is_name (drop start head) + 1) start head ∙ ap (λ (k : ℕ). drop k head) e

    line-is : start + line_run (drop start head) ≡ c + 1 + line_run after
    line-is = omega (arith, line-past (drop start head) inside (byte ∙ q), ap line_run after_is)

    -- .. and the run of the value's bytes ends at e
    module _ (z : c ≡ start → ⊥) (e : ℕ) (value : e ≡ c + 1 + run is_value (drop (c + 1) head)) where
      field_is :
          field_of is_name (lines_of (drop start head)).first
          ≡ cond (leb (line_run after) (run is_value after)) (Some (record { name = take (c - start) (drop start head); value = trimmed (take (line_run after) after) })) None
      field_is =
          let n : run is_name (drop start head) ≡ c - start = omega arith in
          ap (field_of is_name) (first-line (drop start head))
          ∙ by_value (drop start head) inside (byte ∙ q) (λ y. z (omega arith))
          ∙ rw (after_is, n)

      value_line : line_run after ≡ run is_value after + line_run (drop e head)
      unfolding is_value
      value_line = omega (arith, line_on is_value refl head (c + 1) e value)

      pub valueless : eqb (line_run (drop e head)) 0 ≡ false → None ≡ place_of is_name head start
      valueless h =
          let y : line_run (drop e head) ≡ 0 → ⊥ = eqb-false (line_run (drop e head)) 0 h in
          malformed (field_is ∙ rw (lt-leb (line_run after) (run is_value after) (omega (arith, value_line))))

      -- .. where the line ends
      module _ (ends : eqb (line_run (drop e head)) 0 ≡ true) (v : ℕ) (begins : v ≡ c + 1 + run is_blank (drop (c + 1) head)) where
        whole : line_run after ≡ run is_value after
        whole = omega (arith, value_line, eqb-true (line_run (drop e head)) 0 ends)

        blanks : run is_blank after ≤ line_run after
        unfolding is_blank
        blanks = run-line is_blank refl after

        pub begins-in : v ≤ e
        begins-in = omega (arith, whole, blanks)

        pub ends-in : e ≤ length head
        ends-in = omega (arith, run-within is_value head (c + 1) (omega arith))

        module _ (k : ℕ) (stays : k ≡ kept (take (e - v) (drop v head))) where
          value_there : trimmed (take (line_run after) after) ≡ take k (drop v head)
          value_there =
              let d : drop (run is_blank after) after ≡ drop v head = drop-drop (run is_blank after) (c + 1) head ∙ ap (λ (k : ℕ). drop k head) (sym begins) in
              let m : line_run after - run is_blank after ≡ e - v = omega (arith, whole) in
              value-part after (line_run after) blanks (line-le after) ∙ rw (d, m) (ap (λ (k : ℕ). take k (drop v head)) (sym stays))

          field-there : field_of is_name (line (drop start head)) ≡ Some (record { name = take (c - start) (drop start head); value = take k (drop v head) })
          field-there =
              sym (ap (field_of is_name) (first-line (drop start head))) ∙ field_is
              ∙ rw (le-leb (line_run after) (run is_value after) (omega (arith, whole)), value_there)

          value_in : v + k ≤ length head
          value_in = omega (arith, kept-take (e - v) (drop v head), begins-in, ends-in)

          name-told : name_length (line (drop start head)) ≡ c - start
          name-told = omega (arith, name-length (drop start head) inside (byte ∙ q))

          start-told : start + value_start (line (drop start head)) ≡ v
          start-told = omega (arith, value-start (drop start head) inside (byte ∙ q), ap (λ (t : List ℕ). run is_blank t) after_is)

          length-told : value_length (line (drop start head)) ≡ k
          length-told =
              value-length (drop start head) inside (byte ∙ q)
              ∙ ap (λ (t : List ℕ). length (trimmed (take (line_run t) t))) after_is
              ∙ ap length value_there
              ∙ simp (length-take, length-drop) (omega (arith, value_in))

          end-told : start + length (line (drop start head)) ≡ e
          end-told = omega (arith, line-length (drop start head), line-is, whole)

          pub stands :
              Some (record { name = record { start = start; len = c - start }; value = record { start = v; len = k } }, e)
              ≡ place_of is_name head start
          stands =
              sym
              (ap (λ (l : List ℕ). place_if (field_of is_name l) start l) (first-line (drop start head))
              ∙ ap (λ (o : Option Field). place_if o start (line (drop start head))) field-there
              ∙ rw (start-told, length-told, end-told, name-told))
