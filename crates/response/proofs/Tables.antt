-- Laws of the table of actions, for the code of its rows.
-- Assumes nothing.
use Prim.Native.Nat.{ℕ, zero, suc, ◌+◌, ◌-◌, ◌≤◌, ◌<◌}
use mathlib.Core.Path.{◌≡◌, refl, sym, ap, ◌∙◌}
use mathlib.Core.Bool.{Bool, true, false, not, false≢true}
use mathlib.Core.List.{List}
use Rattle.std.proofs.Common.{Option, None, Some}
use Rattle.std.specs.Option.{is_some, unwrap_or}
use native.Mathlib.Nat.{add-zero}
use native.Mathlib.Omega.{arith}
use lib.ListN.{length, take, drop, get_or, length-take, length-drop}
use lib.Seq.{get_or-take, get_or-drop}
use borrow.Author.Tests.{eq-eqb, ne_eqb}
use Rattle.octets.specs.Outcome.{refused, gives}
use Rattle.octets.specs.Lists.{is_nil}
use Rattle.octets.specs.declared.span.Span.{Span}
use Rattle.response.specs.Seen.{value_at}
use Rattle.response.specs.Location.{filled}
use Rattle.response.specs.Table.{Script, local, elsewhere, script, redirecting, status_or, script_of, table_of}
use Rattle.response.specs.declared.fields.Mark.{Mark}
use Rattle.response.specs.declared.fields.Mark.TheVariants.{Once}
use Rattle.response.specs.declared.table.Action.TheVariants.{Redirect, RedirectDocument}

-- Another Location, without Content-Type and with it.

module _ (p q : Span) (n : ℕ) where
  abbrev x : Option ℕ → Bool → Script
  x t c = script elsewhere p.start p.len t c n q.start q.len

  pub stated : (t : Option ℕ) → is_some t ≡ true → table_of (x t false) ≡ refused 25
  unfolding table_of
  stated None e = absurd (false≢true e)
  stated (Some m) e = refl

  pub some-body : (t : Option ℕ) → (q.len ≡ 0 → ⊥) → table_of (x t false) ≡ refused 25
  unfolding table_of
  some-body None h = rw (ne_eqb q.len 0 h)
  some-body (Some m) h = refl

  pub redirected :
      (t : Option ℕ) → is_some t ≡ false → q.len ≡ 0
      → table_of (x t false) ≡ gives (record { action = Redirect; status = 302; location = p; body = q })
  unfolding table_of
  redirected None e h = rw (eq-eqb q.len 0 h)
  redirected (Some m) e h = cc

  pub not-stated : (t : Option ℕ) → t ≡ None → table_of (x t true) ≡ refused 25
  unfolding table_of
  not-stated t e = rw e

  pub other-status : (t : Option ℕ) (m : ℕ) → t ≡ Some m → redirecting m ≡ false → table_of (x t true) ≡ refused 25
  unfolding table_of
  other-status t m e h = rw (e, h)

  pub redirect-status :
      (t : Option ℕ) (m : ℕ) → t ≡ Some m → redirecting m ≡ true
      → table_of (x t true) ≡ gives (record { action = RedirectDocument; status = m; location = p; body = q })
  unfolding table_of
  redirect-status t m e h = rw (e, h)

-- the library's word for "Status or"
pub status-or : (n : ℕ) (t : Option ℕ) → unwrap_or t n ≡ status_or n t
status-or n None = refl
status-or n (Some m) = refl

-- A mark's Location, at the place p.

pub filled-some : (s : List ℕ) (m : Mark) (p : Span) → filled (value_at s m) ≡ true → m ≡ Once p → 0 < p.len
filled-some s m p f e = by p.len (ap (λ (k : Mark). filled (value_at s k)) (sym e) ∙ f)
  where
    by : (l : ℕ) → not (is_nil (take l (drop p.start s))) ≡ true → 0 < l
    by zero q = absurd (false≢true q)
    by (suc l) q = omega arith

-- what the table is asked, by its first byte
module _ (s : List ℕ) (m : Mark) (b n : ℕ) (c : Bool) (t : Option ℕ) (p : Span) (e : m ≡ Once p) (inside : p.start + p.len ≤ length s) (some_bytes : 0 < p.len) where
  first_byte : get_or (take p.len (drop p.start s)) 0 0 ≡ get_or s p.start 0
  first_byte = get_or-take p.len (drop p.start s) 0 0 some_bytes ∙ get_or-drop p.start s 0 0 ∙ ap (λ (k : ℕ). get_or s k 0) (add-zero p.start)

  all-bytes : length (take p.len (drop p.start s)) ≡ p.len
  all-bytes = simp (length-take, length-drop) (omega arith)

  pub local-script : get_or s p.start 0 ≡ 47 → script_of s b n c (value_at s m) t ≡ script local p.start p.len t c n b (length s - b)
  local-script h = ap (λ (k : Mark). script_of s b n c (value_at s k) t) e ∙ rw (first_byte, all-bytes, eq-eqb _ _ h)

  pub other-script : (get_or s p.start 0 ≡ 47 → ⊥) → script_of s b n c (value_at s m) t ≡ script elsewhere p.start p.len t c n b (length s - b)
  other-script h = ap (λ (k : Mark). script_of s b n c (value_at s k) t) e ∙ rw (first_byte, all-bytes, ne_eqb _ _ h)
