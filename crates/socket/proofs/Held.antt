-- Laws of the length digits that have come, and of what the buffer holds.
-- Assumes nothing.
use Prim.Native.Nat.{ℕ, ◌+◌, ◌≤◌}
use mathlib.Core.Path.{◌≡◌, refl, ap, ◌∙◌}
use mathlib.Core.Bool.{Bool, true}
use mathlib.Core.List.{List, ◌++◌}
use native.Mathlib.Omega.{arith}
use lib.ListN.{length, take, drop, length-take}
use Rattle.octets.specs.Outcome.{Outcome, refused, gives, then}
use Rattle.octets.specs.Copy.{over}
use Rattle.octets.proofs.Copies.{over-nil, before, length_over}
use Rattle.scgi.specs.Digits.{digits_from, length_by}
use Rattle.scgi.specs.declared.netstring.Digits.{Digits}
use Rattle.scgi.specs.Netstring.{length_of}
use Rattle.scgi.specs.declared.netstring.Length.{Length}
use Rattle.scgi.specs.Claims.{go_on}
use Rattle.scgi.proofs.Claims.{digits-go-on}
use Rattle.socket.specs.Claims.{stored_by, held_of}
use Rattle.socket.specs.declared.reader.Socket.{Socket}

-- the digits that a state tells, and whether their colon came
abbrev pub digits_in : Socket → Bool → Digits
digits_in s c = record { count = s.digits; value = s.len; colon = c }

-- the netstring's length that a state tells
abbrev pub length_in : Socket → Length
length_in s = record { len = s.len; next = s.digits + 1 }

-- the digits of t say what the state tells
abbrev pub Said : Socket → List ℕ → Type 0
Said s t = digits_from 0 0 t ≡ gives (digits_in s true)

pub by_digits : (t : List ℕ) (o : Outcome Digits) → digits_from 0 0 t ≡ o → length_of t ≡ then o length_by
by_digits t o e = digits-go-on.length_is t ∙ ap (λ (x : Outcome Digits). then x length_by) e

pub said-length : (s : Socket) (t : List ℕ) → Said s t → length_of t ≡ gives (length_in s)
said-length s t e = by_digits t (gives (digits_in s true)) e

-- more bytes
pub go_on-held : (t rest : List ℕ) (o : Outcome Digits) → digits_from 0 0 t ≡ o → digits_from 0 0 (t ++ rest) ≡ then o (go_on rest)
go_on-held t rest o e = digits-go-on.two_runs t rest 0 0 ∙ ap (λ (x : Outcome Digits). then x (go_on rest)) e

pub said_more : (s : Socket) (t rest : List ℕ) → Said s t → Said s (t ++ rest)
said_more s t rest e = go_on-held t rest (gives (digits_in s true)) e

-- a length that was read is within its limit
pub length-small : (t : List ℕ) (l : Length) → length_of t ≡ gives l → l.len ≤ 16384
length-small t l e =
    let a = digits-go-on.said t l e in
    rw a.is (digits-go-on.within t 0 0 a.digits (omega arith) (omega arith) a.read).small

-- What the buffer holds.

pub held_none : (lent t : List ℕ) (k : ℕ) → length_of t ≡ refused k → held_of lent t ≡ lent
unfolding held_of
held_none lent t k e = rw e (over-nil lent 0)

pub held-said : (lent : List ℕ) (s : Socket) (t : List ℕ) → Said s t → held_of lent t ≡ over lent 0 (take s.len (drop (s.digits + 1) t))
unfolding held_of
held-said lent s t e = rw (said-length s t e)

pub held-length : (lent t : List ℕ) → 16384 ≤ length lent → length (held_of lent t) ≡ length lent
unfolding held_of
held-length lent t room = by (length_of t) refl
  where
    by : (o : Outcome Length) → length_of t ≡ o → length (over lent 0 (stored_by t o)) ≡ length lent
    by (refused k) e = rw (over-nil lent 0)
    by (gives l) e =
        let small = length-small t l e in
        length_over lent 0 (take l.len (drop l.next t)) (simp length-take (omega arith))

-- n bytes over the front of the buffer are its first n
pub front : (lent x : List ℕ) (n : ℕ) → length x ≡ n → n ≤ length lent → take n (over lent 0 x) ≡ x
front lent x n l h =
    let e : n ≡ 0 + length x = omega arith in
    ap (λ (m : ℕ). take m (over lent 0 x)) e ∙ before lent 0 x (omega arith)
