-- Of the SCGI reader: more bytes keep its answer, what it uses is there, what is cut gives 1, and spools hold.
-- Assumes nothing.
use Prim.Native.Nat.{ℕ, ◌+◌, ◌<◌}
use mathlib.Core.Path.{◌≡◌, refl, sym, ap}
use mathlib.Core.Bool.{Bool, true, false}
use mathlib.Core.List.{List, ◌++◌}
use native.Mathlib.Omega.{arith}
use lib.Dec.{eqb, leb, ltb}
use lib.ListN.{length, get_or, take, drop, get_or-append}
use borrow.Author.Tests.{eqb-true, ltb-true, leb-true}
use Rattle.octets.specs.Outcome.{Outcome, refused, gives, then, need}
use Rattle.octets.proofs.Lists.{part-more}
use Rattle.octets.proofs.Outcomes.{need-gives, then-gives}
use Rattle.framing.proofs.Spools.{spools-equal, spool-cut}
use Rattle.framing.proofs.SpoolSteps.{spool-goes-on}
use Rattle.framing.proofs.Keeps.{Keeps, was_cut, same, keeps_then, keeps-cond, keeps-end, kept, Steady, cut-one, steady-frames, still-leb, still-ltb}
use Rattle.scgi.specs.Check.{check_block}
use Rattle.scgi.specs.Digits.{digits_from, length_by}
use Rattle.scgi.specs.declared.netstring.Digits.{Digits}
use Rattle.scgi.specs.Netstring.{length_of}
use Rattle.scgi.specs.declared.netstring.Length.{Length}
use Rattle.scgi.specs.Read.{Places, places_at, read_of, used_of}
use Rattle.scgi.proofs.DigitRuns.{two_runs}
use Rattle.scgi.proofs.LengthDigits.{length-digits}
use Rattle.scgi.specs.Claims.{go_on, Links, MoreBytesKeepAnswer, UsedWithin, CutGivesOne, SpoolsHold}

-- more bytes change no length but where the digits had not met their colon
keeps-length : (s t : List ℕ) → Keeps (length_of s) (length_of (s ++ t))
keeps-length s t = rw (length-digits s, length-digits (s ++ t), two_runs s t 0 0) (by (digits_from 0 0 s))
  where
    by : (o : Outcome Digits) → Keeps (then o length_by) (then (then o (go_on t)) length_by)
    by (refused k) = same
    by (gives d) = by-colon d.colon refl
      where
        by-colon :
            (c : Bool) → d.colon ≡ c
            → Keeps (need d.colon 1 (gives (record { len = d.value; next = d.count + 1 })))
            (then (go_on t d) length_by)
        by-colon true e = rw e same
        by-colon false e = rw e was_cut

-- the chain behind the length, where the comma's place is within s
after-length :
    (s t : List ℕ) (l : Length) → l.next + l.len < length s
    → Keeps
    (need (eqb (get_or s (l.next + l.len) 0) 44) 4
    (then (check_block (take l.len (drop l.next s))) (λ n. need (leb (l.next + l.len + 1 + n) (length s)) 1 (gives (places_at l n)))))
    (need (eqb (get_or (s ++ t) (l.next + l.len) 0) 44) 4
    (then (check_block (take l.len (drop l.next (s ++ t)))) (λ n. need (leb (l.next + l.len + 1 + n) (length (s ++ t))) 1 (gives (places_at l n)))))
after-length s t l h =
    rw (get_or-append s t 0 (l.next + l.len) h, part-more s t l.next l.len (omega arith))
    (keeps-cond (eqb (get_or s (l.next + l.len) 0) 44)
    (keeps_then {o = check_block (take l.len (drop l.next s))} same
    (λ n e. keeps-end (leb (l.next + l.len + 1 + n) (length s)) (leb (l.next + l.len + 1 + n) (length (s ++ t)))
    (still-leb s t (l.next + l.len + 1 + n)) (λ x. same)))
    same)

pub keeps-read : (s t : List ℕ) → Keeps (read_of s) (read_of (s ++ t))
unfolding read_of
keeps-read s t =
    keeps_then (keeps-length s t)
    (λ l e. keeps-end (ltb (l.next + l.len) (length s)) (ltb (l.next + l.len) (length (s ++ t)))
    (still-ltb s t (l.next + l.len)) (λ x. after-length s t l (ltb-true (l.next + l.len) (length s) x)))

pub more-bytes-keep-answer : MoreBytesKeepAnswer
more-bytes-keep-answer s t h = kept (keeps-read s t) h

-- the links of an answer
pub links : (s : List ℕ) (p : Places) → read_of s ≡ gives p → Links s p
unfolding read_of
links s p e =
    let a = then-gives (length_of s) _ p e in
    let l : Length = a.it in
    let b = need-gives (ltb (l.next + l.len) (length s)) 1 _ p a.next in
    let c = need-gives (eqb (get_or s (l.next + l.len) 0) 44) 4 _ p b.1 in
    let d = then-gives (check_block (take l.len (drop l.next s))) _ p c.1 in
    let f = need-gives (leb (l.next + l.len + 1 + d.it) (length s)) 1 (gives (places_at l d.it)) p d.next in
    record {
      l = l;
      n = d.it;
      comma_at = record { length_read = a.first; there = ltb-true _ _ b.0; comma = eqb-true _ _ c.0 };
      block_checked = d.first;
      body_there = leb-true _ _ f.0;
      at = let g : gives p ≡ gives (places_at l d.it) = sym f.1 in cc;
    }

pub used-within : UsedWithin
used-within s p e =
    let k = links s p e in
    let u : p.used ≡ k.l.next + k.l.len + 1 + k.n = ap (λ (q : Places). q.used) k.at in
    (omega (arith, u), omega (arith, u, k.body_there))

steady : Steady read_of (λ p. p.used)
steady = record { more = more-bytes-keep-answer; within = used-within }

pub cut-gives-one : CutGivesOne
cut-gives-one = cut-one steady

pub spools-hold : SpoolsHold
spools-hold =
    let f = steady-frames steady in
    record { frames = f; equal = spools-equal used_of f; cut = spool-cut used_of f; goes_on = spool-goes-on used_of f }
