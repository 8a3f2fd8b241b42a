-- Laws of a lent block, for the code that judges it.
-- Assumes nothing.
use Prim.Native.Nat.{ℕ, ◌≤◌, ◌<◌}
use mathlib.Core.Path.{◌≡◌, refl, sym, ap}
use mathlib.Core.Bool.{Bool, true, false, cond, ◌&&◌}
use mathlib.Core.List.{List}
use Rattle.std.proofs.Common.{Option, None, Some}
use lib.Dec.{leb, ltb}
use lib.ListN.{length}
use borrow.Author.Tests.{le-leb, lt-leb, leb-true, lt-ltb, le-ltb}
use Rattle.octets.specs.Outcome.{Outcome, refused, gives, then, need, given}
use Rattle.octets.specs.Lists.{different}
use Rattle.octets.proofs.Bools.{and-false}
use Rattle.octets.proofs.Outcomes.{Gave, need-gives, given-gives, gives-once, then-gives}
use Rattle.octets.proofs.Refusals.{only-number}
use Rattle.headers.specs.Block.{Header, names, headers_of, parsed, count_of}
use Rattle.mounts.specs.Blocks.{block_of, BlockGood, many_for, lacks_room, stored_of}
use Rattle.mounts.specs.Claims.{BlocksHold, BlocksTold}
use Rattle.mounts.proofs.Numbers.{block-refuses}

-- The headers of a block that has n.

pub counted : (b : List ℕ) (n : ℕ) → count_of b ≡ gives n → Gave (parsed b) (λ hs. gives (length hs)) n
counted b n e = then-gives (parsed b) (λ hs. gives (length hs)) n e

count : (b : List ℕ) (n : ℕ) (e : count_of b ≡ gives n) → length (counted b n e).it ≡ n
count b n e = gives-once _ n (counted b n e).next

-- A block of at most so many bytes.

need-refused : (t : Bool) → need {A = List Header} t 20 (refused 20) ≡ refused 20
need-refused true = refl
need-refused false = refl

-- Storing the names of a block, where there is room for so many places.

module _ (limit : ℕ) (b : List ℕ) (room : ℕ) where
  pub long-block : limit < length b → Some (refused 20) ≡ stored_of limit room b
  long-block h = rw (lt-leb (length b) limit h)

  pub malformed-block : (k : ℕ) → count_of b ≡ refused k → Some (refused 20) ≡ stored_of limit room b
  malformed-block k e = by (headers_of b) e
    where
      by :
          (o : Option (List Header)) → then (given o 5) (λ hs. gives (length hs)) ≡ refused k
          → Some (refused 20)
          ≡ cond (leb (length b) limit && many_for room o) None
          (Some (then (need (leb (length b) limit) 20 (then (given o 20) (λ hs. need (different (names hs)) 20 (gives hs)))) (λ hs. gives (length hs))))
      by None q = rw (and-false (leb (length b) limit), need-refused (leb (length b) limit))
      by (Some hs) q = cc

  module _ (n : ℕ) (e : count_of b ≡ gives n) (l : length b ≤ limit) where
    lacks : lacks_room limit room b ≡ ltb room n
    lacks =
        let g = counted b n e in
        rw (le-leb (length b) limit l, given-gives (headers_of b) 5 g.it g.first, count b n e)

    pub full_block : room < n → None ≡ stored_of limit room b
    full_block h = rw (lacks, lt-ltb room n h)

    -- by whether the names differ
    by_names : (r : Bool) → then (parsed b) (λ hs. gives (different (names hs))) ≡ gives r → block_of limit b ≡ need r 20 (gives (counted b n e).it)
    by_names r d =
        let g = counted b n e in
        let z : different (names g.it) ≡ r = gives-once _ r (rw g.first at d) in
        rw (le-leb (length b) limit l, given-gives (headers_of b) 5 g.it g.first, z)

    by-test : (hs : List Header) → length hs ≡ n → (r : Bool) → then (need r 20 (gives hs)) (λ xs. gives (length xs)) ≡ need r 20 (gives n)
    by-test hs z true = ap gives z
    by-test hs z false = refl

    pub roomy-block : n ≤ room → (r : Bool) → then (parsed b) (λ hs. gives (different (names hs))) ≡ gives r → Some (need r 20 (gives n)) ≡ stored_of limit room b
    roomy-block h r d = rw (lacks, le-ltb room n h, by_names r d) (ap Some (sym (by-test (counted b n e).it (count b n e) r)))

-- What is accepted, and what the answers say.

pub blocks-hold : BlocksHold
blocks-hold =
    record {
      accepts = λ limit b hs e.
          let n = need-gives (leb (length b) limit) 20 _ hs e in
          let g = then-gives (given (headers_of b) 20) _ hs n.1 in
          let d = need-gives (different (names g.it)) 20 (gives g.it) hs g.next in
          let z : g.it ≡ hs = gives-once _ hs d.1 in
          record {
            headers = rw (given-gives (headers_of b) 20 g.it g.first) (ap gives z);
            within = leb-true (length b) limit n.0;
            differ = rw (← z) d.0;
          };
      number = λ limit b n e. only-number n 20 (block-refuses limit b) e;
    }

module _ (limit room : ℕ) (b : List ℕ) where
  is-full : None ≡ stored_of limit room b → lacks_room limit room b ≡ true
  is-full e = by (lacks_room limit room b) e
    where
      by : (t : Bool) → None ≡ cond t None (Some (then (block_of limit b) (λ hs. gives (length hs)))) → t ≡ true
      by true q = refl
      by false q = cc

  has_room : (o : Outcome ℕ) → Some o ≡ stored_of limit room b → (lacks_room limit room b ≡ false) × (then (block_of limit b) (λ hs. gives (length hs)) ≡ o)
  has_room o e = by (lacks_room limit room b) e
    where
      by :
          (t : Bool) → Some o ≡ cond t None (Some (then (block_of limit b) (λ hs. gives (length hs))))
          → (t ≡ false) × (then (block_of limit b) (λ hs. gives (length hs)) ≡ o)
      by true q = (cc, cc)
      by false q = (refl, cc)

  is-breach : Some (refused 20) ≡ stored_of limit room b → (lacks_room limit room b ≡ false) × (block_of limit b ≡ refused 20)
  is-breach e = ((has_room (refused 20) e).0, by (block_of limit b) (has_room (refused 20) e).1)
    where
      by : (o : Outcome (List Header)) → then o (λ hs. gives (length hs)) ≡ refused 20 → o ≡ refused 20
      by (refused k) q = cc
      by (gives hs) q = cc

  is-good : (n : ℕ) → Some (gives n) ≡ stored_of limit room b → (lacks_room limit room b ≡ false) × BlockGood limit b
  is-good n e =
      let h = has_room (gives n) e in
      let g = then-gives (block_of limit b) (λ hs. gives (length hs)) n h.1 in
      (h.0, record { hs = g.it; headers = (blocks-hold.accepts limit b g.it g.first).headers; accepted = g.first })

pub blocks-told : BlocksTold
blocks-told = record { full = is-full; breach = is-breach; good = is-good }
