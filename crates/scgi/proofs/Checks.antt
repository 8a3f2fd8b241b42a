-- A block passes the checks exactly where it is printed from a request's headers, and then states the body's length.
-- Assumes nothing.
use Prim.Native.Nat.{ℕ, ◌≤◌}
use Prim.{absurd}
use mathlib.Core.Path.{◌≡◌, refl, ap, ◌∙◌}
use mathlib.Core.Bool.{Bool, true, false, ◌&&◌, ◌||◌}
use mathlib.Core.List.{List, [], ◌∷◌}
use native.Mathlib.Omega.{arith}
use lib.Dec.{leb}
use lib.ListN.{length}
use borrow.Author.Tests.{le-leb, leb-true}
use Rattle.octets.specs.Text.{bytes}
use Rattle.octets.specs.Outcome.{gives, need, given}
use Rattle.octets.specs.Compare.{same_bytes}
use Rattle.octets.specs.Lists.{different}
use Rattle.octets.specs.Decimal.{number_of}
use Rattle.octets.proofs.Bools.{or-true}
use Rattle.octets.proofs.Outcomes.{need-gives, given-gives, then-gives}
use Rattle.octets.proofs.Compares.{same_true, same_refl}
use Rattle.octets.proofs.Names.{different-test, test-different}
use Rattle.octets.proofs.Decimals.{number-of-says, says-of-number}
use Rattle.headers.specs.Block.{Header, names, printed, parsed, Among, here, later}
use Rattle.scgi.specs.Grammar.{States, first, scgi1, IsRequest}
use Rattle.scgi.specs.Check.{stated_by, has, check_block}
use Rattle.headers.proofs.Claims.{printed-parsed, headers-proper}

states-test : (n : ℕ) (hs : List Header) → States n hs → stated_by hs ≡ gives n
states-test n [] x = elim x [ ]
states-test n (h ∷ hs) (first e p l) = rw (e, same_refl (bytes "CONTENT_LENGTH"), number-of-says n h.value p l)

test-states : (n : ℕ) (hs : List Header) → stated_by hs ≡ gives n → States n hs
test-states n [] e = absurd (let z : ◌≡◌ {A = ℕ} 0 1 = cc in omega arith)
test-states n (h ∷ hs) e =
    let a = need-gives (same_bytes h.name (bytes "CONTENT_LENGTH")) 8 (given (number_of h.value) 8) n e in
    let d = says-of-number n h.value (given-gives (number_of h.value) 8 n a.1) in
    first (same_true h.name (bytes "CONTENT_LENGTH") a.0) d.0 d.1

same-header : (h h' : Header) → h.name ≡ h'.name → h.value ≡ h'.value → h ≡ h'
same-header h h' n v =
    ap {B = Header} (λ (x : List ℕ). record { name = x; value = h.value }) n ∙ ap {B = Header} (λ (y : List ℕ). record { name = h'.name; value = y }) v

-- a header among others
pub among-test : (x : Header) (hs : List Header) → Among x hs → has x hs ≡ true
unfolding has
among-test x [] m = elim m [ ]
among-test x (h ∷ hs) here = rw (same_refl x.name, same_refl x.value)
among-test x (h ∷ hs) (later p) = rw (among-test x hs p) (or-true (same_bytes h.name x.name && same_bytes h.value x.value))

pub test-among : (x : Header) (hs : List Header) → has x hs ≡ true → Among x hs
unfolding has
test-among x [] e = absurd (let z : ◌≡◌ {A = ℕ} 0 1 = cc in omega arith)
test-among x (h ∷ hs) e = by (same_bytes h.name x.name) (same_bytes h.value x.value) refl refl e (test-among x hs)
  where
    by :
        (t q : Bool) → same_bytes h.name x.name ≡ t → same_bytes h.value x.value ≡ q → (t && q) || has x hs ≡ true
        → (has x hs ≡ true → Among x hs) → Among x (h ∷ hs)
    by true true a b f ih =
        let z : h ≡ x = same-header h x (same_true h.name x.name a) (same_true h.value x.value b) in
        rw z here
    by true false a b f ih = later (ih f)
    by false q a b f ih = later (ih f)

pub check-request : (hs : List Header) (body : List ℕ) → IsRequest hs body → check_block (printed hs) ≡ gives (length body)
unfolding check_block
check-request hs body r =
    rw
    (printed-parsed.back hs r.proper, le-leb (length hs) 128 r.header_limit, different-test (names hs) r.differ, states-test (length body) hs r.states, le-leb (length body) 1048576 r.body_limit, among-test scgi1 hs r.scgi)

-- the links of a block that passes
record Passed (b : List ℕ) (n : ℕ) : Type 0 where
  hs : List Header
  parted : parsed b ≡ gives hs
  count : length hs ≤ 128
  differ : different (names hs) ≡ true
  stated : stated_by hs ≡ gives n
  small : n ≤ 1048576
  scgi : has scgi1 hs ≡ true

passed : (b : List ℕ) (n : ℕ) → check_block b ≡ gives n → Passed b n
unfolding check_block
passed b n e =
    let a = then-gives (parsed b) _ n e in
    let hs : List Header = a.it in
    let c = need-gives (leb (length hs) 128) 6 _ n a.next in
    let d = need-gives (different (names hs)) 7 _ n c.1 in
    let f = then-gives (stated_by hs) _ n d.1 in
    let g = need-gives (leb f.it 1048576) 9 (need (has scgi1 hs) 10 (gives f.it)) n f.next in
    let k = need-gives (has scgi1 hs) 10 (gives f.it) n g.1 in
    let q : gives f.it ≡ gives n = k.1 in
    let u : f.it ≡ n = cc in
    record {
      hs = hs;
      parted = a.first;
      count = leb-true (length hs) 128 c.0;
      differ = d.0;
      stated = f.first ∙ ap gives u;
      small = rw (← u) (leb-true f.it 1048576 g.0);
      scgi = k.0;
    }

-- a bound, for code that goes on from a block that passed
pub check-bound : (b : List ℕ) (n : ℕ) → check_block b ≡ gives n → n ≤ 1048576
check-bound b n e = (passed b n e).small

-- b is the block of a request with this body
pub record Requested (b body : List ℕ) : Type 0 where
  pub hs : List Header
  pub block : printed hs ≡ b
  pub request : IsRequest hs body

pub checked-request : (b body : List ℕ) → length b ≤ 16384 → check_block b ≡ gives (length body) → Requested b body
checked-request b body m e =
    let q = passed b (length body) e in
    let p : printed q.hs ≡ b = printed-parsed.bytes b q.hs q.parted in
    record {
      hs = q.hs;
      block = p;
      request =
          record {
            proper = headers-proper b q.hs q.parted;
            differ = test-different (names q.hs) q.differ;
            states = test-states (length body) q.hs q.stated;
            scgi = test-among scgi1 q.hs q.scgi;
            block_limit = rw p m;
            header_limit = q.count;
            body_limit = q.small;
          };
    }
