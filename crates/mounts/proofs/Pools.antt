-- The mounts of a block are its headers, each pool where its value stands.
-- Assumes nothing.
use Prim.Native.Nat.{ℕ, ◌+◌, ◌≤◌}
use mathlib.Core.Path.{◌≡◌, refl, sym, ap, subst, ◌∙◌}
use mathlib.Core.Bool.{not}
use mathlib.Core.List.{List, [], ◌∷◌, ◌++◌}
use native.Mathlib.Nat.{add_assoc}
use native.Mathlib.Omega.{arith}
use lib.Dec.{leb}
use lib.ListN.{length, drop, length-append, length-drop}
use lib.Seq.{drop-drop, drop-append-add, take-append-le}
use Rattle.octets.specs.Outcome.{gives}
use Rattle.octets.specs.Lists.{All, ◌&◌, is_nil}
use Rattle.octets.specs.Scan.{run, other}
use Rattle.octets.proofs.Scans.{run-le}
use Rattle.octets.proofs.Outcomes.{need-gives, gives-once, then-gives}
use Rattle.headers.specs.Block.{Header, Proper, printed, parsed}
use Rattle.headers.proofs.Claims.{headers-proper, printed-parsed}
use Rattle.mounts.specs.Blocks.{block_of}
use Rattle.mounts.specs.Value.{pool_of, limit_of, value_of}
use Rattle.mounts.specs.declared.value.Value.{Value}
use Rattle.mounts.specs.Mounts.{Mount, begins, ends, mount_at, mounts_from, mounts_of}
use Rattle.mounts.specs.Claims.{MountOf, Each, none_left, one_more, MountsAreHeaders}
use Rattle.mounts.proofs.BlockSteps.{blocks-hold}
use Rattle.mounts.proofs.Values.{pool-is, pool-length, limit-small}

-- a mount by its header, whose value stands at i
pub record Made (i : ℕ) (h : Header) (m : Mount) : Type 0 where
  pub value : Value
  pub read : value_of h.value ≡ gives value
  pub is : record { name = h.name; pool_start = i; pool_length = value.len; limit = value.limit } ≡ m

pub mount-made : (i : ℕ) (h : Header) (m : Mount) → mount_at i h ≡ gives m → Made i h m
mount-made i h m e =
    let a = need-gives (begins (47 ∷ []) h.name) 20 _ m e in
    let b = need-gives (not (ends 47 h.name)) 20 _ m a.1 in
    let c = then-gives (value_of h.value) _ m b.1 in
    record { value = c.it; read = c.first; is = gives-once _ m c.next }

-- the two parts of a value
record ValueMade (v : List ℕ) (w : Value) : Type 0 where
  pool : w.len ≡ length (pool_of v)
  limit : limit_of v ≡ gives w.limit

value_made : (v : List ℕ) (w : Value) → value_of v ≡ gives w → ValueMade v w
unfolding value_of
value_made v w e =
    let a = need-gives (not (is_nil (pool_of v))) 20 _ w e in
    let b = then-gives (limit_of v) _ w a.1 in
    let z : record { len = length (pool_of v); limit = b.it } ≡ w = gives-once _ w b.next in
    record { pool = sym (ap (λ (x : Value). x.len) z); limit = b.first ∙ ap (λ (x : Value). gives x.limit) z }

-- headers that are printed in b from i on
module _ (b : List ℕ) where
  behind : (i : ℕ) (p q : List ℕ) → drop i b ≡ p ++ 0 ∷ q → drop (i + length p + 1) b ≡ q
  behind i p q e = rw (add_assoc i (length p) 1) (sym (drop-drop (length p + 1) i b) ∙ ap (drop (length p + 1)) e ∙ drop-append-add p (0 ∷ q) 1)

  mount-of : (i : ℕ) (h : Header) (m : Mount) (rest : List ℕ) → Proper h → drop i b ≡ h.value ++ 0 ∷ rest → mount_at i h ≡ gives m → MountOf b m h
  mount-of i h m rest p e a =
      let d = mount-made i h m a in
      let w = value_made h.value d.value d.read in
      let n : length (pool_of h.value) ≤ length h.value = omega (arith, pool-length h.value, run-le (other 59) h.value) in
      subst (λ (x : Mount). MountOf b x h) d.is
      (record {
        name = refl;
        no_nul = p.name_bytes;
        inside = omega (arith, w.pool, ap length e, length-drop i b, length-append h.value (0 ∷ rest));
        pool =
            rw (w.pool, e, pool-length h.value)
            (take-append-le (run (other 59) h.value) h.value (0 ∷ rest) (run-le (other 59) h.value) ∙ sym (pool-is h.value));
        limit = w.limit;
        small = limit-small h.value d.value.limit w.limit;
      })

  each_at : (i : ℕ) (hs : List Header) (ms : List Mount) → All Proper hs → drop i b ≡ printed hs → mounts_from i hs ≡ gives ms → Each b ms hs
  unfolding printed mounts_from
  each_at i [] ms p e a = subst (λ (x : List Mount). Each b x []) (gives-once _ ms a) none_left
  each_at i (h ∷ hs) ms (p & ps) e a =
      let j : ℕ = i + length h.name + 1 in
      let n = behind i h.name (h.value ++ 0 ∷ printed hs) e in
      let f = then-gives (mount_at j h) _ ms a in
      let g = then-gives (mounts_from (j + length h.value + 1) hs) _ ms f.next in
      let m : MountOf b f.it h = mount-of j h f.it (printed hs) p n f.first in
      let rest = each_at (j + length h.value + 1) hs g.it ps (behind j h.value (printed hs) n) g.first in
      subst (λ (x : List Mount). Each b x (h ∷ hs)) (gives-once _ ms g.next) (one_more m rest)

-- Mounts that are what they must be, and their headers.

pub record Held (block : List ℕ) (ms : List Mount) : Type 0 where
  pub hs : List Header
  pub headers : parsed block ≡ gives hs
  pub made : mounts_from 0 hs ≡ gives ms

pub held : (block : List ℕ) (ms : List Mount) → mounts_of block ≡ gives ms → Held block ms
unfolding mounts_of
held block ms e =
    let f = then-gives (block_of 4096 block) _ ms e in
    let g = need-gives (leb (length f.it) 32) 20 (mounts_from 0 f.it) ms f.next in
    record { hs = f.it; headers = (blocks-hold.accepts 4096 block f.it f.first).headers; made = g.1 }

pub mounts-are-headers : MountsAreHeaders
mounts-are-headers block ms e =
    let h = held block ms e in
    record {
      hs = h.hs;
      are = h.headers;
      each = each_at block 0 h.hs ms (headers-proper block h.hs h.headers) (sym (printed-parsed.bytes block h.hs h.headers)) h.made;
    }
