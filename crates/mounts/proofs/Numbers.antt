-- 20 is the only number that lent blocks and mounts are refused with.
-- Assumes nothing.
use Prim.Native.Nat.{ℕ, ◌+◌}
use mathlib.Core.Path.{refl}
use mathlib.Core.Bool.{not}
use mathlib.Core.List.{List, [], ◌∷◌}
use lib.Dec.{leb}
use lib.ListN.{length}
use Rattle.octets.specs.Lists.{is_nil, different}
use Rattle.octets.specs.Parts.{parted}
use Rattle.octets.specs.Decimal.{number_of}
use Rattle.octets.proofs.Refusals.{Refuses, with_number, not_refused, only-number, refuses-then, refuses-need, refuses-given}
use Rattle.headers.specs.Block.{Header, names, headers_of}
use Rattle.mounts.specs.Blocks.{block_of}
use Rattle.mounts.specs.Value.{pool_of, limit_by, value_of}
use Rattle.mounts.specs.Mounts.{begins, ends, mount_at, mounts_from, mounts_of}
use Rattle.mounts.specs.Claims.{MountsNumber}

pub block-refuses : (limit : ℕ) (block : List ℕ) → Refuses (20 ∷ []) (block_of limit block)
block-refuses limit block =
    refuses-need (leb (length block) limit) 20 refl
    (refuses-then (refuses-given (headers_of block) 20 refl)
    (λ hs. refuses-need (different (names hs)) 20 refl not_refused))

limit-refuses : (ts : List (List ℕ)) → Refuses (20 ∷ []) (limit_by ts)
limit-refuses [] = not_refused
limit-refuses (t ∷ []) = refuses-then (refuses-given (number_of t) 20 refl) (λ n. refuses-need (leb n 1048576) 20 refl not_refused)
limit-refuses (t ∷ (u ∷ ts)) = with_number refl

value-refuses : (v : List ℕ) → Refuses (20 ∷ []) (value_of v)
unfolding value_of
value-refuses v = refuses-need (not (is_nil (pool_of v))) 20 refl (refuses-then (limit-refuses (parted 59 v).others) (λ n. not_refused))

mount-refuses : (i : ℕ) (h : Header) → Refuses (20 ∷ []) (mount_at i h)
mount-refuses i h =
    refuses-need (begins (47 ∷ []) h.name) 20 refl
    (refuses-need (not (ends 47 h.name)) 20 refl
    (refuses-then (value-refuses h.value) (λ v. not_refused)))

mounts-refuse : (i : ℕ) (hs : List Header) → Refuses (20 ∷ []) (mounts_from i hs)
unfolding mounts_from
mounts-refuse i [] = not_refused
mounts-refuse i (h ∷ hs) =
    refuses-then (mount-refuses _ h)
    (λ m. refuses-then (mounts-refuse (i + length h.name + 1 + length h.value + 1) hs) (λ ms. not_refused))

pub mounts-number : MountsNumber
unfolding mounts_of
mounts-number block n e =
    only-number n 20
    (refuses-then (block-refuses 4096 block) (λ hs. refuses-need (leb (length hs) 32) 20 refl (mounts-refuse 0 hs)))
    e
