use Prim.Native.Nat.{ℕ, ◌≤◌}
use native.Mathlib.Omega.{arith}
use lib.ListN.{length, replicate, length-replicate}
use Rattle.octets.proofs.Copies.{front-is}
use Rattle.gateway.proofs.write.write_by.Goals as goal

-- the buffer has the room that it was made with
room : (n m : ℕ) → m ≤ n → m ≤ length {A = ℕ} (replicate n 0)
room n m h = simp length-replicate (omega arith)

pub whole_as_slice-put_block : goal.whole_as_slice-put_block
whole_as_slice-put_block g c = omega (arith, c.requires.limit)

pub put_block-n-requires : goal.put_block-n-requires
put_block-n-requires g c = (c.requires.known, room _ _ c.requires.fits)

pub shared_whole_as_front-write_parts : goal.shared_whole_as_front-write_parts
shared_whole_as_front-write_parts g c = omega (arith, c.put_block-n.ensures.ends, c.requires.fits)

pub write_parts-requires : goal.write_parts-requires
write_parts-requires g c =
    (rw (front-is _ _ (room _ _ c.requires.fits) c.put_block-n.ensures) (omega (arith, c.requires.fits, c.requires.limit)), c.requires.small)

pub returns : goal.returns
returns g c = rw (front-is _ _ (room _ _ c.requires.fits) c.put_block-n.ensures) at c.write_parts.ensures
