use Prim.Native.Nat.{ℕ}
use mathlib.Core.Path.{◌≡◌, refl, sym, ◌∙◌}
use mathlib.Core.Bool.{true, false}
use mathlib.Core.List.{List}
use Rattle.std.proofs.Common.{Result, Ok, Err, is_ok}
use lib.ListN.{length}
use Rattle.octets.specs.Outcome.{is_good}
use Rattle.octets.specs.declared.span.Span.{Span}
use Rattle.headers.proofs.Claims.{well-formed-headed}
use Rattle.mounts.specs.Blocks.{BlockGood, lacks_room, BlockStored}
use Rattle.mounts.specs.Mounts.{mounts_of}
use Rattle.mounts.specs.declared.blocks.Unfit.{Unfit}
use Rattle.mounts.specs.declared.blocks.Unfit.TheVariants.{Full, Breach}
use Rattle.mounts.proofs.BlockSteps.{blocks-told}
use Rattle.mounts.proofs.MountSteps.{too_many, bad-block, good-block}
use Rattle.mounts.proofs.check.is_mounts.Goals as goal
use Rattle.mounts.proofs.check.is_mounts.Goals.{Then-is_ok}

-- a list with room for 32 names
module _ (b : List ℕ) (before after : List Span) where
  -- the block, where its names were stored
  stored : (r : Result ℕ Unfit) → BlockStored 4096 b before after r → length before ≡ 32 → is_ok r ≡ true → (lacks_room 4096 32 b ≡ false) × BlockGood 4096 b
  stored (Ok n) f l e = blocks-told.good 4096 32 b _ (rw l at f.answer)
  stored (Err u) f l e = cc

  -- .. and where they were not
  unfit : (r : Result ℕ Unfit) → BlockStored 4096 b before after r → length before ≡ 32 → is_ok r ≡ false → false ≡ is_good (mounts_of b)
  unfit (Ok n) f l e = cc
  unfit (Err Full) f l e = sym (too_many b (blocks-told.full 4096 32 b (rw l at f.answer)))
  unfit (Err Breach) f l e = sym (bad-block b (blocks-told.breach 4096 32 b (rw l at f.answer)).1)

good : (c : Then-is_ok) → (let b = c.args.block.now in (lacks_room 4096 32 b ≡ false) × BlockGood 4096 b)
good c = stored _ _ _ c.store_block.result c.store_block.ensures refl (sym c.is_ok.ensures.value ∙ c.if-is_ok.true)

pub all_mounts-requires : goal.all_mounts-requires
all_mounts-requires c =
    let g = (good c).1 in
    (well-formed-headed _).1 (record { hs = g.hs; is = g.headers })

pub returns-then-is_ok : goal.returns-then-is_ok
returns-then-is_ok c =
    let g = good (goal.at.returns-then-is_ok c).Then-is_ok in
    c.all_mounts.ensures ∙ good-block _ g.0 g.1

pub returns-else-is_ok : goal.returns-else-is_ok
returns-else-is_ok c = c.if-is_ok.false ∙ unfit _ _ _ c.store_block.result c.store_block.ensures refl (sym c.is_ok.ensures.value ∙ c.if-is_ok.false)
