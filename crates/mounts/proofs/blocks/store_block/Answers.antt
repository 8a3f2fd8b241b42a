use mathlib.Core.Path.{◌≡◌, refl, sym, ap, ◌∙◌}
use mathlib.Core.Bool.{Bool}
use mathlib.Core.List.{List}
use Prim.Native.Nat.{ℕ}
use Rattle.std.proofs.Common.{Some, Ok, Bor}
use lib.ListN.{length, take}
use native.Mathlib.Omega.{arith}
use borrow.Author.Rules.{rules}
use Rattle.octets.specs.Outcome.{gives, then, need}
use Rattle.octets.specs.Lists.{different}
use Rattle.octets.specs.declared.span.Span.{Span}
use Rattle.headers.specs.Block.{names, parsed}
use Rattle.headers.specs.Names.{NamesIn}
use Rattle.headers.proofs.Claims.{names-held}
use Rattle.mounts.specs.Blocks.{stored_of, BlockStored}
use Rattle.mounts.proofs.BlockSteps.{long-block, malformed-block, full_block, roomy-block}
use Rattle.mounts.proofs.blocks.store_block.Goals as goal
use Rattle.mounts.proofs.blocks.store_block.Goals.{Else-places-n}

pub returns-then-limit-block : goal.returns-then-limit-block
returns-then-limit-block c = record { answer = long-block _ c.args.block.now (length c.args.places.now) c.if-limit-block.true; size = refl; stored = tt }

pub returns-in_default : goal.returns-in_default
returns-in_default c = record { answer = malformed-block _ _ (length c.args.places.now) _ (sym c.in_default.ensures.count); size = c.store_names.ensures.size; stored = tt }

pub returns-then-places-n : goal.returns-then-places-n
returns-then-places-n c =
    record {
      answer = full_block _ _ (length c.args.places.now) _ (sym c.in-Ok.ensures.count) c.if-limit-block.false (omega (arith, c.store_names.ensures.size));
      size = c.store_names.ensures.size;
      stored = tt;
    }

-- the names, where there is room for them
held : (c : Else-places-n) → NamesIn c.args.block.now (take c.in-Ok.n c.store_names.new.places)
held c = names-held _ _ _ _ _ c.store_names.ensures (sym c.in-Ok.ensures.count) (omega (arith, c.store_names.ensures.size))

pub new-requires : goal.new-requires
new-requires c = held (goal.at.new-requires c).Else-places-n

-- .. and the answer, by whether they differ
roomy :
    (c : Else-places-n) (r : Bool) → then (parsed c.args.block.now) (λ hs. gives (different (names hs))) ≡ gives r
    → (let a = c.args in
    Some (need r 20 (gives c.in-Ok.n)) ≡ stored_of a.limit (length a.places.now) a.block.now)
roomy c r d = roomy-block c.args.limit c.args.block.now (length c.args.places.now) c.in-Ok.n (sym c.in-Ok.ensures.count) c.if-limit-block.false (omega (arith, c.store_names.ensures.size)) r d

pub returns-then-not-differ : goal.returns-then-not-differ
returns-then-not-differ c =
    let b = ap (λ (x : Bor (List ℕ)). x.now) c.new.ensures.block in
    record {
      answer = roomy (goal.at.returns-then-not-differ c).Else-places-n _ (rw b at c.differ.ensures ∙ ap gives c.if-not-differ.true);
      size = c.store_names.ensures.size;
      stored = tt;
    }

-- what is to be shown of a count, where it is right
told :
    (c : Else-places-n) (n : ℕ) (after : List Span)
    → (let a = c.args in
    Some (gives c.in-Ok.n) ≡ stored_of a.limit (length a.places.now) a.block.now → n ≡ c.in-Ok.n → length after ≡ length a.places.now
    → NamesIn a.block.now (take c.in-Ok.n after) → BlockStored a.limit a.block.now a.places.now after (Ok n))
told c n after s e l h = rw e (record { answer = s; size = l; stored = (omega (arith, l, c.store_names.ensures.size), h) })

pub returns : goal.returns
returns c =
    let k = (goal.at.returns c).Else-places-n in
    let b = ap (λ (x : Bor (List ℕ)). x.now) c.new.ensures.block in
    told k _ _ (roomy k _ (rw b at c.differ.ensures ∙ ap gives c.if-not-differ.false)) (omega arith)
    (omega (arith, c.store_names.ensures.size)) (search (rules, held k))
