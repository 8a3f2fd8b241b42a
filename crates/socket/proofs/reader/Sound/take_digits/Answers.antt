use mathlib.Core.Path.{◌≡◌, refl, sym}
use Prim.Native.Nat.{ℕ, ◌≤◌, ◌<◌}
use native.Mathlib.Omega.{arith}
use lib.ListN.{length}
use Rattle.scgi.specs.declared.netstring.Digits.{Digits}
use Rattle.scgi.specs.Claims.{DigitsWithin}
use Rattle.scgi.proofs.Claims.{digits-go-on}
use Rattle.socket.specs.Socket.{Fits, begun}
use Rattle.socket.specs.declared.reader.Socket.{Socket}
use Rattle.socket.proofs.Steps.{digits-fault, digits_more, digits-colon}
use Rattle.socket.proofs.reader.Sound.take_digits.Goals as goal
use Rattle.socket.proofs.reader.Sound.take_digits.Goals.{In-Ok}

-- what is known of the digits that were read
bounds : (c : In-Ok) → DigitsWithin c.args.self.state.digits (length c.args.run.now) c.in-Ok.field-0
bounds c =
    let e = c.in-Ok.ensures in
    let f = c.args.self.fits in
    digits-go-on.within c.args.run.now c.args.self.state.digits c.args.self.state.len _ f.digits f.len (sym e)

-- a state that begins with them is within the limits
sound : (d : Digits) (n m : ℕ) → DigitsWithin n m d → (x : Socket) → x ≡ begun d.count d.value → Fits x × (3 < x.stage → 2 ≤ x.refusal)
sound d n m w x e =
    rw e
    (record { refusal = omega arith; digits = w.few; len = w.small; stored = omega arith; body = omega arith; seen = omega arith }, λ h. omega arith)

pub overflow_sub-count : goal.overflow_sub-count
overflow_sub-count c = (bounds (goal.at.overflow_sub-count c).In-Ok).onward

pub overflow_add-count : goal.overflow_add-count
overflow_add-count c =
    let w = bounds (goal.at.overflow_add-count c).In-Ok in
    omega (arith, w.few, w.small)

pub invariant_of-self : goal.invariant_of-self
invariant_of-self c =
    let w = sound _ _ _ (bounds (goal.at.invariant_of-self c).In-Ok) _ c.begun-self.ensures in
    record { fits = w.0; kept = w.1 }

pub slice_bounds-take_block-count : goal.slice_bounds-take_block-count
slice_bounds-take_block-count c =
    let w = bounds (goal.at.slice_bounds-take_block-count c).In-Ok in
    omega (arith, w.onward, w.colon_there c.if-colon.true)

pub slice_bounds-take_block-start : goal.slice_bounds-take_block-start
slice_bounds-take_block-start c =
    let w = bounds (goal.at.slice_bounds-take_block-start c).In-Ok in
    omega (arith, w.onward, w.colon_there c.if-colon.true)

pub returns-then-colon : goal.returns-then-colon
returns-then-colon c =
    let e = c.in-Ok.ensures in
    rw (digits-colon c.args.self.state c.args.run.now c.args.block.now _ _ _ _ (sym e) c.if-colon.true) (rw c.begun-self.ensures at c.take_block.ensures)

pub invariant_of-self-in-Ok : goal.invariant_of-self-in-Ok
invariant_of-self-in-Ok c =
    let w = sound _ _ _ (bounds (goal.at.invariant_of-self-in-Ok c).In-Ok) _ c.begun-self.ensures in
    record { fits = w.0; kept = w.1 }

pub returns-else-colon : goal.returns-else-colon
returns-else-colon c =
    let e = c.in-Ok.ensures in
    rw (digits_more c.args.self.state c.args.run.now c.args.block.now _ _ _ _ (sym e) c.if-colon.false)
    (record { step = rw c.begun-self.ensures at c.more.ensures; buffer = refl })

pub returns-in-Err : goal.returns-in-Err
returns-in-Err c =
    let e = c.in-Err.ensures in
    rw (digits-fault c.args.self.state c.args.run.now c.args.block.now _ _ (sym e))
    (record { step = c.refused.ensures; buffer = refl })
