use mathlib.Core.Path.{sym, ◌∙◌}
use lib.ListN.{length}
use Rattle.octets.proofs.Compares.{byte-differs, same-behind, byte-same, all_same}
use borrow.Author.Rules.{rules}
use native.Mathlib.Omega.{arith}
use Rattle.octets.proofs.compare.equal_by.Goals as goal

pub loop-i-init : goal.loop-i-init
loop-i-init g c = λ f t. same-behind f c.args.a.now c.args.b.now (length c.args.a.now) c.requires.1 (omega arith)

pub returns-then-key : goal.returns-then-key
returns-then-key g c = λ f t.
    let of_a = t _ _ (search rules) c.key.ensures in
    let of_b = t _ _ (search rules) c.key-in-loop-i.ensures in
    sym (byte-differs f c.args.a.now c.args.b.now _ (omega arith) c.requires.1 (λ e. c.if-key.true (of_a ∙ e ∙ sym of_b)))

pub loop-i-preserved : goal.loop-i-preserved
loop-i-preserved g c = λ f t.
    let of_a = t _ _ (search rules) c.key.ensures in
    let of_b = t _ _ (search rules) c.key-in-loop-i.ensures in
    byte-same f c.args.a.now c.args.b.now _ c.requires.1 (omega arith) (omega arith) (sym of_a ∙ c.if-key.false ∙ of_b) (c.loop-i.invariant f t)

pub returns : goal.returns
returns g c = λ f t. sym (all_same f c.args.a.now c.args.b.now _ c.requires.1 (c.loop-i.invariant f t) (omega arith))
