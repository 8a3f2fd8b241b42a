use Prim.Native.Nat.{ℕ}
use mathlib.Core.Path.{ap, ◌∙◌}
use mathlib.Core.List.{List}
use lib.ListN.{length}
use Rattle.std.proofs.Math.Nat.{min_comm}
use Rattle.std.proofs.lemmas.List.{take_min}
use Rattle.response.specs.Head.{head_with, lines_at}
use Rattle.response.specs.Seen.{seen_head}
use Rattle.response.proofs.head.head.Goals as goal

pub returns : goal.returns
returns c =
    c.head_in.ensures ∙ ap (λ (t : List ℕ). seen_head (head_with 64 (lines_at 0 t))) (rw (c.min-limit.ensures, min_comm (length c.args.s.now) 8192) (take_min 8192 c.args.s.now))
