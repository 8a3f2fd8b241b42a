use mathlib.Core.Path.{sym, ap, ◌∙◌}
use lib.ListN.{length}
use Rattle.framing.proofs.SpoolSteps.{bounded}
use Rattle.scgi.specs.Read.{used_of}
use Rattle.scgi.proofs.Reader.{spools-hold}
use Rattle.scgi.proofs.Limits.{left-short}
use Rattle.scgi.specs.Window.{next_as, next_of}
use Rattle.scgi.proofs.window.advance.Goals as goal

pub returns : goal.returns
returns c =
    let s = c.spool-spooled.ensures in
    let a = c.args in
    let n = c.after.ensures ∙ ap (next_of a.ended) s.ending in
    let bounds = bounded used_of spools-hold.frames a.held.now (length a.lengths.now) in
    record {
      count = s.count;
      taken = s.next;
      next = n;
      list = s.list;
      few = rw s.count bounds.few;
      inside = rw s.next bounds.inside;
      room = λ q. rw s.next (left-short _ _ a.ended (sym n ∙ ap next_as q));
    }
