-- HTTP requests that stand end to end: more bytes keep the step's answer, and what is cut gives 1.
-- Assumes nothing.
use Prim.Native.Nat.{ℕ, ◌+◌, ◌-◌, ◌≤◌, ◌<◌}
use mathlib.Core.Path.{◌≡◌, ap}
use mathlib.Core.List.{List, ◌++◌}
use native.Mathlib.Omega.{arith}
use lib.Dec.{leb}
use lib.ListN.{length, take, drop, length-drop}
use lib.Seq.{take-append-le, drop-append-le}
use borrow.Author.Tests.{leb-true}
use Rattle.octets.specs.Outcome.{Outcome, refused, gives}
use Rattle.framing.proofs.Keeps.{Keeps, same, keeps_then, keeps-cond, keeps-end, keeps-unless, kept, Steady, steady-frames, still-leb}
use Rattle.framing.proofs.Spools.{spools-equal, spool-cut}
use Rattle.framing.proofs.SpoolSteps.{spool-goes-on}
use Rattle.http_head.specs.Head.{head_of}
use Rattle.http_head.proofs.Claims.{heads-hold}
use Rattle.mounts.specs.Mounts.{mount_for}
use Rattle.lent.specs.Lent.{Lent, lent_of}
use Rattle.request.specs.Request.{request_of}
use Rattle.gateway.specs.Body.{body_of}
use Rattle.gateway.specs.Step.{Forward, forward_of, used_by}
use Rattle.gateway.specs.Claims.{PipelinesFrame, PipelinesEqual, PipelineCut, PipelineGoesOn}
use Rattle.gateway.proofs.Links.{body-links, links, lent-of}

keeps-head : (s t : List ℕ) → Keeps (head_of s) (head_of (s ++ t))
keeps-head s t = keeps-unless (head_of s) (head_of (s ++ t)) (heads-hold.keeps s t)

keeps-body : (most n : ℕ) (s t : List ℕ) → Keeps (body_of most n s) (body_of most n (s ++ t))
unfolding body_of
keeps-body most n s t =
    keeps-cond (leb n most)
    (keeps-end (leb n (length s)) (leb n (length (s ++ t))) (still-leb s t n)
    (λ x. rw (take-append-le n s t (leb-true n (length s) x)) same))
    same

-- the chain after what is lent
after-lent : (k : Lent) (s t : List ℕ) → Keeps (forward_of (gives k) s) (forward_of (gives k) (s ++ t))
unfolding forward_of
after-lent k s t =
    keeps_then (keeps-head s t)
    (λ h e.
    let w = heads-hold.within s h e in
    rw (take-append-le (h - 4) s t (omega (arith, w.inside)), drop-append-le h s t w.inside)
    (keeps_then {o = request_of (take (h - 4) s)} same
    (λ q d. keeps_then {o = mount_for k.mounts q.path} same
    (λ m c. keeps_then (keeps-body m.limit q.body_length (drop h s) t) (λ b a. same)))))

keeps-forward : (lent : Outcome Lent) (s t : List ℕ) → Keeps (forward_of lent s) (forward_of lent (s ++ t))
unfolding forward_of
keeps-forward (refused n) s t = same
keeps-forward (gives k) s t = after-lent k s t

within : (lent : Outcome Lent) (s : List ℕ) (f : Forward) → forward_of lent s ≡ gives f → (0 < f.used) × (f.used ≤ length s)
within lent s f e =
    let z = lent-of lent s f e in
    let l = links z.it s f (rw z.is at e) in
    let b = body-links l.m.limit l.q.body_length (drop l.h s) l.b l.body in
    let u : f.used ≡ l.h + l.b.used = ap (λ (x : Forward). x.used) l.written in
    let w = heads-hold.within s l.h l.head in
    (omega (arith, u, w.last), omega (arith, u, w.inside, b.there, length-drop l.h s))

steady : (lent : Outcome Lent) → Steady (forward_of lent) (λ f. f.used)
steady lent = record { more = λ s t h. kept (keeps-forward lent s t) h; within = within lent }

pub pipelines-frame : PipelinesFrame
pipelines-frame facts site mounts = steady-frames (steady (lent_of facts site mounts))

pub pipelines-equal : PipelinesEqual
pipelines-equal facts site mounts = spools-equal (used_by (lent_of facts site mounts)) (pipelines-frame facts site mounts)

pub pipeline-cut : PipelineCut
pipeline-cut facts site mounts = spool-cut (used_by (lent_of facts site mounts)) (pipelines-frame facts site mounts)

pub pipeline-goes-on : PipelineGoesOn
pipeline-goes-on facts site mounts = spool-goes-on (used_by (lent_of facts site mounts)) (pipelines-frame facts site mounts)
