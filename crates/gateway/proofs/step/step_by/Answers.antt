use Prim.Native.Nat.{ℕ, min, ◌+◌, ◌-◌, ◌≤◌}
use mathlib.Core.Path.{◌≡◌, refl, sym, ap, subst, ◌∙◌}
use mathlib.Core.List.{List, ◌++◌}
use native.Mathlib.Omega.{arith}
use lib.ListN.{length, take, drop, length-take, length-drop, length-map}
use lib.Seq.{length-take-le}
use borrow.Author.Rules.{rules}
use Rattle.std.proofs.Common.{Result, Err}
use lib.Dec.{leb}
use Rattle.octets.specs.Outcome.{Outcome, refused, gives, need, is_good}
use Rattle.octets.specs.Refusal.{number_of}
use Rattle.octets.specs.declared.refusal.Refusal.{Refusal}
use Rattle.headers.specs.Block.{printed}
use Rattle.scgi.specs.Grammar.{netstring}
use Rattle.http_head.specs.Head.{head_of, head_outcome}
use Rattle.http_head.specs.Claims.{HeadWithin}
use Rattle.http_head.specs.declared.fields.Field.{Field as Spans}
use Rattle.http_head.proofs.Claims.{heads-hold}
use Rattle.lent.specs.Lent.{Lent}
use Rattle.mounts.specs.Mounts.{Mount, route_of}
use Rattle.lent.specs.Claims.{Accepted}
use Rattle.lent.specs.Places.{settings_at}
use Rattle.lent.proofs.Claims.{lent-told}
use Rattle.request.specs.Request.{Request}
use Rattle.request.specs.RequestRead.{request_in}
use Rattle.request.specs.Claims.{RequestStands}
use Rattle.request.proofs.Claims.{requests-told}
use Rattle.variables.specs.Meaning.{meaning_of}
use Rattle.variables.specs.Variables.{variables}
use Rattle.variables.specs.declared.sources.Sources.{Sources}
use Rattle.gateway.specs.Body.{Body}
use Rattle.gateway.specs.Step.{Forward, forward_by, step_of}
use Rattle.gateway.specs.Write.{block_for, RequestFits}
use Rattle.gateway.specs.Stepping.{Stepped, PathFits}
use Rattle.gateway.proofs.StepParts.{left_alone, step-lent, step-head, step-read, step-mount, step-body, step-written, answered-by, refused-by, mount_by, lost, Won, won, body_refused, BodyThere, body_there, block_is}
use Rattle.gateway.proofs.Fits.{bound-holds, bound-limit}
use Rattle.gateway.proofs.step.step_by.Goals as goal
use Rattle.gateway.proofs.step.step_by.Goals.{Start, In_ok-settings, In_ok-head_len, In_ok-request, In_ok-mount, In_ok-len}

-- The places where a call gave what it was asked for: each leads to the one before.

abbrev lent₂ : In_ok-head_len → In_ok-settings
lent₂ c = (goal.at-In_ok-head_len c).In_ok-settings

abbrev head₃ : In_ok-request → In_ok-head_len
head₃ c = (goal.at-In_ok-request c).In_ok-head_len

abbrev read₄ : In_ok-mount → In_ok-request
read₄ c = (goal.at-In_ok-mount c).In_ok-request

abbrev mount₅ : In_ok-len → In_ok-mount
mount₅ c = (goal.at-In_ok-len c).In_ok-mount

-- What each gave.

abbrev head : In_ok-request → List ℕ
head c = take (c.in_ok-head_len.head_len - 4) c.args.http.now

abbrev places : In_ok-request → List Spans
places c = c.read_request.new.places

abbrev path : In_ok-request → List ℕ
path c = c.read_request.new.path

abbrev request : In_ok-request → Request
request c = request_in (head c) (places c) (path c) c.in_ok-request.request.line c.in_ok-request.request.fields

abbrev chosen : In_ok-mount → Mount
chosen c = mount_by (request (read₄ c)).path c.in_ok-mount.mount

-- What is known there.

lent : (c : In_ok-settings) → Accepted c.args.facts.now c.args.site.now c.args.mounts.now c.in_ok-settings.settings
lent c = lent-told.accepts _ _ _ _ (c.in_ok-settings.ensures {u = tt})

abbrev lending : In_ok-settings → Lent
lending c = record { settings = settings_at c.args.facts.now c.args.site.now c.in_ok-settings.settings; mounts = (lent c).ms }

headed : (c : In_ok-head_len) → head_of c.args.http.now ≡ gives c.in_ok-head_len.head_len
headed c = sym c.requires.answer ∙ ap head_outcome (c.in_ok-head_len.was {u = tt})

within : (c : In_ok-head_len) → HeadWithin c.args.http.now c.in_ok-head_len.head_len
within c = heads-hold.within _ _ (headed c)

path_room : (c : In_ok-head_len) → min c.in_ok-head_len.head_len 4096 ≤ length c.args.path.now
path_room c = subst (λ (h : Result ℕ Refusal). PathFits h (length c.args.path.now)) (c.in_ok-head_len.was {u = tt}) c.requires.path

read : (c : In_ok-request) → RequestStands (head c) (places c) (path c) c.in_ok-request.request.line c.in_ok-request.request.fields
read c = requests-told.accepts _ _ _ _ _ _ (c.in_ok-request.ensures {u = tt})

mount :
    (c : In_ok-mount)
    → (let l = lent (lent₂ (head₃ (read₄ c))) in
    Won c.args.mounts.now (request (read₄ c)).path l.ms l.mounts_are c.in_ok-mount.mount)
mount c = won _ _ _ _ _ (c.in_ok-mount.ensures {u = tt})

sized : (c : In_ok-len) → BodyThere c.in_ok-mount.mount.limit (request (read₄ (mount₅ c))).body_length c.args.http.now c.in_ok-head_len.head_len c.in_ok-len.len
sized c = body_there _ _ _ _ _ (c.in_ok-len.ensures {u = tt})

-- What the step gives.

abbrev answer : Start → Outcome Forward
answer s = step_of s.args.facts.now s.args.site.now s.args.mounts.now s.args.http.now (length s.args.out.now)

refuses : (s : Start) (k : Refusal) → answer s ≡ refused (number_of k) → Stepped (answer s) s.args.out.now s.args.out.now (Err k)
refuses s k e = left_alone (answer s) s.args.out.now k e

-- What is written.

abbrev body : In_ok-len → List ℕ
body c = take c.in_ok-len.len (take (length c.args.http.now - c.in_ok-head_len.head_len) (drop c.in_ok-head_len.head_len c.args.http.now))

-- what its variables are made of, wherever that stands in memory
abbrev sources : In_ok-len → (at₁ at₂ at₃ : ℕ × ℕ) → Sources
sources c at₁ at₂ at₃ =
    let r = read₄ (mount₅ c) in
    record {
      facts = c.args.facts;
      site = c.args.site;
      head = record { ref_ptr = at₁; now = head r };
      places = record { ref_ptr = at₂; now = places r };
      path = record { ref_ptr = at₃; now = path r };
      settings = c.in_ok-settings.settings;
      line = c.in_ok-request.request.line;
      fields = c.in_ok-request.request.fields;
      name = c.in_ok-mount.mount.name_len;
    }

small : (c : In_ok-len) → length (body c) ≤ 1048576
small c = simp length-take (omega (arith, (sized c).limit, (mount (mount₅ c)).small))

-- the variables of the step
abbrev printing : In_ok-len → List ℕ
printing c =
    let q = request (read₄ (mount₅ c)) in
    printed (variables (lending (lent₂ (head₃ (read₄ (mount₅ c))))).settings (route_of (chosen (mount₅ c)) q.path) (meaning_of q.first q.fields (body c)))

is_block : (c : In_ok-len) (at₁ at₂ at₃ : ℕ × ℕ) → block_for (sources c at₁ at₂ at₃) (body c) ≡ printing c
is_block c at₁ at₂ at₃ = block_is (sources c at₁ at₂ at₃) (body c) c.in_ok-mount.mount refl (mount (mount₅ c)).inside

-- .. fit
fits : (c : In_ok-len) (at₁ at₂ at₃ : ℕ × ℕ) → RequestFits (sources c at₁ at₂ at₃) (body c)
fits c at₁ at₂ at₃ =
    let m = mount₅ c in
    let r = read₄ m in
    let l = lent₂ (head₃ r) in
    let q = request r in
    let w = within (head₃ r) in
    let t = c.in_ok-request.request.line in
    let h : length (head r) ≤ 8188 = simp length-take (omega (arith, w.limit)) in
    let target : length q.first.target ≡ t.target.len =
    length-take-le t.target.len (drop t.target.start (head r)) (omega (arith, length-drop t.target.start (head r), (read r).line.target_inside)) in
    let count : length q.fields ≡ c.in_ok-request.request.fields.count = simp length-map (length-take-le _ _ (read r).fields.room) in
    let bound = bound-holds _ _ _ (head r) (body c) (lending l) q (chosen m) (lent l).lent (sym (read r).answer) (mount m).wins (small c) in
    let limit = bound-limit _ _ _ (head r) (body c) (lending l) q (chosen m) (lent l).lent (sym (read r).answer) (mount m).wins (small c) h in
    record {
      known =
          record {
            settings = (lent l).inside;
            line = (read r).line;
            fields = (read r).fields;
            name = omega (arith, (mount m).inside, length-take t.decoded (path r));
          };
      small = small c;
      bound = rw (is_block c at₁ at₂ at₃) (omega (arith, bound, target, count));
      limit = omega (arith, limit, target, count);
    }

pub returns-in_err-settings : goal.returns-in_err-settings
returns-in_err-settings c =
    let e = lent-told.refuses _ _ _ _ (c.in_err-settings.ensures {u = tt}) in
    search (rules, refuses (goal.at.returns-in_err-settings c).Start _ (step-lent _ _ _ _ _ _ e))

pub returns-in_err-head_len : goal.returns-in_err-head_len
returns-in_err-head_len c =
    let l = (goal.at.returns-in_err-head_len c).In_ok-settings in
    let e = sym c.requires.answer ∙ ap head_outcome (c.in_err-head_len.was {u = tt}) in
    search (rules, refuses (goal.at.returns-in_err-head_len c).Start _ (step-head _ _ _ _ _ (lending l) (lent l).lent _ e))

pub slice_bounds-head-count : goal.slice_bounds-head-count
slice_bounds-head-count c = omega (arith, (within (goal.at.slice_bounds-head-count c).In_ok-head_len).last)

pub slice_bounds-head-length : goal.slice_bounds-head-length
slice_bounds-head-length c = sym (length-take-le _ _ (omega (arith, (within (goal.at.slice_bounds-head-length c).In_ok-head_len).inside)))

pub read_request-requires : goal.read_request-requires
read_request-requires c = (search rules, simp length-take (omega (arith, path_room (goal.at.read_request-requires c).In_ok-head_len)))

pub returns-in_err-request : goal.returns-in_err-request
returns-in_err-request c =
    let h = (goal.at.returns-in_err-request c).In_ok-head_len in
    let l = lent₂ h in
    let e = requests-told.refuses _ _ _ _ _ _ (c.in_err-request.ensures {u = tt}) in
    search (rules, refuses (goal.at.returns-in_err-request c).Start _ (step-read _ _ _ _ _ (lending l) (lent l).lent _ (headed h) _ (sym e)))

pub slice_bounds-search-end : goal.slice_bounds-search-end
slice_bounds-search-end c = (read (goal.at.slice_bounds-search-end c).In_ok-request).line.decoded_inside

pub slice_bounds-search-end-2 : goal.slice_bounds-search-end-2
slice_bounds-search-end-2 c = sym (length-take-le _ _ (read (goal.at.slice_bounds-search-end-2 c).In_ok-request).line.decoded_inside)

pub search-requires : goal.search-requires
search-requires c = ap is_good (lent (lent₂ (head₃ (goal.at.search-requires c).In_ok-request))).mounts_are

pub returns-in_err-mount : goal.returns-in_err-mount
returns-in_err-mount c =
    let r = (goal.at.returns-in_err-mount c).In_ok-request in
    let l = lent₂ (head₃ r) in
    let e = lost _ _ (lent l).ms (lent l).mounts_are _ (c.in_err-mount.ensures {u = tt}) in
    search (rules, refuses (goal.at.returns-in_err-mount c).Start _ (step-mount _ _ _ _ _ (lending l) (lent l).lent _ (headed (head₃ r)) (request r) (sym (read r).answer) _ e))

pub slice_bounds-after-count : goal.slice_bounds-after-count
slice_bounds-after-count c = omega (arith, (within (head₃ (read₄ (goal.at.slice_bounds-after-count c).In_ok-mount))).inside)

pub slice_bounds-after-start : goal.slice_bounds-after-start
slice_bounds-after-start c = omega (arith, (within (head₃ (read₄ (goal.at.slice_bounds-after-start c).In_ok-mount))).inside)

pub returns-in_err-len : goal.returns-in_err-len
returns-in_err-len c =
    let m = (goal.at.returns-in_err-len c).In_ok-mount in
    let r = read₄ m in
    let l = lent₂ (head₃ r) in
    let e = body_refused _ _ c.args.http.now c.in_ok-head_len.head_len _ (c.in_err-len.ensures {u = tt}) in
    search (rules, refuses (goal.at.returns-in_err-len c).Start _ (step-body _ _ _ _ _ (lending l) (lent l).lent _ (headed (head₃ r)) (request r) (sym (read r).answer) _ (mount m).wins _ e))

pub slice_bounds-write_request-end : goal.slice_bounds-write_request-end
slice_bounds-write_request-end c =
    let k = (goal.at.slice_bounds-write_request-end c).In_ok-len in
    simp (length-take, length-drop)
    (omega (arith, simp (length-take, length-drop) at (sized k).inside, (within (head₃ (read₄ (mount₅ k)))).inside))

pub write_request-requires : goal.write_request-requires
write_request-requires c = fits (goal.at.write_request-requires c).In_ok-len _ _ _

pub overflow_add-result : goal.overflow_add-result
overflow_add-result c =
    let k = (goal.at.overflow_add-result c).In_ok-len in
    omega (arith, (within (head₃ (read₄ (mount₅ k)))).limit, (sized k).limit, (mount (mount₅ k)).small)

-- what the step gives is written, or refused with 21
abbrev forward : In_ok-len → Forward
forward c = forward_by (chosen (mount₅ c)) (netstring (printing c) ++ body c) (c.in_ok-head_len.head_len + c.in_ok-len.len)

gives_this : (c : In_ok-len) → answer (goal.at-In_ok-len c).Start ≡ need (leb (length (forward c).scgi) (length c.args.out.now)) 21 (gives (forward c))
gives_this c =
    let m = mount₅ c in
    let r = read₄ m in
    let l = lent₂ (head₃ r) in
    let b : Body = record { body = body c; used = c.in_ok-len.len } in
    step-written _ _ _ _ _ (lending l) (lent l).lent _ (headed (head₃ r)) (request r) (sym (read r).answer) (chosen m) (mount m).wins b (sized c).is

pub returns-in_err-written : goal.returns-in_err-written
returns-in_err-written c =
    let k = (goal.at.returns-in_err-written c).In_ok-len in
    let x = rw (is_block k (0, 0) (0, 0) (0, 0)) at (c.in_err-written.ensures {u = tt}) in
    let z : c.from_residual-in_err-written.result ≡ Err c.in_err-written.field-0.0 = search rules in
    rw (gives_this k, z) (refused-by (forward k) _ _ _ x)

pub returns : goal.returns
returns c =
    let k = (goal.at.returns c).In_ok-len in
    let x = rw (is_block k (0, 0) (0, 0) (0, 0)) at (c.in_ok-written.ensures {u = tt}) in
    rw (gives_this k) (answered-by (forward k) _ _ _ x)
