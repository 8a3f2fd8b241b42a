-- The bytes written are equal exactly when the meanings are, and are accepted by the SCGI reader; the pool is a mount's.
-- Assumes nothing.
use Prim.Native.Nat.{ℕ}
use mathlib.Core.Path.{◌≡◌, refl, sym, ap, ◌∙◌}
use mathlib.Core.List.{List, [], ◌++◌}
use native.Mathlib.Nat.{le_refl}
use lib.ListN.{length}
use Rattle.octets.specs.Outcome.{gives}
use Rattle.octets.proofs.Outcomes.{gives-once}
use Rattle.headers.specs.Block.{printed}
use Rattle.scgi.specs.Write.{write_of}
use Rattle.scgi.proofs.Claims.{request-once, writes-exactly, write-then-read}
use Rattle.targets.specs.Target.{Target, target_of}
use Rattle.mounts.specs.Mounts.{Mount, Route, mount_for, route_of}
use Rattle.lent.specs.Lent.{Lent, lent_of}
use Rattle.lent.proofs.Claims.{lent-mounts}
use Rattle.variables.specs.Meaning.{Meaning}
use Rattle.variables.specs.Variables.{variables}
use Rattle.gateway.specs.Step.{bytes_of, Forward, meaning_at, forward_of}
use Rattle.gateway.specs.Claims.{BytesExactlyMeaning, WrittenIsAccepted, PoolIsValue}
use Rattle.variables.proofs.Claims.{variables-say-meaning}
use Rattle.gateway.proofs.Winners.{winner}
use Rattle.gateway.proofs.Links.{lent-of, without-room}
use Rattle.gateway.proofs.Accepted.{Account, account}

module _ {k : Lent} {http : List ℕ} {f : Forward} (a : Account k http f) where
  abbrev route : Route
  route = route_of a.mount a.target.path

module _ (k : Lent) (http http' : List ℕ) (f f' : Forward) (a : Account k http f) (b : Account k http' f') where
  bytes-mean : f.scgi ≡ f'.scgi → meaning_at http ≡ meaning_at http'
  bytes-mean e =
      let hs = variables k.settings (route a) a.meaning in
      let hs' = variables k.settings (route b) b.meaning in
      let o = request-once hs hs' a.meaning.body b.meaning.body [] [] a.request b.request (ap (λ (s : List ℕ). s ++ []) (sym a.bytes ∙ e ∙ b.bytes)) in
      let m : a.meaning ≡ b.meaning = variables-say-meaning k.settings (route a) (route b) a.meaning b.meaning a.proper b.proper o.0 o.1 in
      a.means ∙ ap gives m ∙ sym b.means

  meaning-bytes : meaning_at http ≡ meaning_at http' → f.scgi ≡ f'.scgi
  meaning-bytes e =
      let m : a.meaning ≡ b.meaning = gives-once _ _ (sym a.means ∙ e ∙ b.means) in
      let t : a.target ≡ b.target = gives-once _ _ (sym a.is_target ∙ ap (λ (x : Meaning). target_of x.target) m ∙ b.is_target) in
      let w : a.mount ≡ b.mount = gives-once _ _ (sym a.wins ∙ ap (λ (x : Target). mount_for k.mounts x.path) t ∙ b.wins) in
      let r : route a ≡ route b = ap (λ (x : Mount). route_of x a.target.path) w ∙ ap (λ (x : Target). route_of b.mount x.path) t in
      a.bytes ∙ ap (λ (x : Route). bytes_of k.settings x a.meaning) r ∙ ap (bytes_of k.settings (route b)) m ∙ sym b.bytes

-- the account of a request that the step accepts
told_of : (facts site mounts http : List ℕ) (k : Lent) → lent_of facts site mounts ≡ gives k → (f : Forward) → forward_of (lent_of facts site mounts) http ≡ gives f → Account k http f
told_of facts site mounts http k z f e =
    let d : forward_of (gives k) http ≡ gives f = rw z at e in
    account facts site mounts k z http f d

pub bytes-exactly-meaning : BytesExactlyMeaning
bytes-exactly-meaning facts site mounts http http' room room' f f' e e' =
    let lent = lent_of facts site mounts in
    let g = without-room lent http room f e in
    let z = lent-of lent http f g in
    let a = told_of facts site mounts http z.it z.is f g in
    let b = told_of facts site mounts http' z.it z.is f' (without-room lent http' room' f' e') in
    (bytes-mean z.it http http' f f' a b, meaning-bytes z.it http http' f f' a b)

pub written-is-accepted : WrittenIsAccepted
written-is-accepted facts site mounts http rest room f e =
    let lent = lent_of facts site mounts in
    let g = without-room lent http room f e in
    let z = lent-of lent http f g in
    let a = told_of facts site mounts http z.it z.is f g in
    let hs = variables z.it.settings (route a) a.meaning in
    let w : write_of (printed hs) a.meaning.body (length f.scgi) ≡ gives f.scgi =
    (writes-exactly (printed hs) a.meaning.body (length f.scgi) f.scgi).1
    (record { hs = hs; block_is = refl; request = a.request; bytes = a.bytes; fits = le_refl (length f.scgi) }) in
    record {
      lent = z.it;
      meaning = a.meaning;
      target = a.target;
      mount = a.mount;
      is_lent = z.is;
      means = a.means;
      is_target = a.is_target;
      wins = a.wins;
      pool = a.pool;
      within = a.within;
      bytes = a.bytes;
      request = a.request;
      read = write-then-read (printed hs) a.meaning.body f.scgi rest (length f.scgi) w;
    }

pub pool-is-value : PoolIsValue
pool-is-value facts site mounts http rest f w =
    let ms : List Mount = w.lent.mounts in
    let o = winner mounts w.target.path ms w.mount (lent-mounts facts site mounts w.lent w.is_lent) w.wins in
    let p = w.pool in
    record {
      hs = o.hs;
      header = o.header;
      are = o.are;
      among = o.among;
      name = o.of.name;
      inside = rw (p.0, p.1) o.of.inside;
      pool = rw (p.0, p.1) o.of.pool;
      limit = o.of.limit;
    }
