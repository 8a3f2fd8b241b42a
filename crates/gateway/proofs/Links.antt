-- What an accepted request says of the links of the step's chain.
-- Assumes nothing.
use Prim.Native.Nat.{ℕ, ◌+◌, ◌-◌, ◌≤◌}
use mathlib.Core.Path.{◌≡◌, refl, sym, subst}
use mathlib.Core.List.{List}
use native.Mathlib.Omega.{arith}
use lib.Dec.{leb}
use lib.ListN.{length, take, drop, length-take}
use borrow.Author.Tests.{le-leb, leb-true}
use Rattle.octets.specs.Outcome.{Outcome, gives, need}
use Rattle.octets.proofs.Outcomes.{Given, need-gives, gives-once, then-gives}
use Rattle.http_head.specs.Head.{head_of}
use Rattle.mounts.specs.Mounts.{Mount, mount_for, route_of}
use Rattle.lent.specs.Lent.{Lent}
use Rattle.variables.specs.Meaning.{meaning_of}
use Rattle.gateway.specs.Claims.{RoomIsLast}
use Rattle.request.specs.Request.{Request, request_of}
use Rattle.gateway.specs.Body.{Body, body_of}
use Rattle.gateway.specs.Step.{bytes_of, Forward, forward_by, forward_of, step_with}

-- of a body
pub record BodyLinks (most : ℕ) (s : List ℕ) (b : Body) : Type 0 where
  pub is : b.body ≡ take b.used s
  pub there : b.used ≤ length s
  pub limit : b.used ≤ most

pub body-links : (most n : ℕ) (s : List ℕ) (b : Body) → body_of most n s ≡ gives b → BodyLinks most s b
unfolding body_of
body-links most n s b e =
    let c = need-gives (leb n most) 9 _ b e in
    let d = need-gives (leb n (length s)) 1 _ b c.1 in
    subst (BodyLinks most s) (gives-once _ b d.1) (record { is = refl; there = leb-true n (length s) d.0; limit = leb-true n most c.0 })

-- its length
pub body_length : (most : ℕ) (s : List ℕ) (b : Body) → BodyLinks most s b → length b.body ≤ most
body_length most s b l = rw l.is (simp length-take (omega (arith, l.limit)))

-- a body within a limit is within a wider one
pub body-wider : (most wide n : ℕ) (s : List ℕ) (b : Body) → most ≤ wide → body_of most n s ≡ gives b → body_of wide n s ≡ gives b
unfolding body_of
body-wider most wide n s b w e =
    let c = need-gives (leb n most) 9 _ b e in
    let l : n ≤ most = leb-true n most c.0 in
    rw (le-leb n wide (omega arith)) c.1

-- of the chain, where k is what is lent
pub record Links (k : Lent) (http : List ℕ) (f : Forward) : Type 0 where
  pub h : ℕ
  pub q : Request
  pub m : Mount
  pub b : Body
  pub head : head_of http ≡ gives h
  pub request : request_of (take (h - 4) http) ≡ gives q
  pub mount : mount_for k.mounts q.path ≡ gives m
  pub body : body_of m.limit q.body_length (drop h http) ≡ gives b
  pub written : f ≡ forward_by m (bytes_of k.settings (route_of m q.path) (meaning_of q.first q.fields b.body)) (h + b.used)

pub links : (k : Lent) (http : List ℕ) (f : Forward) → forward_of (gives k) http ≡ gives f → Links k http f
unfolding forward_of
links k http f e =
    let c = then-gives (head_of http) _ f e in
    let d = then-gives (request_of (take (c.it - 4) http)) _ f c.next in
    let q : Request = d.it in
    let g = then-gives (mount_for k.mounts q.path) _ f d.next in
    let i = then-gives (body_of g.it.limit q.body_length (drop c.it http)) _ f g.next in
    record {
      h = c.it;
      q = q;
      m = g.it;
      b = i.it;
      head = c.first;
      request = d.first;
      mount = g.first;
      body = i.first;
      written = sym (gives-once _ f i.next);
    }

-- what is lent where a request is accepted
pub lent-of : (lent : Outcome Lent) (http : List ℕ) (f : Forward) → forward_of lent http ≡ gives f → Given lent
unfolding forward_of
lent-of lent http f e =
    let a = then-gives lent _ f e in
    record { it = a.it; is = a.first }

-- 21 depends on the room alone
pub without-room : (lent : Outcome Lent) (http : List ℕ) (room : ℕ) (f : Forward) → step_with lent http room ≡ gives f → forward_of lent http ≡ gives f
unfolding step_with
without-room lent http room f e =
    let a = then-gives (forward_of lent http) (λ g. need (leb (length g.scgi) room) 21 (gives g)) f e in
    let c = need-gives (leb (length a.it.scgi) room) 21 (gives a.it) f a.next in
    rw (← gives-once a.it f c.1) a.first

pub room-is-last : RoomIsLast
unfolding step_with
room-is-last facts site mounts http room = refl
