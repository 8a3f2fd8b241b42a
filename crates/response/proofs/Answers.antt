-- What an answer says of the output: its head, its row of the table, its status and its places.
-- Assumes nothing.
use Prim.Native.Nat.{ℕ, ◌+◌, ◌-◌, ◌≤◌}
use mathlib.Core.Path.{◌≡◌, refl, sym, ap, ◌∙◌}
use mathlib.Core.Bool.{Bool, true, false, cond, not, ◌&&◌, ◌||◌, false≢true}
use mathlib.Core.List.{List, [], ◌∷◌}
use Rattle.std.proofs.Common.{Option, None, Some}
use native.Mathlib.Omega.{arith}
use lib.Dec.{eqb}
use lib.ListN.{length}
use borrow.Author.Tests.{eqb-true, le-leb}
use Rattle.octets.specs.Text.{bytes}
use Rattle.octets.specs.Outcome.{refused, gives, then, given}
use Rattle.octets.specs.Kinds.{within}
use Rattle.octets.specs.Lists.{All, no_more, ◌&◌}
use Rattle.octets.proofs.Bools.{and_left, and_right, or-true}
use Rattle.octets.proofs.Outcomes.{need-gives, then-gives}
use Rattle.targets.specs.Target.{target_of}
use Rattle.response.specs.Head.{Value, Named, Head, head_of}
use Rattle.response.specs.Status.{status_of, stated_in}
use Rattle.response.specs.Location.{is_local, accepted, is_elsewhere, filled, location_right}
use Rattle.response.specs.Table.{
  Goes,
  nowhere,
  local,
  elsewhere,
  Script,
  redirecting,
  no_location,
  local_location,
  other_location,
  no_status,
  status_redirecting,
  no_body,
  serves,
  redirects,
  redirects_with_document,
  has_document,
  has_location,
  status_or,
  status_for,
  answer_for,
  table_of,
  goes_to,
  start_or0,
  length_or0,
  script_of,
}
use Rattle.response.specs.Response.{named, each_once, first_value, is_there, judged_head, response_of}
use Rattle.response.specs.Claims.{how_many, rows_that_fit, row_of, status_fits, location_in, Within}
use Rattle.response.specs.declared.table.Answer.{Answer}
use Rattle.response.specs.declared.table.Action.{Action}
use Rattle.response.specs.declared.table.Action.TheVariants.{Serve, Redirect, RedirectDocument, Document}
use Rattle.response.proofs.Statuses.{status-within}
use Rattle.response.proofs.Lies.{Stands, ValueIn, head_in}
use Rattle.response.proofs.Seens.{named_in}

-- The table.

pub record InRow (x : Script) (a : Answer) : Type 0 where
  pub fits : row_of a.action x ≡ true
  pub status_is : a.status ≡ status_for a.action x
  pub location_start : a.location.start ≡ x.location_start
  pub location_length : a.location.len ≡ x.location_length
  pub body_start : a.body.start ≡ x.body_start
  pub body_length : a.body.len ≡ x.body_length

row-of : (x : Script) (a : Answer) (act : Action) → row_of act x ≡ true → answer_for x act ≡ gives a → InRow x a
row-of x a act f e =
    let z : a ≡ record { action = act; status = status_for act x; location = record { start = x.location_start; len = x.location_length }; body = record { start = x.body_start; len = x.body_length } } = cc in
    rw z (record { fits = f; status_is = refl; location_start = refl; location_length = refl; body_start = refl; body_length = refl })

pub in_row : (x : Script) (a : Answer) → table_of x ≡ gives a → InRow x a
unfolding table_of
in_row x a = by (serves x) (redirects x) (redirects_with_document x) (has_document x) refl refl refl refl
  where
    by :
        (p q r d : Bool) → serves x ≡ p → redirects x ≡ q → redirects_with_document x ≡ r → has_document x ≡ d
        → cond p (answer_for x Serve)
        (cond q (answer_for x Redirect) (cond r (answer_for x RedirectDocument) (cond d (answer_for x Document) (refused 25))))
        ≡ gives a → InRow x a
    by true q r d hp hq hr hd e = row-of x a Serve hp e
    by false true r d hp hq hr hd e = row-of x a Redirect hq e
    by false false true d hp hq hr hd e = row-of x a RedirectDocument hr e
    by false false false true hp hq hr hd e = row-of x a Document hd e
    by false false false false hp hq hr hd e = absurd (let z : ◌≡◌ {A = ℕ} 0 1 = cc in omega arith)

-- An answer's output.

-- what the table looks at, of an output with a head and a status
abbrev pub script_at : List ℕ → Head → Option ℕ → Script
script_at s h t =
    script_of s h.ends (length h.fields) (is_there (first_value (named (bytes "content-type") h.fields)))
    (first_value (named (bytes "location") h.fields)) t

pub record Answered (s : List ℕ) (a : Answer) : Type 0 where
  pub head : Head
  pub is : head_of s ≡ gives head
  pub location_is_right : location_right (first_value (named (bytes "location") head.fields)) ≡ true
  pub status : Option ℕ
  pub stated : stated_in (first_value (named (bytes "status") head.fields)) ≡ gives status
  pub row : InRow (script_at s head status) a

pub answered : (s : List ℕ) (a : Answer) → response_of s ≡ gives a → Answered s a
unfolding response_of
answered s a e =
    let g = then-gives (head_of s) (λ h. judged_head s h) a e in
    let fs = g.it.fields in
    let c = first_value (named (bytes "content-type") fs) in
    let l = first_value (named (bytes "location") fs) in
    let t = first_value (named (bytes "status") fs) in
    let o = need-gives (each_once fs) 25 _ a g.next in
    let p = need-gives (filled c) 25 _ a o.1 in
    let q = need-gives (filled l && location_right l) 25 _ a p.1 in
    let r = then-gives (stated_in t) (λ x. table_of (script_at s g.it x)) a q.1 in
    record {
      head = g.it;
      is = g.first;
      location_is_right = and_right (filled l) (location_right l) q.0;
      status = r.it;
      stated = r.first;
      row = in_row (script_at s g.it r.it) a r.next;
    }

-- The Location.

first-in : (s : List ℕ) (fs : List Named) → All (ValueIn s) fs → (v : Value) → first_value fs ≡ Some v → Stands s v.bytes v.start
first-in s [] no_more v e = absurd (let z : ◌≡◌ {A = ℕ} 0 1 = cc in omega arith)
first-in s (f ∷ fs) (p & ps) v e = let z : v ≡ f.value = cc in rw z p

same_head : (s : List ℕ) (h k : Head) → head_of s ≡ gives h → head_of s ≡ gives k → h ≡ k
same_head s h k p q = gives-is (sym p ∙ q)
  where
    gives-is : {h k : Head} → gives h ≡ gives k → h ≡ k
    gives-is e = cc

module _ (s : List ℕ) (a : Answer) (r : Answered s a) where
  abbrev location : Option Value
  location = first_value (named (bytes "location") r.head.fields)

  stands : (v : Value) → location ≡ Some v → Stands s v.bytes v.start
  stands v e =
      first-in s (named (bytes "location") r.head.fields)
      (named_in (bytes "location") r.head.fields (head_in s r.head r.is).each) v e

  pub value_is : (v : Value) → location ≡ Some v → location_in s a ≡ v.bytes
  value_is v e =
      let n : a.location.len ≡ length v.bytes = r.row.location_length ∙ ap length_or0 e in
      let i : a.location.start ≡ v.start = r.row.location_start ∙ ap start_or0 e in
      rw (n, i) (sym (stands v e).are)

  pub places : Within s a
  places = record { location = by location refl; body = omega (arith, r.row.body_start, r.row.body_length, (head_in s r.head r.is).ends) }
    where
      by : (o : Option Value) → location ≡ o → a.location.start + a.location.len ≤ length s
      by None e = omega (arith, r.row.location_start ∙ ap start_or0 e, r.row.location_length ∙ ap length_or0 e)
      by (Some v) e = omega (arith, r.row.location_start ∙ ap start_or0 e, r.row.location_length ∙ ap length_or0 e, (stands v e).within)

  pub served : a.action ≡ Serve → accepted (target_of (location_in s a)) ≡ true
  served act = by location refl r.location_is_right fits
    where
      fits : local_location (goes_to location) ≡ true
      fits =
          let x = script_at s r.head r.status in
          let f : serves x ≡ true = ap (λ (b : Action). row_of b x) (sym act) ∙ r.row.fits in
          let n = eqb (length r.head.fields) 1 in
          let b = eqb (length s - r.head.ends) 0 in
          and_left (local_location (goes_to location)) n (and_left (local_location (goes_to location) && n) b f)

      target : (v : Value) (x : Bool) → cond x (accepted (target_of v.bytes)) (is_elsewhere v.bytes) ≡ true → local_location (cond x local elsewhere) ≡ true → accepted (target_of v.bytes) ≡ true
      target v true e f = e
      target v false e f = cc

      by : (o : Option Value) → location ≡ o → location_right o ≡ true → local_location (goes_to o) ≡ true → accepted (target_of (location_in s a)) ≡ true
      by None p e f = cc
      by (Some v) p e f = rw (value_is v p) (target v (is_local v.bytes) e f)

-- the row of an action says whether there is a Location
module _ (s : List ℕ) (ends n : ℕ) (typed : Bool) (t : Option ℕ) where
  row-tells : (act : Action) (o : Option Value) → row_of act (script_of s ends n typed o t) ≡ true → is_there o ≡ has_location act
  row-tells Serve None f = absurd (false≢true f)
  row-tells Redirect None f = absurd (false≢true f)
  row-tells RedirectDocument None f = absurd (false≢true f)
  row-tells Document None f = refl
  row-tells Serve (Some v) f = refl
  row-tells Redirect (Some v) f = refl
  row-tells RedirectDocument (Some v) f = refl
  row-tells Document (Some v) f = absurd (by (is_local v.bytes) f)
    where
      by : (l : Bool) → no_location (cond l local elsewhere) && typed ≡ true → ⊥
      by true e = false≢true e
      by false e = false≢true e

pub tells-location :
    (s : List ℕ) (h : Head) (a : Answer) → head_of s ≡ gives h → Answered s a
    → is_there (first_value (named (bytes "location") h.fields)) ≡ has_location a.action
tells-location s h a p r =
    rw (same_head s h r.head p r.is) (row-tells s r.head.ends _ _ r.status a.action (location s a r) r.row.fits)

-- The status.

pub stated-range : (o : Option Value) (n : ℕ) → stated_in o ≡ gives (Some n) → within 200 599 n ≡ true
stated-range None n e = cc
stated-range (Some v) n e = by (status_of v.bytes) refl e
  where
    by : (o : Option ℕ) → status_of v.bytes ≡ o → then (given o 25) (λ m. gives (Some m)) ≡ gives (Some n) → within 200 599 n ≡ true
    by None p q = cc
    by (Some m) p q =
        let z : m ≡ n = cc in
        let h = status-within v.bytes m p in
        rw (sym z) (rw (le-leb 200 m h.0, le-leb m 599 h.1))

fits-row : (act : Action) (x : Script) → row_of act x ≡ true → ((n : ℕ) → x.status ≡ Some n → within 200 599 n ≡ true) → status_fits act (status_for act x) ≡ true
fits-row Serve x f h = refl
fits-row Redirect x f h = refl
fits-row RedirectDocument x f h = by x.status (and_right (other_location x.goes && x.typed) (status_redirecting x.status) f)
  where
    by : (t : Option ℕ) → status_redirecting t ≡ true → redirecting (status_or 0 t) ≡ true
    by None e = cc
    by (Some n) e = e
fits-row Document x f h = by x.status h
  where
    by : (t : Option ℕ) → ((n : ℕ) → t ≡ Some n → within 200 599 n ≡ true) → within 200 599 (status_or 200 t) ≡ true
    by None g = refl
    by (Some n) g = g n refl

pub status-fits : (s : List ℕ) (a : Answer) → Answered s a → status_fits a.action a.status ≡ true
status-fits s a r =
    rw r.row.status_is
    (fits-row a.action (script_at s r.head r.status) r.row.fits (λ n e. stated-range (first_value (named (bytes "status") r.head.fields)) n (r.stated ∙ ap gives e)))

in-range : (n m : ℕ) → eqb n m ≡ true → within 200 599 m ≡ true → within 200 599 n ≡ true
in-range n m e h = ap (within 200 599) (eqb-true n m e) ∙ h

redirecting-range : (n : ℕ) → redirecting n ≡ true → within 200 599 n ≡ true
unfolding redirecting
redirecting-range n = by (eqb n 301) (eqb n 302) (eqb n 303) (eqb n 307) (eqb n 308) refl refl refl refl refl
  where
    by :
        (a b c d e : Bool) → eqb n 301 ≡ a → eqb n 302 ≡ b → eqb n 303 ≡ c → eqb n 307 ≡ d → eqb n 308 ≡ e
        → a || (b || (c || (d || (e || false)))) ≡ true → within 200 599 n ≡ true
    by true b c d e p q r s t h = in-range n 301 p refl
    by false true c d e p q r s t h = in-range n 302 q refl
    by false false true d e p q r s t h = in-range n 303 r refl
    by false false false true e p q r s t h = in-range n 307 s refl
    by false false false false true p q r s t h = in-range n 308 t refl
    by false false false false false p q r s t h = cc

pub fits-range : (act : Action) (n : ℕ) → status_fits act n ≡ true → eqb n 0 || within 200 599 n ≡ true
fits-range Serve n e = rw e
fits-range Redirect n e = rw (in-range n 302 e refl) (or-true (eqb n 0))
fits-range RedirectDocument n e = rw (redirecting-range n e) (or-true (eqb n 0))
fits-range Document n e = rw e (or-true (eqb n 0))

-- without Status
pub no-status :
    (s : List ℕ) (h : Head) (a : Answer) → head_of s ≡ gives h → named (bytes "status") h.fields ≡ [] → Answered s a → a.action ≡ Document → a.status ≡ 200
no-status s h a p e r act =
    let z : h ≡ r.head = same_head s h r.head p r.is in
    let n : first_value (named (bytes "status") r.head.fields) ≡ None = ap (λ (k : Head). first_value (named (bytes "status") k.fields)) (sym z) ∙ ap first_value e in
    let t : None ≡ r.status = gives-option (sym (ap stated_in n) ∙ r.stated) in
    r.row.status_is ∙ ap (λ (b : Action). status_for b (script_at s r.head r.status)) act ∙ ap (status_or 200) (sym t)
  where
    gives-option : {o k : Option ℕ} → gives o ≡ gives k → o ≡ k
    gives-option e = cc

pub location-stands :
    (s : List ℕ) (h : Head) (v : Value) (a : Answer) → head_of s ≡ gives h → first_value (named (bytes "location") h.fields) ≡ Some v
    → Answered s a → location_in s a ≡ v.bytes
location-stands s h v a p e r =
    let z : h ≡ r.head = same_head s h r.head p r.is in
    value_is s a r v (ap (λ (k : Head). first_value (named (bytes "location") k.fields)) (sym z) ∙ e)

-- The rows.

pub exclude : (x : Script) → rows_that_fit x ≤ 1
exclude x = by x.goes x.typed (eqb x.fields 1) (no_body x) (no_status x.status) (status_redirecting x.status)
  where
    by :
        (g : Goes) (c one nb ns sr : Bool)
        → how_many ((local_location g && one && nb) ∷ (other_location g && ns && not c && nb) ∷ (other_location g && c && sr) ∷ (no_location g && c) ∷ []) ≤ 1
    by nowhere true one nb ns sr = omega arith
    by nowhere false one nb ns sr = omega arith
    by local c true true ns sr = omega arith
    by local c true false ns sr = omega arith
    by local c false nb ns sr = omega arith
    by elsewhere true one nb true true = omega arith
    by elsewhere true one nb true false = omega arith
    by elsewhere true one nb false true = omega arith
    by elsewhere true one nb false false = omega arith
    by elsewhere false one true true sr = omega arith
    by elsewhere false one false true sr = omega arith
    by elsewhere false one nb false sr = omega arith

pub no_row : (x : Script) → rows_that_fit x ≡ 0 → table_of x ≡ refused 25
unfolding table_of
no_row x = by (serves x) (redirects x) (redirects_with_document x) (has_document x)
  where
    by :
        (p q r d : Bool) → how_many (p ∷ q ∷ r ∷ d ∷ []) ≡ 0
        → cond p (answer_for x Serve)
        (cond q (answer_for x Redirect) (cond r (answer_for x RedirectDocument) (cond d (answer_for x Document) (refused 25))))
        ≡ refused 25
    by true q r d e = cc
    by false true r d e = cc
    by false false true d e = cc
    by false false false true e = cc
    by false false false false e = refl
