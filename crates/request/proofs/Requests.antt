-- What an accepted request obeys, which numbers a refused one has, and what stands at the places that an answer tells.
-- Assumes nothing.
use Prim.Native.Nat.{ℕ, ◌+◌, ◌≤◌}
use mathlib.Core.Path.{◌≡◌, refl, sym, ap, ◌∙◌}
use mathlib.Core.List.{List, [], ◌∷◌}
use native.Mathlib.Omega.{arith}
use lib.Dec.{eqb, leb}
use lib.ListN.{length, take, drop, length-take, length-append}
use lib.Seq.{take_at}
use Rattle.octets.specs.Text.{bytes}
use Rattle.octets.specs.Outcome.{Outcome, refused, gives, then}
use Rattle.octets.specs.Kinds.{is_name}
use Rattle.octets.specs.Scan.{all_of}
use Rattle.octets.specs.Decimal.{number_of}
use Rattle.octets.specs.Copy.{over}
use Rattle.octets.proofs.Lists.{part-take}
use Rattle.octets.proofs.Outcomes.{gives-once, then-gives}
use Rattle.octets.proofs.Refusals.{Refuses, with_number, not_refused, number-of, refuses-within, refuses-only, refuses-then, refuses-need, refuses-given}
use Rattle.http_head.specs.Lines.{lines_of, line_run}
use Rattle.http_head.specs.RequestLine.{FirstLine, request_line_of, version_text, line_places}
use Rattle.octets.specs.Refusal.{number_of as number_for}
use Rattle.octets.specs.declared.refusal.Refusal.{Refusal}
use Rattle.std.proofs.Common.{Ok, Err}
use Rattle.http_head.specs.Fields.{Field, fields_of, places_of, with_front, fields_at, Stored}
use Rattle.http_head.specs.declared.fields.Field.{Field as Spans}
use Rattle.http_head.specs.Claims.{LineStands, FieldsStand}
use Rattle.http_head.proofs.Claims as Http
use Rattle.http_head.proofs.Claims.{first-line-stands, line-is-made, lines-told, fields_obey, fields_told}
use Rattle.targets.specs.Escape.{decoded}
use Rattle.targets.specs.Target.{Target, path_of, query_of, target_of, written}
use Rattle.targets.specs.Claims.{Told}
use Rattle.targets.proofs.Claims as Targets
use Rattle.targets.proofs.Claims.{targets-obey, targets-told}
use Rattle.request.specs.Named.{lowered, values_of}
use Rattle.request.specs.Request.{host_right, stated_by, content_of, rules_of, Request, request_of}
use Rattle.request.specs.Rules.{found_of}
use Rattle.request.specs.RequestRead.{target_in, placed_in, RequestRead, line_in, path_in, part_if, LineKnown, FieldsKnown}
use Rattle.request.specs.Claims.{Obeys, RequestStands, request_numbers, NumbersHold}
use Rattle.request.specs.declared.read.LinePlaces.{LinePlaces}
use Rattle.request.specs.declared.read.FieldPlaces.{FieldPlaces}
use Rattle.request.specs.declared.read.RequestPlaces.{RequestPlaces}
use Rattle.request.proofs.RuleSteps.{types}
use Rattle.request.proofs.RequestSteps.{refused-so, minor-text, stored-are}

-- WHAT AN ACCEPTED REQUEST OBEYS

obeys-at :
    (head : List ℕ) (q : Request) (first : FirstLine) (t : Target) (fields : List Field) (n : ℕ) → request_line_of (lines_of head).first ≡ gives first
    → target_of first.target ≡ gives t → fields_of is_name (lines_of head).others ≡ gives fields → rules_of first.version (lowered fields) ≡ gives n
    → record { first = first; path = t.path; fields = fields; body_length = n } ≡ q → Obeys head q
obeys-at head q first t fields n a b c d z =
    rw (← z)
    (record {
      line = (line-is-made (lines_of head).first first).0 a;
      target = t;
      target_read = b;
      target_obeys = targets-obey first.target t b;
      path = refl;
      fields_read = c;
      fields_obey = fields_obey.clean is_name (lines_of head).others fields c;
      fields_few = fields_obey.few is_name (lines_of head).others fields c;
      rules = d;
    })

pub obeys : (head : List ℕ) (q : Request) → request_of head ≡ gives q → Obeys head q
unfolding request_of
obeys head q e =
    let a = then-gives (request_line_of (lines_of head).first) _ q e in
    let b = then-gives (target_of a.it.target) _ q a.next in
    let c = then-gives (fields_of is_name (lines_of head).others) _ q b.next in
    let d = then-gives (rules_of a.it.version (lowered c.it)) _ q c.next in
    obeys-at head q a.it b.it c.it d.it a.first b.first c.first d.first (gives-once _ q d.next)

-- WHICH NUMBERS A REFUSED ONE HAS

stated-numbers : (vs : List (List ℕ)) → Refuses request_numbers (stated_by vs)
stated-numbers [] = not_refused
stated-numbers (v ∷ []) = refuses-given (number_of v) 17 refl
stated-numbers (v ∷ (w ∷ vs)) = with_number refl

rules-numbers : (version : List ℕ) (fs : List Field) → Refuses request_numbers (rules_of version fs)
unfolding rules_of content_of
rules-numbers version fs =
    refuses-need (host_right version fs) 16 refl
    (refuses-then
    (refuses-then (stated-numbers (values_of (bytes "content-length") fs)) (λ n. refuses-need (leb (length (values_of (bytes "content-type") fs)) 1) 17 refl not_refused))
    (λ n. refuses-need (eqb (length (values_of (bytes "transfer-encoding") fs)) 0) 18 refl not_refused))

request-numbers : (head : List ℕ) → Refuses request_numbers (request_of head)
unfolding request_of all_of
request-numbers head =
    refuses-then (refuses-within (12 ∷ 13 ∷ []) refl (request_line_of (lines_of head).first) ((Http.numbers-hold).line (lines_of head).first))
    (λ first. refuses-then (refuses-only (target_of first.target) 14 refl (Targets.numbers-hold first.target))
    (λ target. refuses-then (refuses-only (fields_of is_name (lines_of head).others) 15 refl ((Http.numbers-hold).fields is_name (lines_of head).others))
    (λ fields. refuses-then (rules-numbers first.version (lowered fields)) (λ n. not_refused))))

pub numbers-hold : NumbersHold
numbers-hold head n = number-of n (request-numbers head)

-- WHAT STANDS AT THE PLACES THAT AN ANSWER TELLS

-- what is written to a buffer's front stands there
front-is : (d w : List ℕ) → take (length w) (over d 0 w) ≡ w
unfolding over
front-is d w = take_at w (drop (0 + length w) d) (length w) refl

front-inside : (d w : List ℕ) → length w ≤ length (over d 0 w)
unfolding over
front-inside d w = simp length-append (omega arith)

pub refuses :
    (head : List ℕ) (places places' : List Spans) (path path' : List ℕ) (e : Refusal) → RequestRead head places places' path path' (Err e)
    → refused (number_for e) ≡ request_of head
refuses head places places' path path' e r = sym (refused-so (request_of head) (placed_in head) (number_for e) r.answer)

-- of a request q, whose parts' places are l and f
module _ (head : List ℕ) (places places' : List Spans) (path path' : List ℕ) (q : Request) (gave : request_of head ≡ gives q) where
  o : Obeys head q
  o = obeys head q gave

  abbrev line : List ℕ
  line = take (line_run head) head

  abbrev l : LinePlaces
  l = (placed_in head q).line

  abbrev f : FieldPlaces
  f = (placed_in head q).fields

  line_read : request_line_of line ≡ gives q.first
  line_read = ap request_line_of (sym (first-line-stands.first head)) ∙ (line-is-made (lines_of head).first q.first).1 o.line

  version-is : version_text l.minor ≡ q.first.version
  version-is = minor-text q.first.version o.line.served

  stands : LineStands line (record { method_len = l.method; target = l.target; minor = l.minor })
  stands =
      lines-told.accepts line (record { method_len = l.method; target = l.target; minor = l.minor })
      (rw version-is (sym (ap (λ (x : Outcome FirstLine). then x (λ y. gives (line_places y))) line_read)))

  method_inside : l.method ≤ length head
  method_inside = omega (arith, stands.method_inside, length-take (line_run head) head)

  target_inside : l.target.start + l.target.len ≤ length head
  target_inside = omega (arith, stands.target_inside, length-take (line_run head) head)

  line-is : line_in head l ≡ q.first
  line-is =
      let e : gives (line_in head l) ≡ gives q.first =
      sym (rw (part-take head (line_run head) 0 l.method (omega (arith, stands.method_inside)), part-take head (line_run head) l.target.start l.target.len stands.target_inside))
      ∙ stands.answer ∙ line_read in
      gives-once _ q.first e

  target_is : target_in head l ≡ q.first.target
  target_is = ap (λ (x : FirstLine). x.target) line-is

  path-told : decoded (path_of (target_in head l)) ≡ q.path
  path-told = ap (λ (t : List ℕ). decoded (path_of t)) target_is ∙ sym o.target_obeys.path_is ∙ sym o.path

  -- the lengths of the path, as the answer for the target tells them
  told : Told q.first.target (over q.first.target 0 (written q.first.target)) l.path (length o.target.path)
  told =
      targets-told.accepts q.first.target q.first.target (over q.first.target 0 (written q.first.target)) l.path (length o.target.path)
      (omega arith)
      (record {
        answer = sym (ap (λ (x : Outcome Target). then x (λ y. gives (record { path_len = length (path_of q.first.target); decoded_len = length y.path }))) o.target_read);
        buffer = refl;
      })

  query_is : query_of (target_in head l) ≡ drop (l.path + 1) (target_in head l)
  query_is =
      let t = q.first.target in
      let e : gives (record { path = take (length o.target.path) (over t 0 (written t)); query = drop (l.path + 1) t }) ≡ gives o.target = told.answer ∙ o.target_read in
      rw target_is (sym o.target_obeys.query_is ∙ sym (ap (λ (x : Target). x.query) (gives-once _ o.target e)))

  module _ (buffer : path' ≡ over path 0 (decoded (path_of (target_in head l)))) where
    buffer-is : path' ≡ over path 0 q.path
    buffer-is = buffer ∙ ap (over path 0) path-told

    line_known : LineKnown head path' l
    line_known =
        record {
          method_inside = method_inside;
          target_inside = target_inside;
          minor_is = stands.minor_is;
          path_inside = told.path_inside;
          query_is = query_is;
          decoded_inside = rw buffer-is (front-inside path q.path);
        }

    path_is : path_in path' l ≡ q.path
    path_is = ap (take (length q.path)) buffer-is ∙ front-is path q.path

    module _ (front : places' ≡ with_front places (places_of head)) where
      stored : Stored is_name head places places' (Ok f.count)
      stored = record { answer = sym (ap (λ (x : Outcome (List Field)). then x (λ fs. gives (length fs))) o.fields_read); places = front }

      stand : FieldsStand is_name head places' f.count
      stand = fields_told.accepts is_name head places places' f.count stored

      fields-are : fields_at head (take f.count places') ≡ q.fields
      fields-are = gives-once _ q.fields (stand.answer ∙ o.fields_read)

      fields-known : FieldsKnown head places' f
      fields-known =
          let t = types head (take f.count places') stand.inside refl in
          let e : found_of (bytes "content-type") head (take f.count places') ≡ found_of (bytes "content-type") head (places_of head) =
          ap (found_of (bytes "content-type") head) (stored-are head places places' f.count stored) in
          record {
            few = stand.few;
            room = stand.room;
            inside = stand.inside;
            type_is = t.first_is ∙ ap (λ r. part_if head r.first) e;
            type_inside = rw e at t.inside;
          }

      request-stands : RequestStands head places' path' l f
      request-stands =
          record {
            answer = ap gives (same line-is path_is fields-are) ∙ sym gave;
            line = line_known;
            fields = fields-known;
          }
        where
          same :
              {a b : FirstLine} {c d : List ℕ} {e g : List Field} {n : ℕ} → a ≡ b → c ≡ d → e ≡ g
              → ◌≡◌ {A = Request} (record { first = a; path = c; fields = e; body_length = n }) (record { first = b; path = d; fields = g; body_length = n })
          same x y z = rw (x, y, z)

pub accepts :
    (head : List ℕ) (places places' : List Spans) (path path' : List ℕ) (r : RequestPlaces)
    → RequestRead head places places' path path' (Ok r) → RequestStands head places' path' r.line r.fields
accepts head places places' path path' at r =
    let g = then-gives (request_of head) (λ q. gives (placed_in head q)) at (sym r.answer) in
    let e : placed_in head g.it ≡ at = gives-once _ at g.next in
    told-by g.it g.first at e r.stored.1 r.stored.0
  where
    told-by :
        (q : Request) → request_of head ≡ gives q → (at : RequestPlaces) → placed_in head q ≡ at
        → path' ≡ over path 0 (decoded (path_of (target_in head at.line))) → places' ≡ with_front places (places_of head)
        → RequestStands head places' path' at.line at.fields
    told-by q gave at a buffer front =
        rw (← a) (request-stands head places places' path path' q gave (rw (← a) at buffer) front)
