-- Laws of the steps in which a request's head is read.
-- Assumes nothing.
use Prim.Native.Nat.{ℕ, min, ◌+◌, ◌-◌, ◌≤◌}
use Prim.{absurd}
use mathlib.Core.Path.{◌≡◌, refl, sym, ap, ◌∙◌}
use mathlib.Core.Bool.{Bool, true, false, cond, ◌||◌, false≢true}
use mathlib.Core.List.{List, []}
use Rattle.std.proofs.Common.{Ok, Err}
use native.Mathlib.Omega.{arith}
use lib.ListN.{length, take, drop, length-take, length-drop}
use lib.Seq.{length-take-le}
use Rattle.octets.specs.Text.{bytes}
use Rattle.octets.specs.Outcome.{Outcome, refused, gives, then}
use Rattle.octets.specs.Kinds.{is_name}
use Rattle.octets.specs.Compare.{same_bytes}
use Rattle.octets.specs.Copy.{over}
use Rattle.octets.proofs.Compares.{same_true}
use Rattle.octets.proofs.Lists.{part-take}
use Rattle.octets.proofs.Outcomes.{Gave, need-gives, gives-once, then-gives}
use Rattle.http_head.specs.Lines.{lines_of, line_run}
use Rattle.http_head.specs.RequestLine.{FirstLine, LineParts, line_places, line_places_of, line_outcome as request_line_outcome, request_line_of, version_text, is_served}
use Rattle.octets.specs.Refusal.{number_of}
use Rattle.octets.specs.declared.refusal.Refusal.{Refusal}
use Rattle.http_head.specs.Fields.{Field, fields_of, places_of, part_at, fields_at, Stored}
use Rattle.http_head.specs.Claims.{LineStands, FieldsStand}
use Rattle.http_head.specs.declared.request_line.RequestLine.{RequestLine}
use Rattle.http_head.specs.declared.fields.Field.{Field as Spans}
use Rattle.http_head.proofs.Claims.{first-line-stands, line-is-made, lines-told, fields_told}
use Rattle.targets.specs.Escape.{decoded}
use Rattle.targets.specs.Target.{Target, path_of, raw_right, target_of, written, TargetRead}
use Rattle.targets.specs.declared.target.TargetPlace.{TargetPlace}
use Rattle.targets.proofs.Claims.{targets-told}
use Rattle.request.specs.Named.{lowered}
use Rattle.request.specs.Request.{rules_of, request_of}
use Rattle.request.specs.Rules.{found_of, judged, judged_of}
use Rattle.request.specs.RequestRead.{Start, start_of, minor_of, line_placed, LineRead, Stating, stating_of, fields_placed, FieldsRead, placed_in, RequestRead}
use Rattle.request.specs.declared.read.LinePlaces.{LinePlaces}
use Rattle.request.specs.declared.read.FieldPlaces.{FieldPlaces}
use Rattle.request.specs.declared.read.RequestPlaces.{RequestPlaces}
use Rattle.request.specs.declared.rules.Judged.{Judged}

-- a step that is told by its answer's numbers is refused where the step is
pub refused-so : {A B : Type 0} (o : Outcome A) (f : A → B) (k : ℕ) → refused k ≡ then o (λ a. gives (f a)) → o ≡ refused k
refused-so (refused n) f k e = cc
refused-so (gives a) f k e = cc

-- THE REQUEST LINE; end is where it ends

-- a version that is served, by its second digit
pub minor-text : (v : List ℕ) → is_served v ≡ true → version_text (minor_of v) ≡ v
minor-text v = by (same_bytes v (bytes "HTTP/1.0")) (same_bytes v (bytes "HTTP/1.1")) refl refl
  where
    by :
        (t u : Bool) → same_bytes v (bytes "HTTP/1.0") ≡ t → same_bytes v (bytes "HTTP/1.1") ≡ u → t || u ≡ true → version_text (minor_of v) ≡ v
    by true u p q e = rw (same_true v (bytes "HTTP/1.0") p)
    by false true p q e = rw (same_true v (bytes "HTTP/1.1") q)
    by false false p q e = absurd (false≢true e)

abbrev start_with : List ℕ → Outcome FirstLine → Outcome LinePlaces
start_with head o =
    then (then o (λ first. then (target_of first.target) (λ target. gives (record { first = first; path = target.path })))) (λ s. gives (line_placed head s))

abbrev start_from : List ℕ → FirstLine → Outcome Target → Outcome LinePlaces
start_from head first o = then (then o (λ target. gives (record { first = first; path = target.path }))) (λ s. gives (line_placed head s))

-- a buffer with room for the head has room for a part of it
pub part_room : (head path : List ℕ) (t n : ℕ) → min (length head) 4096 ≤ length path → min (length (take n (drop t head))) 4096 ≤ length path
part_room head path t n h = simp (length-take, length-drop) (omega arith)

-- what is written to the buffer for an accepted target
written-path : (t : List ℕ) (x : Target) → target_of t ≡ gives x → written t ≡ decoded (path_of t)
unfolding target_of
written-path t x e = ap (λ (b : Bool). cond b (decoded (path_of t)) []) (need-gives (raw_right t) 14 _ x e).0

module _ (head : List ℕ) (end : ℕ) (at : end ≡ 0 + line_run (drop 0 head)) where
  end_is : end ≡ line_run head
  end_is = omega arith

  first_is : (lines_of head).first ≡ take end head
  first_is = first-line-stands.first head ∙ ap (λ (k : ℕ). take k head) (sym end_is)

  pub malformed :
      (before after : List ℕ) (e : Refusal) → request_line_outcome (Err e) ≡ line_places_of (take end head) → LineRead head before after (Err e)
  malformed before after e q =
      record { answer = ap (start_with head) (lines-told.refuses (take end head) e q ∙ ap request_line_of (sym first_is)); buffer = tt }

  module _ (l : RequestLine) (says : request_line_outcome (Ok l) ≡ line_places_of (take end head)) where
    stands : LineStands (take end head) l
    stands = lines-told.accepts (take end head) l says

    pub target-in : l.target.start + l.target.len ≤ length head
    target-in = omega (arith, stands.target_inside, length-take end head)

    method-in : l.method_len ≤ length head
    method-in = omega (arith, stands.method_inside, length-take end head)

    abbrev first : FirstLine
    first = record { method = take l.method_len head; target = part_at head l.target; version = version_text l.minor }

    line-is : request_line_of (lines_of head).first ≡ gives first
    line-is =
        ap request_line_of first_is ∙ sym stands.answer
        ∙ rw (part-take head end 0 l.method_len (omega (arith, stands.method_inside)), part-take head end l.target.start l.target.len stands.target_inside)

    -- "the target starts one after the method's space"
    target_at : l.target.start ≡ length (take l.method_len head) + 1
    target_at =
        let e : gives (record { method_length = l.method_len; target = l.target; version = version_text l.minor }) ≡ gives (line_places first) =
        says ∙ ap (λ (o : Outcome FirstLine). then o (λ f. gives (line_places f))) (ap request_line_of (sym first_is) ∙ line-is) in
        ap (λ (p : LineParts). p.target.start) (gives-once _ (line_places first) e)

    module _ (before after : List ℕ) where
      pub bad-target : (e : Refusal) → TargetRead (part_at head l.target) before after (Err e) → LineRead head before after (Err e)
      bad-target e w =
          record {
            answer = ap (start_from head first) (targets-told.refuses (part_at head l.target) before after e w) ∙ ap (start_with head) (sym line-is);
            buffer = tt;
          }

      module _ (p : TargetPlace) (w : TargetRead (part_at head l.target) before after (Ok p)) where
        abbrev places : LinePlaces
        places = record { end = end; method = l.method_len; target = l.target; minor = l.minor; path = p.path_len; decoded = p.decoded_len }

        placed :
            (o : Outcome Target) → gives p ≡ then o (λ x. gives (record { path_len = length (path_of (part_at head l.target)); decoded_len = length x.path }))
            → gives places ≡ start_from head first o
        placed (refused k) e = absurd (let z : ◌≡◌ {A = ℕ} 0 1 = cc in omega arith)
        placed (gives x) e =
            let q = gives-once {A = TargetPlace} _ _ e in
            let a : l.method_len ≡ length (take l.method_len head) = sym (length-take-le l.method_len head method-in) in
            let b : l.target.len ≡ length (part_at head l.target) =
            sym (length-take-le l.target.len (drop l.target.start head) (omega (arith, target-in, length-drop l.target.start head))) in
            let c : l.minor ≡ 48 + l.minor - 48 = omega arith in
            all_same end_is a target_at b c (ap (λ (y : TargetPlace). y.path_len) q) (ap (λ (y : TargetPlace). y.decoded_len) q)
          where
            all_same :
                {e e' m m' t t' n n' d d' p p' q q' : ℕ} → e ≡ e' → m ≡ m' → t ≡ t' → n ≡ n' → d ≡ d' → p ≡ p' → q ≡ q'
                → ◌≡◌ {A = Outcome LinePlaces} (gives (record { end = e; method = m; target = record { start = t; len = n }; minor = d; path = p; decoded = q }))
                (gives (record { end = e'; method = m'; target = record { start = t'; len = n' }; minor = d'; path = p'; decoded = q' }))
            all_same e m t n d p q = rw (e, m, t, n, d, p, q)

        pub line-read-whole : LineRead head before after (Ok places)
        line-read-whole =
            let x = then-gives (target_of (part_at head l.target)) _ p (sym w.answer) in
            record {
              answer = placed (target_of (part_at head l.target)) w.answer ∙ ap (start_with head) (sym line-is);
              buffer = w.buffer ∙ ap (over before 0) (written-path (part_at head l.target) x.it x.first);
            }

-- the line that was read ends where the first line does
pub ends_at : (head before after : List ℕ) (line : LinePlaces) → LineRead head before after (Ok line) → line.end ≡ line_run head
ends_at head before after line l =
    let s = then-gives (start_of head) (λ s. gives (line_placed head s)) line (sym l.answer) in
    ap (λ (y : LinePlaces). y.end) (sym (gives-once _ line s.next))

-- THE FIELDS

abbrev stating_with : List ℕ → List ℕ → Outcome (List Field) → Outcome FieldPlaces
stating_with head version o =
    then (then o (λ fields. then (rules_of version (lowered fields)) (λ n. gives (record { fields = fields; body_length = n })))) (λ g. gives (fields_placed head g))

module _ (head : List ℕ) (before after : List Spans) (n : ℕ) (s : Stored is_name head before after (Ok n)) where
  stand : FieldsStand is_name head after n
  stand = fields_told.accepts is_name head before after n s

  -- how many fields there are
  pub counted : length (fields_at head (take n after)) ≡ n
  counted =
      let e : gives (length (fields_at head (take n after))) ≡ gives n =
      ap (λ (o : Outcome (List Field)). then o (λ fs. gives (length fs))) stand.answer ∙ sym s.answer in
      gives-once _ n e

  -- the places that were stored
  pub stored-are : take n after ≡ places_of head
  stored-are = stand.stored

module _ (head version : List ℕ) (before after : List Spans) where
  pub bad-fields : (e : Refusal) → Stored is_name head before after (Err e) → FieldsRead head version before after (Err e)
  bad-fields e s = record { answer = ap (stating_with head version) (fields_told.refuses is_name head before after e s); places = tt }

  module _ (n : ℕ) (s : Stored is_name head before after (Ok n)) where
    abbrev fields : List Field
    fields = fields_at head (take n after)

    abbrev statingFrom : Outcome ℕ → Outcome FieldPlaces
    statingFrom o = then (then o (λ m. gives (record { fields = fields; body_length = m }))) (λ g. gives (fields_placed head g))

    abbrev judgedFrom : Outcome ℕ → Outcome Judged
    judgedFrom o = then o (λ m. gives (judged m (found_of (bytes "content-type") head (take n after))))

    pub bad-rules : (e : Refusal) → refused (number_of e) ≡ judged_of version head (take n after) → FieldsRead head version before after (Err e)
    bad-rules k r =
        let e : rules_of version (lowered fields) ≡ refused (number_of k) = refused-so (rules_of version (lowered fields)) _ (number_of k) r in
        record { answer = sym (ap statingFrom e) ∙ ap (stating_with head version) (stand head before after n s).answer; places = tt }

    pub fields-read-whole :
        (j : Judged) → gives j ≡ judged_of version head (take n after)
        → FieldsRead head version before after (Ok (record { count = n; body = j.body; content_type = j.content_type }))
    fields-read-whole j r =
        record {
          answer = placed (rules_of version (lowered fields)) r ∙ ap (stating_with head version) (stand head before after n s).answer;
          places = s.places;
        }
      where
        same :
            (m : ℕ) → j ≡ judged m (found_of (bytes "content-type") head (take n after))
            → record { count = n; body = j.body; content_type = j.content_type } ≡ fields_placed head (record { fields = fields; body_length = m })
        same m e =
            ap (λ (i : Judged). record { count = n; body = i.body; content_type = i.content_type }) e
            ∙ rw (counted head before after n s, stored-are head before after n s)

        placed : (o : Outcome ℕ) → gives j ≡ judgedFrom o → gives (record { count = n; body = j.body; content_type = j.content_type }) ≡ statingFrom o
        placed (refused k) e = absurd (let z : ◌≡◌ {A = ℕ} 0 1 = cc in omega arith)
        placed (gives m) e = ap gives (same m (gives-once {A = Judged} _ _ e))

-- THE REQUEST

abbrev placed_by : List ℕ → Start → Stating → RequestPlaces
placed_by head s g = record { line = line_placed head s; fields = fields_placed head g }

-- the chain of a request is that of its line, and then that of its fields
chain :
    (head : List ℕ) (o : Outcome FirstLine) (F : FirstLine → Outcome Target) (G : Outcome (List Field)) (R : List ℕ → List Field → Outcome ℕ)
    → then (then o (λ first. then (F first) (λ target. then G (λ fields. then (R first.version fields) (λ n. gives (record { first = first; path = target.path; fields = fields; body_length = n })))))) (λ q. gives (placed_in head q))
    ≡ then (then o (λ first. then (F first) (λ target. gives (record { first = first; path = target.path }))))
    (λ s. then (then G (λ fields. then (R s.first.version fields) (λ n. gives (record { fields = fields; body_length = n })))) (λ g. gives (placed_by head s g)))
chain head (refused n) F G R = refl
chain head (gives first) F G R = by (F first) G
  where
    rules :
        (target : Target) (fields : List Field) (o : Outcome ℕ)
        → then (then o (λ n. gives (record { first = first; path = target.path; fields = fields; body_length = n }))) (λ q. gives (placed_in head q))
        ≡ then (then o (λ n. gives (record { fields = fields; body_length = n }))) (λ g. gives (placed_by head (record { first = first; path = target.path }) g))
    rules target fs (refused n) = refl
    rules target fs (gives n) = refl

    by :
        (o : Outcome Target) (G : Outcome (List Field))
        → then (then o (λ target. then G (λ fields. then (R first.version fields) (λ n. gives (record { first = first; path = target.path; fields = fields; body_length = n }))))) (λ q. gives (placed_in head q))
        ≡ then (then o (λ target. gives (record { first = first; path = target.path })))
        (λ s. then (then G (λ fields. then (R s.first.version fields) (λ n. gives (record { fields = fields; body_length = n })))) (λ g. gives (placed_by head s g)))
    by (refused n) G = refl
    by (gives target) (refused n) = refl
    by (gives target) (gives fs) = rules target fs (R first.version fs)

module _ (head : List ℕ) where
  whole :
      then (request_of head) (λ q. gives (placed_in head q))
      ≡ then (start_of head) (λ s. then (stating_of head s.first.version) (λ g. gives (placed_by head s g)))
  unfolding request_of
  whole =
      chain head (request_line_of (lines_of head).first) (λ first. target_of first.target) (fields_of is_name (lines_of head).others)
      (λ version fields. rules_of version (lowered fields))

  abbrev with_fields : Outcome Start → Outcome RequestPlaces
  with_fields o = then o (λ s. then (stating_of head s.first.version) (λ g. gives (placed_by head s g)))

  module _ (places places' : List Spans) (path path' : List ℕ) where
    pub no_line : (e : Refusal) → LineRead head path path' (Err e) → RequestRead head places places' path path' (Err e)
    no_line e l =
        record { answer = sym (whole ∙ ap with_fields (refused-so (start_of head) (line_placed head) (number_of e) l.answer)); stored = tt }

    module _ (line : LinePlaces) (l : LineRead head path path' (Ok line)) where
      started : Gave (start_of head) (λ s. gives (line_placed head s)) line
      started = then-gives (start_of head) (λ s. gives (line_placed head s)) line (sym l.answer)

      line-told : line_placed head started.it ≡ line
      line-told = gives-once _ line started.next

      -- the version is the one that the line's digit tells
      version-is : version_text line.minor ≡ started.it.first.version
      version-is =
          let s : Start = started.it in
          let a = then-gives (request_line_of (lines_of head).first) _ s started.first in
          let b = then-gives (target_of a.it.target) _ s a.next in
          let f : record { first = a.it; path = b.it.path } ≡ s = gives-once {A = Start} _ s b.next in
          let g : a.it ≡ s.first = ap (λ (y : Start). y.first) f in
          let r = (line-is-made (lines_of head).first a.it).0 a.first in
          ap (λ (y : LinePlaces). version_text y.minor) (sym line-told)
          ∙ ap (λ (y : FirstLine). version_text (minor_of y.version)) (sym g)
          ∙ minor-text a.it.version r.served
          ∙ ap (λ (y : FirstLine). y.version) g

      stating-is : stating_of head (version_text line.minor) ≡ stating_of head started.it.first.version
      stating-is = ap (stating_of head) version-is

      whole_from : then (request_of head) (λ q. gives (placed_in head q)) ≡ then (stating_of head (version_text line.minor)) (λ g. gives (placed_by head started.it g))
      whole_from =
          whole ∙ ap with_fields started.first
          ∙ ap (λ (o : Outcome Stating). then o (λ g. gives (placed_by head started.it g))) (sym stating-is)

      pub no_fields : (e : Refusal) → FieldsRead head (version_text line.minor) places places' (Err e) → RequestRead head places places' path path' (Err e)
      no_fields e f =
          record {
            answer = sym (whole_from ∙ ap (λ (o : Outcome Stating). then o (λ g. gives (placed_by head started.it g))) (refused-so (stating_of head (version_text line.minor)) (fields_placed head) (number_of e) f.answer));
            stored = tt;
          }

      pub request-read :
          (fields : FieldPlaces) → FieldsRead head (version_text line.minor) places places' (Ok fields)
          → RequestRead head places places' path path' (Ok (record { line = line; fields = fields }))
      request-read fields f =
          let g = then-gives (stating_of head (version_text line.minor)) (λ g. gives (fields_placed head g)) fields (sym f.answer) in
          let e : fields_placed head g.it ≡ fields = gives-once _ fields g.next in
          record {
            answer =
                sym
                (whole_from
                ∙ ap (λ (o : Outcome Stating). then o (λ g. gives (placed_by head started.it g))) g.first
                ∙ both line-told e);
            stored = (f.places, l.buffer);
          }
        where
          both : {a b : LinePlaces} {c d : FieldPlaces} → a ≡ b → c ≡ d → ◌≡◌ {A = Outcome RequestPlaces} (gives (record { line = a; fields = c })) (gives (record { line = b; fields = d }))
          both p q = rw (p, q)
