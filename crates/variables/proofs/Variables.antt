-- The variables say the meaning, and can stand in a block.
-- Assumes nothing.
use Prim.Native.Nat.{ℕ}
use Prim.Native.String.{String}
use mathlib.Core.Path.{◌≡◌, refl, sym, ap, ◌∙◌}
use mathlib.Core.Bool.{true, false}
use mathlib.Core.List.{List, [], ◌∷◌, map}
use Rattle.std.proofs.Common.{Option, None, Some}
use lib.ListN.{length}
use Rattle.octets.specs.Text.{bytes}
use Rattle.octets.specs.Kinds.{is_digit}
use Rattle.octets.specs.Compare.{same_bytes}
use Rattle.octets.specs.Decimal.{decimal}
use Rattle.octets.specs.Lists.{All, no_more, ◌&◌, NoNul, is_nil}
use Rattle.octets.proofs.Alls.{cut-length, has_no_nul, no_nul, all_append, all_map, all_without}
use Rattle.octets.proofs.Decimals.{decimal-digits}
use Rattle.headers.specs.Block.{Header, Proper}
use Rattle.headers.specs.Lookup.{value_in}
use Rattle.http_head.specs.Fields.{Field}
use Rattle.lent.specs.Settings.{Auth, Settings}
use Rattle.mounts.specs.Mounts.{Route}
use Rattle.lent.specs.Claims.{ProperAuth, neither, both, ProperSettings}
use Rattle.variables.specs.Meaning.{Meaning}
use Rattle.variables.specs.Variables.{if_present, present, auth_type_of, remote_user_of, http_variable, fixed, variables}
use Rattle.variables.specs.Claims.{is_lower_name, ProperField, Optionally, absent, there, ProperMeaning, ProperRoute}
use Rattle.variables.proofs.NameBytes.{http-name-once, http-name-bytes}

-- settings and a meaning with other optional parts, to go by cases on these: s is `authed s s.auth`
abbrev pub authed : Settings → Option Auth → Settings
authed s a =
    record {
      auth = a;
      remote_addr = s.remote_addr;
      server_name = s.server_name;
      server_port = s.server_port;
      server_software = s.server_software;
    }

abbrev pub typed : Meaning → Option (List ℕ) → Meaning
typed m c =
    record {
      method = m.method;
      target = m.target;
      version = m.version;
      content_type = c;
      fields = m.fields;
      body = m.body;
    }

no_http : (fs : List Field) → value_in (bytes "CONTENT_TYPE") (map http_variable fs) ≡ None
unfolding value_in same_bytes
no_http [] = refl
no_http (f ∷ fs) = no_http fs

-- looked up, the variables say the parts of the meaning
record Said (hs : List Header) (m : Meaning) : Type 0 where
  method : value_in (bytes "REQUEST_METHOD") hs ≡ Some m.method
  target : value_in (bytes "REQUEST_URI") hs ≡ Some m.target
  version : value_in (bytes "SERVER_PROTOCOL") hs ≡ Some m.version
  content_type : value_in (bytes "CONTENT_TYPE") hs ≡ m.content_type

module _ (s : Settings) (r : Route) (m : Meaning) where
  said_at : (a : Option Auth) (c : Option (List ℕ)) → Said (variables (authed s a) r (typed m c)) (typed m c)
  unfolding fixed value_in same_bytes
  said_at None None = record { method = refl; target = refl; version = refl; content_type = no_http m.fields }
  said_at None (Some c) = record { method = refl; target = refl; version = refl; content_type = refl }
  said_at (Some a) None = record { method = refl; target = refl; version = refl; content_type = no_http m.fields }
  said_at (Some a) (Some c) = record { method = refl; target = refl; version = refl; content_type = refl }

  said : Said (variables s r m) m
  said = said_at s.auth m.content_type

-- the variables before the fields are as many, where Content-Type is there in both or in neither
as_many :
    (s : Settings) (r r' : Route) (m m' : Meaning) (n n' : ℕ) (a : Option Auth) (c : Option (List ℕ))
    → length (fixed (authed s a) r (typed m c) n) ≡ length (fixed (authed s a) r' (typed m' c) n')
unfolding fixed
as_many s r r' m m' n n' None None = refl
as_many s r r' m m' n n' None (Some c) = refl
as_many s r r' m m' n n' (Some a) None = refl
as_many s r r' m m' n n' (Some a) (Some c) = refl

same-field : (f g : Field) → f.name ≡ g.name → f.value ≡ g.value → f ≡ g
same-field f g n v =
    ap {B = Field} (λ (x : List ℕ). record { name = x; value = f.value }) n ∙ ap {B = Field} (λ (y : List ℕ). record { name = g.name; value = y }) v

-- the HTTP_ variables say the fields
http-once :
    (fs gs : List Field) → All (ProperField is_lower_name) fs → All (ProperField is_lower_name) gs → map http_variable fs ≡ map http_variable gs → fs ≡ gs
http-once [] [] p q e = refl
http-once [] (g ∷ gs) p q e = cc
http-once (f ∷ fs) [] p q e = cc
http-once (f ∷ fs) (g ∷ gs) (p & ps) (q & qs) e =
    let h : http_variable f ≡ http_variable g = cc in
    let n = http-name-once f.name g.name p.name_bytes q.name_bytes (ap (λ (x : Header). x.name) h) in
    let first : f ≡ g = same-field f g n (ap (λ (x : Header). x.value) h) in
    cc (first, http-once fs gs ps qs (cc))

made : List ℕ → List ℕ → List ℕ → Option (List ℕ) → List Field → List ℕ → Meaning
made a t v c f b = record { method = a; target = t; version = v; content_type = c; fields = f; body = b }

made_of : (m : Meaning) → made m.method m.target m.version m.content_type m.fields m.body ≡ m
unfolding made
made_of m = refl

-- equal variables and bodies are equal meanings
pub variables-once :
    (s : Settings) (r r' : Route) (m m' : Meaning) → ProperMeaning m → ProperMeaning m' → variables s r m ≡ variables s r' m' → m.body ≡ m'.body
    → m ≡ m'
variables-once s r r' m m' p p' e b =
    let x = said s r m in
    let y = said s r' m' in
    let method : Some m.method ≡ Some m'.method = sym x.method ∙ ap (value_in (bytes "REQUEST_METHOD")) e ∙ y.method in
    let target : Some m.target ≡ Some m'.target = sym x.target ∙ ap (value_in (bytes "REQUEST_URI")) e ∙ y.target in
    let version : Some m.version ≡ Some m'.version = sym x.version ∙ ap (value_in (bytes "SERVER_PROTOCOL")) e ∙ y.version in
    let content_type : m.content_type ≡ m'.content_type = sym x.content_type ∙ ap (value_in (bytes "CONTENT_TYPE")) e ∙ y.content_type in
    let a = fixed s r m (length m.body) in
    let a' = fixed s r' m' (length m'.body) in
    let n : length a ≡ length a' =
    as_many s r r' m m' (length m.body) (length m'.body) s.auth m.content_type
    ∙ ap (λ (c : Option (List ℕ)). length (fixed s r' (typed m' c) (length m'.body))) content_type in
    let fields : m.fields ≡ m'.fields = http-once m.fields m'.fields p.fields p'.fields (cut-length a a' (map http_variable m.fields) (map http_variable m'.fields) n e).1 in
    sym (made_of m) ∙ all-equal (cc) (cc) (cc) content_type fields b ∙ made_of m'
  where
    all-equal :
        m.version ≡ m'.version → m.method ≡ m'.method → m.target ≡ m'.target → m.content_type ≡ m'.content_type → m.fields ≡ m'.fields → m.body ≡ m'.body
        → made m.method m.target m.version m.content_type m.fields m.body ≡ made m'.method m'.target m'.version m'.content_type m'.fields m'.body
    all-equal v a t c f w = cc

-- The headers can stand in a block.

data Fine : Option Header → Type 0 where
  left_out : Fine None
  written : {h : Header} → Proper h → Fine (Some h)

present-proper : (rows : List (Option Header)) → All Fine rows → All Proper (present rows)
present-proper [] no_more = no_more
present-proper (None ∷ rows) (p & ps) = present-proper rows ps
present-proper (Some h ∷ rows) (written p & ps) = p & present-proper rows ps

row : {h : Header} → is_nil h.name ≡ false → has_no_nul h.name ≡ true → NoNul h.value → Fine (Some h)
row {h} e t p = written (record { named = e; name_bytes = no_nul h.name t; value_bytes = p })

if-row : (n : String) (o : Option (List ℕ)) → is_nil (bytes n) ≡ false → has_no_nul (bytes n) ≡ true → Optionally NoNul o → Fine (if_present n o)
if-row n None e t absent = left_out
if-row n (Some v) e t (there p) = row e t p

decimal-bytes : (n : ℕ) → NoNul (decimal n)
unfolding is_digit
decimal-bytes n = all_without is_digit 0 (decimal n) refl (decimal-digits n)

auth-type : {a : Option Auth} → ProperAuth a → Optionally NoNul (auth_type_of a)
auth-type neither = absent
auth-type (both p q) = there p

remote-user : {a : Option Auth} → ProperAuth a → Optionally NoNul (remote_user_of a)
remote-user neither = absent
remote-user (both p q) = there q

module _ (s : Settings) (r : Route) (m : Meaning) (ps : ProperSettings s) (pr : ProperRoute r) (pm : ProperMeaning m) where
  fixed-proper : All Proper (fixed s r m (length m.body))
  unfolding fixed
  fixed-proper =
      present-proper _
      (row refl refl (decimal-bytes (length m.body))
      & row refl refl (no_nul _ refl)
      & if-row "AUTH_TYPE" _ refl refl (auth-type ps.auth)
      & if-row "CONTENT_TYPE" _ refl refl pm.content_type
      & row refl refl (no_nul _ refl)
      & row refl refl pr.path_info
      & row refl refl pm.query
      & row refl refl ps.remote_addr
      & if-row "REMOTE_USER" _ refl refl (remote-user ps.auth)
      & row refl refl pm.method
      & row refl refl pm.target
      & row refl refl pr.script_name
      & row refl refl ps.server_name
      & row refl refl ps.server_port
      & row refl refl pm.version
      & row refl refl ps.server_software
      & no_more)

  pub variables-proper : All Proper (variables s r m)
  variables-proper =
      all_append fixed-proper
      (all_map http_variable (λ f p. record { named = refl; name_bytes = http-name-bytes f.name p.name_bytes; value_bytes = p.value_bytes }) pm.fields)
