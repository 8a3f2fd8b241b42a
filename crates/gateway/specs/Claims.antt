-- What is claimed of the gateway step.
-- Assumes nothing.
use Rattle.std.specs.Prelude.{ℕ, ◌+◌, ◌≤◌, ◌≡◌, true, ◌↔◌, List, [], ◌∷◌, map, leb, length, take, drop}
use Rattle.octets.specs.Outcome.{refused, gives, then, need}
use Rattle.octets.specs.Kinds.{one_of}
use Rattle.framing.specs.Claims.{Frames, SpoolsEqual, SpoolCut, SpoolGoesOn}
use Rattle.headers.specs.Block.{Header, Among, parsed, printed}
use Rattle.scgi.specs.Grammar.{encoded, IsRequest}
use Rattle.scgi.specs.Claims.{ReadBack}
use Rattle.targets.specs.Target.{Target, target_of}
use Rattle.mounts.specs.Value.{pool_of, limit_of}
use Rattle.mounts.specs.Mounts.{Mount, mount_for, route_of}
use Rattle.lent.specs.Lent.{Lent, lent_of}
use Rattle.request.specs.Request.{Request, request_of}
use Rattle.variables.specs.Meaning.{Meaning, meaning_of}
use Rattle.variables.specs.Variables.{variables}
use Rattle.gateway.specs.Worked.{answer_to, cases}
use Rattle.gateway.specs.Step.{Forward, meaning_at, forward_of, step_of, used_by}

-- "Take any two HTTP requests accepted under equal settings, connection facts and mounts. The SCGI bytes written for them are equal
-- exactly when their meanings are equal", whatever the outputs' lengths
abbrev pub BytesExactlyMeaning : Type 0
BytesExactlyMeaning =
    (facts site mounts http http' : List ℕ) (room room' : ℕ) (f f' : Forward)
    → step_of facts site mounts http room ≡ gives f → step_of facts site mounts http' room' ≡ gives f'
    → (f.scgi ≡ f'.scgi) ↔ (meaning_at http ≡ meaning_at http')

-- what is written for an accepted request: the variables of its meaning and the meaning's body, a request of the 2008 text within our
-- limits, under the mount that wins for the decoded path: "SCRIPT_NAME is that name, PATH_INFO the rest", the pool is that mount's, and the
-- body is within that mount's limit; whatever stands behind it, the SCGI reader accepts it, with just this block and this body, and uses
-- just the bytes written
pub record WrittenFor (facts site mounts http rest : List ℕ) (f : Forward) : Type 0 where
  pub lent : Lent
  pub meaning : Meaning
  pub target : Target
  pub mount : Mount
  pub is_lent : lent_of facts site mounts ≡ gives lent
  pub means : meaning_at http ≡ gives meaning
  pub is_target : target_of meaning.target ≡ gives target
  pub wins : mount_for lent.mounts target.path ≡ gives mount
  pub pool : (f.pool_start ≡ mount.pool_start) × (f.pool_length ≡ mount.pool_length)
  pub within : length meaning.body ≤ mount.limit
  pub bytes : f.scgi ≡ encoded (variables lent.settings (route_of mount target.path) meaning) meaning.body
  pub request : IsRequest (variables lent.settings (route_of mount target.path) meaning) meaning.body
  pub read : ReadBack (printed (variables lent.settings (route_of mount target.path) meaning)) meaning.body f.scgi rest

abbrev pub WrittenIsAccepted : Type 0
WrittenIsAccepted =
    (facts site mounts http rest : List ℕ) (room : ℕ) (f : Forward)
    → step_of facts site mounts http room ≡ gives f → WrittenFor facts site mounts http rest f

-- the bytes at the pool's place are the pool of the mount's header in the mounts block, the part of its value before `;`, and the mount's
-- limit is that value's
pub record PoolStands (mounts : List ℕ) (m : Mount) (f : Forward) : Type 0 where
  pub hs : List Header
  pub header : Header
  pub are : parsed mounts ≡ gives hs
  pub among : Among header hs
  pub name : m.name ≡ header.name
  pub inside : f.pool_start + f.pool_length ≤ length mounts
  pub pool : take f.pool_length (drop f.pool_start mounts) ≡ pool_of header.value
  pub limit : limit_of header.value ≡ gives m.limit

-- .. of the mount that wins
abbrev pub PoolIsValue : Type 0
PoolIsValue =
    (facts site mounts http rest : List ℕ) (f : Forward) (w : WrittenFor facts site mounts http rest f) → PoolStands mounts w.mount f

-- how many bytes headers take, and how many they are
pub record Small (hs : List Header) : Type 0 where
  pub bytes : length (printed hs) ≤ 14726
  pub count : length hs ≤ 80

-- 02 §10: "With the head at 8,192 bytes, the target at 4,096, 64 fields and two blocks of 1,024, the variables cannot reach 16,384 bytes,
-- nor 128 headers"; a head is given without its CR LF CR LF
abbrev pub VariablesFit : Type 0
VariablesFit =
    (facts site mounts head body : List ℕ) (l : Lent) (q : Request) (m : Mount)
    → lent_of facts site mounts ≡ gives l → length head ≤ 8188 → request_of head ≡ gives q → mount_for l.mounts q.path ≡ gives m
    → length body ≤ 1048576
    → Small (variables l.settings (route_of m q.path) (meaning_of q.first q.fields body))

-- HTTP requests end to end frame as spools do, by the bytes used of each: an accepted request keeps its answer when bytes follow, and
-- gives 1 when it is cut short
abbrev pub PipelinesFrame : Type 0
PipelinesFrame = (facts site mounts : List ℕ) → Frames (used_by (lent_of facts site mounts))

-- so two pipelines with equal bytes are the same list of requests
abbrev pub PipelinesEqual : Type 0
PipelinesEqual = (facts site mounts : List ℕ) → SpoolsEqual (used_by (lent_of facts site mounts))

-- and a cut anywhere leaves exactly the whole ones
abbrev pub PipelineCut : Type 0
PipelineCut = (facts site mounts : List ℕ) → SpoolCut (used_by (lent_of facts site mounts))

-- whatever some bytes gave, more bytes go on from there
abbrev pub PipelineGoesOn : Type 0
PipelineGoesOn = (facts site mounts : List ℕ) → SpoolGoesOn (used_by (lent_of facts site mounts))

-- the room is looked at last, and 21 is all that hangs on it: "1 for a short body; .. 21"
abbrev pub RoomIsLast : Type 0
RoomIsLast =
    (facts site mounts http : List ℕ) (room : ℕ)
    → step_of facts site mounts http room
    ≡ then (forward_of (lent_of facts site mounts) http) (λ f. need (leb (length f.scgi) room) 21 (gives f))

-- the step's numbers: "20; then 11 or 1; 12; 13; 14; 15; 16; 17; 18; 19; 9; 1 for a short body; .. 21"; 02 §10 takes out 22
abbrev pub step_numbers : List ℕ
step_numbers = 20 ∷ 11 ∷ 1 ∷ 12 ∷ 13 ∷ 14 ∷ 15 ∷ 16 ∷ 17 ∷ 18 ∷ 19 ∷ 9 ∷ 21 ∷ []

-- no other number is given: "Every refusal returns its number and nothing else"
abbrev pub NumbersHold : Type 0
NumbersHold = (facts site mounts http : List ℕ) (room n : ℕ) → step_of facts site mounts http room ≡ refused n → one_of step_numbers n ≡ true

-- the cases that 01 marks W: one list, one statement
abbrev pub WorkedCases : Type 0
WorkedCases = map (λ c. answer_to c.asked) cases ≡ map (λ c. c.answer) cases
