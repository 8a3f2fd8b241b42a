-- What is claimed of the two editions.
-- Assumes nothing.
use Rattle.std.specs.Prelude.{ℕ, ◌≡◌, Bool, true, false, ◌↔◌, ◌⊎◌, List, [], ◌∷◌, take}
use Rattle.octets.specs.Outcome.{Outcome, refused, gives}
use Rattle.octets.specs.Kinds.{one_of}
use Rattle.response.specs.Head.{Head, head_of}
use Rattle.response.specs.declared.table.Answer.{Answer}
use Rattle.response.specs.Response.{response_of}
use Rattle.response.specs.Claims.{settled, settling}
use Rattle.editions.specs.Edition.{may_redirect, located, response_by}
use Rattle.editions.specs.declared.edition.Edition.{Edition}
use Rattle.editions.specs.declared.edition.Edition.TheVariants.{Rfc, Draft}

-- "the whole RFC edition, stays as in 01", whatever the method
abbrev pub RfcIsAsBefore : Type 0
RfcIsAsBefore = (method s : List ℕ) → response_by Rfc method s ≡ response_of s

-- the output has a Location; where its head is malformed, it has no field
abbrev pub located_in : Outcome Head → Bool
located_in (refused n) = false
located_in (gives h) = located h

-- "the draft edition accepts exactly what the RFC edition accepts without a Location or with GET or HEAD, and with the same answer"
abbrev pub DraftExactly : Type 0
DraftExactly =
    (method s : List ℕ) (a : Answer)
    → (response_by Draft method s ≡ gives a)
    ↔ ((response_by Rfc method s ≡ gives a) × ((located_in (head_of s) ≡ false) ⊎ (may_redirect method ≡ true)))

-- "all else .. stays as in 01": what 01 refuses is refused with 01's number under each edition
abbrev pub RefusalsStay : Type 0
RefusalsStay = (e : Edition) (method s : List ℕ) (n : ℕ) → response_of s ≡ refused n → response_by e method s ≡ refused n

-- no other number is given
abbrev pub NumbersHold : Type 0
NumbersHold = (e : Edition) (method s : List ℕ) (n : ℕ) → response_by e method s ≡ refused n → one_of (24 ∷ 25 ∷ []) n ≡ true

-- under each edition the first 8,193 bytes of an output settle all of its answer but the length of the body
abbrev pub StreamSettles : Type 0
StreamSettles =
    (e : Edition) (method s t : List ℕ) → take settling s ≡ take settling t
    → settled (response_by e method s) ≡ settled (response_by e method t)
