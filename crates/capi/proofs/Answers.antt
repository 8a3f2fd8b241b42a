-- A lower call that writes. Where the lent list has no room for the numbers, the call is made with an output that has no part in it.
-- Assumes nothing.
use Rattle.std.proofs.Common.{ℕ, ◌≡◌, ◌<◌, Bool, true, false, List, length, refl, Result, Ok, Err, unwrap_or}
use Rattle.std.specs.Result.{result_err}
use lib.Dec.{leb}
use borrow.Author.Tests.{lt-leb}
use Rattle.octets.specs.Outcome.{Outcome, refused, gives, then, need}
use Rattle.octets.specs.Refusal.{number_of, outcome}
use Rattle.octets.specs.declared.refusal.Refusal.{Refusal}
use Rattle.octets.specs.declared.refusal.Refusal.TheVariants.{NoRoom}
use Rattle.capi.specs.Answer.{fitting, returned, untold}

-- the number of the refusal of the call's answer, or else 21
abbrev pub due_number : {B : Type 0} → Result B Refusal → ℕ
due_number r = number_of (unwrap_or (result_err r) NoRoom)

-- a call refuses with what the answer that tells of it refuses with
pub refused-with : {A B : Type 0} (g : A → B) (o : Outcome A) (k : ℕ) → refused k ≡ then o (λ a. gives (g a)) → o ≡ refused k
refused-with g (refused m) k e = cc
refused-with g (gives a) k e = cc

-- o is what is to be written whatever the room, b its bytes
module _ {A : Type 0} (b : A → List ℕ) where
  -- 21 for want of room in the output, last of the call's refusals
  abbrev room_last : Outcome A → ℕ → Outcome A
  room_last o room = then o (λ a. need (leb (length (b a)) room) 21 (gives a))

  -- the call's refusal is the one that is due, and 21 is due where it gives an answer: r, whose value says f, as g has it of o
  pub untold-due :
      {B C : Type 0} (g : A → C) (f : B → C) (o : Outcome A) (room : ℕ) (r : Result B Refusal)
      → outcome f r ≡ then (room_last o room) (λ a. gives (g a)) → due_number r ≡ returned (untold o)
  untold-due g f (refused m) room (Err e) h = cc
  untold-due g f (refused m) room (Ok v) h = cc
  untold-due g f (gives a) room (Ok v) h = refl
  untold-due g f (gives a) room (Err e) h = by (leb (length (b a)) room) h
    where
      by : (t : Bool) → refused (number_of e) ≡ then (need t 21 (gives a)) (λ a. gives (g a)) → number_of e ≡ 21
      by true h = cc
      by false h = cc

  -- .. whatever the number
  pub untold-refused : (o : Outcome A) (room k : ℕ) → room_last o room ≡ refused k → k ≡ returned (untold o)
  untold-refused (refused m) room k e = cc
  untold-refused (gives a) room k e = by (leb (length (b a)) room) e
    where
      by : (t : Bool) → need t 21 (gives a) ≡ refused k → k ≡ 21
      by true e = cc
      by false e = cc

  -- so whatever room the output has
  pub untold-all :
      (f : A → List ℕ) (o : Outcome A) (room : ℕ) (d : List ℕ) → ((a : A) → length d < length (f a))
      → fitting (then (room_last o room) (λ a. gives (f a))) d ≡ refused (returned (untold o))
  untold-all f (refused m) room d h = refl
  untold-all f (gives a) room d h = by (leb (length (b a)) room)
    where
      by : (t : Bool) → fitting (then (need t 21 (gives a)) (λ a. gives (f a))) d ≡ refused 21
      by true = rw (lt-leb (length (f a)) (length d) (h a))
      by false = refl
