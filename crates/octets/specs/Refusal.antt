-- The number of each refusal, and what a call's answer says.
-- Assumes nothing.
use Rattle.std.specs.Prelude.{ℕ, Bool, false, ◌||◌, ◌≡◌, Result, Ok, Err}
use Rattle.octets.specs.Outcome.{Outcome, refused, gives}
use Rattle.octets.specs.Kinds.{within}
use Rattle.octets.specs.declared.refusal.Refusal.{Refusal}
use Rattle.octets.specs.declared.refusal.Refusal.TheVariants.{Cut, LengthMalformed, BlockTooLong, NoComma, BlockMalformed, TooManyHeaders, EqualNames, NoContentLength, BodyTooLong, NoScgi, HeadTooLong, RequestLine, Version, Target, FieldLine, Host, ContentFields, TransferEncoding, NoMount, Lent, NoRoom, BodyDiffers, ResponseMalformed, Contradiction}
use Rattle.octets.specs.declared.refusal.UnknownRefusal.{UnknownRefusal}

-- 01's number of each
abbrev pub number_of : Refusal → ℕ
number_of Cut = 1
number_of LengthMalformed = 2
number_of BlockTooLong = 3
number_of NoComma = 4
number_of BlockMalformed = 5
number_of TooManyHeaders = 6
number_of EqualNames = 7
number_of NoContentLength = 8
number_of BodyTooLong = 9
number_of NoScgi = 10
number_of HeadTooLong = 11
number_of RequestLine = 12
number_of Version = 13
number_of Target = 14
number_of FieldLine = 15
number_of Host = 16
number_of ContentFields = 17
number_of TransferEncoding = 18
number_of NoMount = 19
number_of Lent = 20
number_of NoRoom = 21
number_of BodyDiffers = 23
number_of ResponseMalformed = 24
number_of Contradiction = 25

-- what a call's answer says, its value as f has it
abbrev pub outcome : {A B : Type 0} → (A → B) → Result A Refusal → Outcome B
outcome f (Ok a) = gives (f a)
outcome f (Err e) = refused (number_of e)

-- n is the number of a refusal
abbrev pub is_number : ℕ → Bool
is_number n = within 1 21 n || within 23 25 n

-- the refusal of a number, where there is one
abbrev pub Numbered : ℕ → Result Refusal UnknownRefusal → Type 0
Numbered n (Ok e) = number_of e ≡ n
Numbered n (Err u) = is_number n ≡ false
