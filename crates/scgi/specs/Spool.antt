-- The spool call of the SCGI reader.
-- Assumes nothing.
use Rattle.std.specs.Prelude.{ℕ, ◌≡◌, cond, eqb, List, length}
use Rattle.octets.specs.Copy.{over}
use Rattle.octets.specs.Refusal.{number_of}
use Rattle.octets.specs.declared.refusal.Refusal.{Refusal}
use Rattle.framing.specs.Spool.{Spool, whole, cut, refused_by, full, spool_of, total}
use Rattle.framing.specs.Spool as Framing
use Rattle.scgi.specs.Read.{used_of}
use Rattle.scgi.specs.declared.spool.Ending.{Ending}
use Rattle.scgi.specs.declared.spool.Ending.TheVariants.{Whole, Cut, Full, Refused}
use Rattle.scgi.specs.declared.spool.Spooled.{Spooled}

-- what the code's ending says
abbrev pub ending_of : Ending → Framing.Ending
ending_of Whole = whole
ending_of Cut = cut
ending_of Full = full
ending_of (Refused e) = refused_by (number_of e)

-- the ending where the reader refuses: "cut where the reader gives 1, refused N"
abbrev pub EndingBy : Refusal → Ending → Type 0
EndingBy e r = ending_of r ≡ cond (eqb (number_of e) 1) cut (refused_by (number_of e))

-- the N of "refused N"; 0, which no refusal has, where there is none
abbrev pub ending_refusal : Framing.Ending → ℕ
ending_refusal whole = 0
ending_refusal cut = 0
ending_refusal (refused_by n) = n
ending_refusal full = 0

-- the requests of the bytes, by the reader's used count, for a list with room for so many lengths
abbrev pub requests_of : List ℕ → ℕ → Spool
requests_of bytes room = spool_of used_of room bytes

-- "It stores each request's byte length in a lent list of 64-bit numbers and answers how many it stored and the ending"; "lengths stored
-- before them stay, unused entries are unchanged"
pub record SpoolDone (bytes before after : List ℕ) (r : Spooled) : Type 0 where
  pub count : r.count ≡ length (requests_of bytes (length before)).lengths
  pub next : r.next ≡ total (requests_of bytes (length before)).lengths
  pub ending : ending_of r.ending ≡ (requests_of bytes (length before)).ending
  pub list : after ≡ over before 0 (requests_of bytes (length before)).lengths
