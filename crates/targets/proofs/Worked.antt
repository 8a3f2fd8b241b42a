-- Targets by computation: cases that 01 settles by its words, as one statement over one list.
-- Assumes nothing.
use Prim.Native.Nat.{ℕ}
use Prim.Native.String.{String}
use mathlib.Core.Path.{◌≡◌, refl}
use mathlib.Core.List.{List, [], ◌∷◌, ◌++◌, map}
use lib.ListN.{replicate}
use Rattle.octets.specs.Text.{bytes}
use Rattle.octets.specs.Outcome.{Outcome, refused, gives}
use Rattle.octets.specs.Kinds.{is_digit, is_letter, is_hex, is_target}
use Rattle.octets.specs.Scan.{run, all_of, count}
use Rattle.octets.specs.Compare.{same_bytes}
use Rattle.octets.specs.Parts.{parted}
use Rattle.targets.specs.Escape.{escapes_right, hex_value, decoded_from}
use Rattle.targets.specs.Target.{Target, path_of, query_of, raw_right, no_dots, segments_right, decoded_right, target_of}

pub record Case : Type 0 where
  pub input : List ℕ
  pub answer : Outcome Target

-- a case that is refused, and one that is accepted with a decoded path and a query
abbrev pub bad : String → Case
bad t = record { input = bytes t; answer = refused 14 }

abbrev pub good : String → String → String → Case
good t p q = record { input = bytes t; answer = gives (record { path = bytes p; query = bytes q }) }

unfoldable pub cases : List Case
cases =
    bad "/a%2Fb"
    ∷ bad "/a%2fb"
    ∷ good "/jobs/7?x=1" "/jobs/7" "x=1"
    ∷ good "/" "/" ""
    ∷ bad ""
    ∷ bad "a"
    ∷ bad "?/"
    ∷ bad "*"
    ∷ good "/?" "/" ""
    ∷ good "/a?b?c" "/a" "b?c"
    ∷ bad "/%00"
    ∷ bad "/%1f"
    ∷ good "/%20" "/ " ""
    ∷ bad "/%7F"
    ∷ bad "/a%2"
    ∷ bad "/a%"
    ∷ bad "/a%2?x"
    ∷ bad "/%g0"
    ∷ good "/%41%62c%252F" "/Abc%2F" ""
    ∷ bad "/a?%zz"
    ∷ good "/a?%2F" "/a" "%2F"
    ∷ good "/a?%00/.." "/a" "%00/.."
    ∷ bad "/a?#"
    ∷ bad "/a b"
    ∷ bad "/."
    ∷ bad "/.."
    ∷ bad "/./x"
    ∷ bad "/x/.."
    ∷ bad "/%2e%2E/x"
    ∷ good "/.../.x/x." "/.../.x/x." ""
    ∷ good "/a//b/" "/a//b/" ""
    ∷ record { input = replicate 64 47; answer = gives (record { path = replicate 64 47; query = [] }) }
    ∷ record { input = replicate 65 47; answer = refused 14 }
    ∷ record { input = replicate 64 47 ++ bytes "?/"; answer = gives (record { path = replicate 64 47; query = bytes "/" }) }
    ∷ record {
      input = 47 ∷ replicate 4095 97;
      answer = gives (record { path = 47 ∷ replicate 4095 97; query = [] });
    }
    ∷ record { input = 47 ∷ replicate 4096 97; answer = refused 14 }
    ∷ []

pub all_right : map (λ c. target_of c.input) cases ≡ map (λ c. c.answer) cases
unfolding cases is_digit is_letter is_hex is_target run all_of count same_bytes parted escapes_right hex_value decoded_from path_of query_of raw_right no_dots segments_right decoded_right target_of
all_right = refl
