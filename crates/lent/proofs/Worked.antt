-- Worked cases, each list proved as one statement by computation.
-- Assumes nothing.
use Prim.Native.Nat.{ℕ}
use Prim.Native.String.{String}
use mathlib.Core.Path.{◌≡◌, refl}
use mathlib.Core.List.{List, [], ◌∷◌, map}
use Rattle.std.proofs.Common.{None, Some}
use lib.ListN.{replicate}
use Rattle.octets.specs.Text.{bytes, barred}
use Rattle.octets.specs.Outcome.{Outcome, refused, gives}
use Rattle.octets.specs.Kinds.{is_digit}
use Rattle.octets.specs.Compare.{same_bytes}
use Rattle.octets.specs.Lists.{is_in, different}
use Rattle.octets.specs.Decimal.{number_from}
use Rattle.octets.specs.Parts.{parted}
use Rattle.headers.specs.Block.{Header, paired, printed}
use Rattle.headers.specs.Lookup.{value_in}
use Rattle.mounts.specs.Blocks.{block_of}
use Rattle.mounts.specs.Value.{value_of}
use Rattle.mounts.specs.Mounts.{Mount, begins, ends, mounts_from, mounts_of}
use Rattle.lent.specs.Settings.{Settings, settings_of}
use Rattle.lent.specs.Lent.{Lent, lent_of}

-- What is lent.

pub record Case : Type 0 where
  pub facts : String
  pub site : String
  pub mounts : String
  pub answer : Outcome Lent

-- 01's example: no AUTH_TYPE, the server's values in either block
abbrev pub plain : Settings
plain =
    record {
      auth = None;
      remote_addr = bytes "10.0.0.9";
      server_name = bytes "q.example";
      server_port = bytes "80";
      server_software = bytes "gate/1";
    }

-- of the block `/jobs|p;9|`
abbrev pub jobs : Mount
jobs = record { name = bytes "/jobs"; pool_start = 6; pool_length = 1; limit = 9 }

unfoldable pub cases : List Case
cases =
    record {
      facts = "REMOTE_ADDR|10.0.0.9|SERVER_PORT|80|";
      site = "SERVER_NAME|q.example|SERVER_PORT|81|SERVER_SOFTWARE|gate/1|AUTH_TYPE||";
      mounts = "/jobs|p;9|";
      answer = gives (record { settings = plain; mounts = jobs ∷ [] });
    }
    -- no mounts at all is no breach, and unknown names are ignored
    ∷ record {
      facts = "REMOTE_ADDR|10.0.0.9|X||";
      site = "SERVER_NAME|q.example|SERVER_PORT|80|SERVER_SOFTWARE|gate/1|Y|1|";
      mounts = "";
      answer = gives (record { settings = plain; mounts = [] });
    }
    ∷ record {
      facts = "REMOTE_ADDR|10.0.0.9|AUTH_TYPE|Basic|REMOTE_USER|ann|";
      site = "SERVER_NAME|q.example|SERVER_PORT|65535|SERVER_SOFTWARE|gate/1|";
      mounts = "";
      answer =
          gives
          (record {
            settings =
                record {
                  auth = Some (record { auth_type = bytes "Basic"; remote_user = bytes "ann" });
                  remote_addr = bytes "10.0.0.9";
                  server_name = bytes "q.example";
                  server_port = bytes "65535";
                  server_software = bytes "gate/1";
                };
            mounts = [];
          });
    }
    ∷ []

-- one breach each: what stands beside it is right
pub record Breach : Type 0 where
  pub facts : String
  pub site : String
  pub mounts : String

unfoldable pub breaches : List Breach
breaches =
    record { facts = "REMOTE_ADDR|a|SERVER_NAME||"; site = "SERVER_NAME|n|SERVER_PORT|80|SERVER_SOFTWARE|g|"; mounts = "" }
    ∷ record { facts = "REMOTE_ADDR|a|X|1|X|2|"; site = "SERVER_NAME|n|SERVER_PORT|80|SERVER_SOFTWARE|g|"; mounts = "" }
    ∷ record { facts = "REMOTE_ADDR|a"; site = "SERVER_NAME|n|SERVER_PORT|80|SERVER_SOFTWARE|g|"; mounts = "" }
    ∷ record { facts = "REMOTE_ADDR|a|"; site = "SERVER_NAME|n|SERVER_PORT|80|"; mounts = "" }
    ∷ record { facts = "REMOTE_ADDR|a|"; site = "SERVER_NAME|n|SERVER_PORT|0|SERVER_SOFTWARE|g|"; mounts = "" }
    ∷ record { facts = "REMOTE_ADDR|a|"; site = "SERVER_NAME|n|SERVER_PORT|080|SERVER_SOFTWARE|g|"; mounts = "" }
    ∷ record { facts = "REMOTE_ADDR|a|"; site = "SERVER_NAME|n|SERVER_PORT|65536|SERVER_SOFTWARE|g|"; mounts = "" }
    ∷ record { facts = "REMOTE_ADDR|a|"; site = "SERVER_NAME|n|SERVER_PORT|8 0|SERVER_SOFTWARE|g|"; mounts = "" }
    ∷ record { facts = "REMOTE_ADDR||"; site = "SERVER_NAME|n|SERVER_PORT|80|SERVER_SOFTWARE|g|"; mounts = "" }
    ∷ record { facts = "X|1|"; site = "REMOTE_ADDR|a|SERVER_NAME|n|SERVER_PORT|80|SERVER_SOFTWARE|g|"; mounts = "" }
    ∷ record { facts = "REMOTE_ADDR|a|AUTH_TYPE|t|"; site = "REMOTE_USER|u|SERVER_NAME|n|SERVER_PORT|80|SERVER_SOFTWARE|g|"; mounts = "" }
    ∷ record { facts = "REMOTE_ADDR|a|REMOTE_USER|u|"; site = "AUTH_TYPE|t|SERVER_NAME|n|SERVER_PORT|80|SERVER_SOFTWARE|g|"; mounts = "" }
    ∷ record { facts = "REMOTE_ADDR|a|AUTH_TYPE|t|REMOTE_USER||"; site = "SERVER_NAME|n|SERVER_PORT|80|SERVER_SOFTWARE|g|"; mounts = "" }
    ∷ record { facts = "REMOTE_ADDR|a|"; site = "SERVER_NAME|n|SERVER_PORT|80|SERVER_SOFTWARE|g|"; mounts = "/a||" }
    ∷ []

pub all_right : map (λ c. lent_of (barred c.facts) (barred c.site) (barred c.mounts)) cases ≡ map (λ c. c.answer) cases
unfolding cases lent_of mounts_of mounts_from value_of settings_of begins ends value_in parted paired different is_in same_bytes number_from is_digit
all_right = refl

pub all-breaches : map (λ c. lent_of (barred c.facts) (barred c.site) (barred c.mounts)) breaches ≡ map (λ c. refused 20) breaches
unfolding breaches lent_of mounts_of mounts_from value_of settings_of begins ends value_in parted paired different is_in same_bytes number_from is_digit
all-breaches = refl

-- The limit, on blocks that are too long to write out.

-- a header of n + 3 bytes
abbrev pub filler : ℕ → List Header
filler n = record { name = bytes "A"; value = replicate n 66 } ∷ []

pub limits : (block_of 1024 (printed (filler 1021)) ≡ gives (filler 1021)) × (block_of 1024 (printed (filler 1022)) ≡ refused 20)
unfolding printed parted paired different is_in same_bytes
limits = (refl, refl)
