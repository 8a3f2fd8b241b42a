-- Bytes without the spaces and tabs at both ends.
-- Assumes nothing.
use Rattle.std.specs.Prelude.{ℕ, suc, cond, ◌&&◌, List, [], ◌∷◌, eqb, take, drop}
use Rattle.octets.specs.Kinds.{is_blank}
use Rattle.octets.specs.Scan.{run}

-- how many bytes of s are left without the spaces and tabs at its end: a blank goes where nothing after it stays
unfoldable pub kept : List ℕ → ℕ
kept [] = 0
kept (b ∷ s) = cond (eqb (kept s) 0 && is_blank b) 0 (suc (kept s))

-- s without the spaces and tabs at its end
abbrev pub trimmed_end : List ℕ → List ℕ
trimmed_end s = take (kept s) s

-- "lose spaces and tabs at both ends"
abbrev pub trimmed : List ℕ → List ℕ
trimmed s = trimmed_end (drop (run is_blank s) s)
