-- A lent buffer with the place behind what is written in it.
-- Assumes nothing.
use Rattle.std.specs.Prelude.{ℕ, ◌+◌, ◌≤◌, ◌≡◌, List, length}
use Rattle.octets.specs.Copy.{Wrote}
use Rattle.variables.specs.declared.writer.Writer.{Writer}

-- there is room for the bytes p
abbrev pub Fits : Writer → List ℕ → Type 0
Fits w p = w.at + length p ≤ length w.out.now

-- w' is the writer w once the bytes p are written by it
pub record Appended (w w' : Writer) (p : List ℕ) : Type 0 where
  pub same_buffer : w'.out.ghost_name ≡ w.out.ghost_name
  pub room : Fits w p
  pub wrote : Wrote w.out.now w.at p w'.out.now w'.at
