-- What writing a text does to an output and to the place in it, and the rows of each block.
use Rattle.std.specs.Prelude.{◌≡◌, ℕ, ◌+◌, ◌-◌, ◌*◌, ◌/◌, ◌%◌, ◌^◌, ◌≤◌, min, List, length}
use Rattle.std.proofs.lemmas.List.Edits.{sets}
use Rattle.theory.specs.Control.{ControlValue}
use Rattle.sheet.specs.Plan.{tabulate, Row, owner, step, shown}
use Rattle.sheet.specs.declared.output.Output.{Output}

-- a place stays at the last number that there is, past every output
abbrev pub last_place : ℕ
last_place = 2 ^ 64 - 1

-- The output `was` became `is` as `text` was written at place `at`: each byte stands at its place
-- where the output has that place, and is only counted where it has not.
pub record Wrote (was : List ℕ) (at : ℕ) (text is : List ℕ) (behind : ℕ) : Type 0 where
  pub room : length was ≤ last_place
  pub place : behind ≡ min (at + length text) last_place
  pub output : is ≡ sets was at text

-- The text was written at the place that the output had come to. It lies in the same lent bytes.
pub record Writes (was : Output) (text : List ℕ) (is : Output) : Type 0 where
  pub lent : is.bytes.ghost_name ≡ was.bytes.ghost_name
  pub wrote : Wrote was.bytes.now was.at text is.bytes.now is.at

-- row r of block 3 and of block 4, and all rows of blocks 2 to 4, as the plan has them
module _ {D : Type 0} (v : ControlValue D) where
  abbrev pub step_row : ℕ → Row
  step_row r = step (r / v.commands) (r % v.commands)

  abbrev pub display_row : ℕ → Row
  display_row r = shown (r / v.consoles) (r % v.consoles)

  abbrev pub owner_rows : List Row
  owner_rows = tabulate 0 v.commands owner

  abbrev pub step_rows : List Row
  step_rows = tabulate 0 (v.states * v.commands) step_row

  abbrev pub display_rows : List Row
  display_rows = tabulate 0 (v.states * v.consoles) display_row
