-- A fault in a sheet, layer by layer, and how reading goes on where there is none.
use Rattle.std.specs.Prelude.{ℕ, Ok, Err, Result}
use Rattle.mark.specs.declared.cause.Cause.{Cause}
use Rattle.sheet.specs.declared.fault.MarkFault.{MarkFault}
use Rattle.sheet.specs.declared.fault.RowFault.{RowFault}
use Rattle.sheet.specs.declared.fault.SheetFault.{SheetFault}

-- a cause at a byte offset
abbrev pub mark_fault : Cause → ℕ → MarkFault
mark_fault c i = record { cause = c; place = i }

-- the same on a line, counted from 1
abbrev pub row_fault : ℕ → MarkFault → RowFault
row_fault line f = record { mark = f; line = line }

-- and in a block, counted from 1
abbrev pub sheet_fault : ℕ → ℕ → MarkFault → SheetFault
sheet_fault line block f = record { row = row_fault line f; block = block }

-- go on with what was read, or stop at the fault
abbrev pub on : {A B F : Type 0} → Result A F → (A → Result B F) → Result B F
on (Ok x) next = next x
on (Err f) next = Err f

abbrev pub on_line : {A : Type 0} → ℕ → ℕ → Result A MarkFault → Result A SheetFault
on_line line block (Ok x) = Ok x
on_line line block (Err f) = Err (sheet_fault line block f)

-- what was read, with the place behind it
abbrev pub behind : {A F : Type 0} → Result A F → ℕ → Result (A × ℕ) F
behind (Ok x) i = Ok (x, i)
behind (Err f) i = Err f

-- the place behind what was read
abbrev pub place_behind : {F : Type 0} → Result (Unit {0}) F → ℕ → Result ℕ F
place_behind (Ok x) i = Ok i
place_behind (Err f) i = Err f
