-- What a question is answered on the board and the control that a sheet says.
use Rattle.std.specs.Prelude.{◌≡◌, ℕ, Bool, false, List, Ok, Err, Some, Result, pos, MatchBool}
use Rattle.display.specs.Codes.{code_kind, code_mark, code_reads, code_stored}
use Rattle.display.specs.Readings.{Reading, reading_kind, reading_mark, reading_reads, reading_stored}
use Rattle.display.specs.declared.code.Code.{Code}
use Rattle.policy.specs.declared.refusal.Refusal.{Refusal}
use Rattle.theory.specs.Boards.{BoardValue}
use Rattle.theory.specs.Control.{ControlValue}
use Rattle.theory.specs.Flows.{no_lockout}
use Rattle.sheet.specs.Calls.{read_answer}
use Rattle.sheet.specs.Exact.{control_of, flows_said}
use Rattle.sheet.specs.Kinds.{readings_named}
use Rattle.sheet.specs.Reading.{Sheet}

-- the board that a sheet says: its counts and flows, and no lockout
abbrev pub board_said : {D : Type 0} → Sheet D → BoardValue
board_said x = record { consoles = x.counted.consoles; commands = x.counted.commands; flows = flows_said x; locked = no_lockout }

-- Of a sheet that is refused the refusal, and of any other an answer that is right on its board
-- and its control. `zero` is what an entry that the sheet does not say is read as.
module _ {D A : Type 0} (answered : BoardValue → (D : Type 0) → (D → List ℕ) → ControlValue D → A → Type 0) (mark : D → List ℕ) (zero : D) where
  abbrev pub AnsweredAs : Result (Sheet D) Refusal → Result A Refusal → Type 0
  AnsweredAs (Ok x) (Ok answer) = answered (board_said x) D mark (control_of zero x) answer
  AnsweredAs (Ok x) (Err e) = ⊥
  AnsweredAs (Err d) (Ok answer) = ⊥
  AnsweredAs (Err d) (Err e) = d ≡ e

-- what a sheet says as one of codes, and as one of readings, or the refusal
abbrev pub codes_said : List ℕ → Result (Sheet Code) Refusal
codes_said sheet = read_answer code_kind code_reads 2400 24 1200 sheet

abbrev pub readings_said : List ℕ → Result (Sheet Reading) Refusal
readings_said sheet = read_answer reading_kind reading_reads 2400 24 1200 sheet

-- a sheet is one of readings where it is refused as one of codes, and names readings there
abbrev pub are_readings : List ℕ → Result (Sheet Code) Refusal → Bool
are_readings sheet (Ok x) = false
are_readings sheet (Err e) = readings_named sheet e

-- the answer on what a sheet says, as the kind of display that it names
abbrev pub Asked : {A : Type 0} → (BoardValue → (D : Type 0) → (D → List ℕ) → ControlValue D → A → Type 0) → List ℕ → Result A Refusal → Type 0
Asked answered sheet result =
    MatchBool (are_readings sheet (codes_said sheet))
    (AnsweredAs answered reading_mark (reading_stored (Some (pos 0))) (readings_said sheet) result)
    (AnsweredAs answered code_mark (code_stored 0) (codes_said sheet) result)
