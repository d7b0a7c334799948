-- What the reader and the writer answer, and what the stores hold afterwards.
use Rattle.std.specs.Prelude.{◌≡◌, ℕ, false, cond, List, ◌++◌, length, drop, Ok, Err, Result, nat_le, nat_lt}
use Rattle.mark.specs.declared.cause.Cause.{Cause}
use Rattle.policy.specs.Board.{flows_of, lockouts_of}
use Rattle.policy.specs.Flows.{consoles_of, may_affect}
use Rattle.policy.specs.Lockouts.{commands_of, locks}
use Rattle.policy.specs.declared.refusal.Refusal.{Refusal}
use Rattle.policy.specs.declared.refusal.Refusal.TheVariants.{SheetTooLong, TableStoreTooSmall, Fault, CountsDiffer, OutputTooShort}
use Rattle.theory.specs.Boards.{BoardValue}
use Rattle.theory.specs.Control.{ControlValue}
use Rattle.control.specs.Replays.{same_counts}
use Rattle.control.specs.Tables.{store_suffices}
use Rattle.sheet.specs.Text.{sheet_text}
use Rattle.sheet.specs.Reading.{Sheet, sheet_read}
use Rattle.sheet.specs.Exact.{flows_said, most_bytes}
use Rattle.sheet.specs.declared.fault.SheetFault.{SheetFault}
use Rattle.sheet.specs.declared.found.Found.{Found}

-- the refusal that a fault turns into, with all that it tells
abbrev pub refusal_of : SheetFault → Refusal
refusal_of f = Fault f.row.mark.cause f.row.mark.place f.row.line f.block

abbrev pub refused_as : {A : Type 0} → Result A SheetFault → Result A Refusal
refused_as (Ok x) = Ok x
refused_as (Err f) = Err (refusal_of f)

-- What a sheet says to a reader whose store has these many steps, owners and displays, or the
-- refusal: first a sheet that is too long, then a store that is too small, then the fault.
abbrev pub read_answer : {D : Type 0} → List ℕ → (List ℕ → Result D Cause) → ℕ → ℕ → ℕ → List ℕ → Result (Sheet D) Refusal
read_answer kind reads steps owners displays sheet =
    cond (nat_lt most_bytes (length sheet)) (Err SheetTooLong)
    (cond (store_suffices steps owners displays) (refused_as (sheet_read kind reads sheet)) (Err TableStoreTooSmall))

-- the same for stores that are lent
abbrev pub read_into : {D C : Type 0} → List ℕ → (List ℕ → Result D Cause) → List ℕ → List ℕ → List C → List ℕ → Result (Sheet D) Refusal
read_into kind reads steps owners displays sheet = read_answer kind reads (length steps) (length owners) (length displays) sheet

-- counts, start and flows as the sheet says them, and no lockout
pub record Agrees {D : Type 0} (f : Found) (x : Sheet D) : Type 0 where
  pub states : f.counts.states ≡ x.counted.states
  pub commands : f.counts.commands ≡ x.counted.commands
  pub consoles : f.counts.consoles ≡ x.counted.consoles
  pub start : f.start ≡ x.counted.start
  pub board_consoles : consoles_of (flows_of f.board) ≡ x.counted.consoles
  pub board_commands : commands_of (lockouts_of f.board) ≡ x.counted.commands
  pub flows : (u v : ℕ) → may_affect (flows_of f.board) u v ≡ flows_said x u v
  pub lockouts : (c : ℕ) → locks (lockouts_of f.board) c ≡ false

-- the reader's result is what the sheet says, or its refusal
abbrev pub FoundAs : {D : Type 0} → Result Found Refusal → Result (Sheet D) Refusal → Type 0
FoundAs (Ok f) (Ok x) = Agrees f x
FoundAs (Ok f) (Err e) = ⊥
FoundAs (Err d) (Ok x) = ⊥
FoundAs (Err d) (Err e) = d ≡ e

-- a store whose front has been written; what lies behind stays
abbrev pub overwritten : {A : Type 0} → List A → List A → List A
overwritten front store = front ++ drop (length front) store

-- what a store holds after a reading: the sheet's entries in front, or all as it was
abbrev pub store_after : {D A : Type 0} → (Sheet D → List A) → Result (Sheet D) Refusal → List A → List A
store_after entries (Ok x) store = overwritten (entries x) store
store_after entries (Err e) store = store

-- The writer's answer for a board and an output of that length: the length of the sheet, or the
-- refusal; and what the output holds then.
module _ {D : Type 0} (kind : List ℕ) (mark : D → List ℕ) (b : BoardValue) (v : ControlValue D) where
  abbrev pub write_answer : ℕ → Result ℕ Refusal
  write_answer room =
      let needed : ℕ = length (sheet_text kind mark v b.flows) in
      cond (same_counts b v) (cond (nat_le needed room) (Ok needed) (Err (OutputTooShort needed))) (Err CountsDiffer)

  abbrev written : Result ℕ Refusal → List ℕ → List ℕ
  written (Ok n) out = overwritten (sheet_text kind mark v b.flows) out
  written (Err e) out = out

  abbrev pub output_after : List ℕ → List ℕ
  output_after out = written (write_answer (length out)) out
