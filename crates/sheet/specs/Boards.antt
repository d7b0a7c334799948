-- The flows of a sheet, one after the other, and the board on which they are allowed.
use Rattle.std.specs.Prelude.{◌≡◌, ℕ, ◌+◌, ◌*◌, false, cond, ◌&&◌, ◌||◌, List, length, Some, None, Ok, Err, Option, Result, ◌==◌, nat_le, nat_lt}
use Rattle.mark.specs.declared.cause.Cause.TheVariants.{NotDue}
use Rattle.policy.specs.Board.{flows_of, lockouts_of}
use Rattle.policy.specs.Flows.{consoles_of, may_affect}
use Rattle.policy.specs.Lockouts.{commands_of, locks}
use Rattle.policy.specs.declared.board.Board.{Board}
use Rattle.policy.specs.declared.refusal.Refusal.{Refusal}
use Rattle.control.specs.declared.table.Counts.{Counts}
use Rattle.sheet.specs.Calls.{refusal_of}
use Rattle.sheet.specs.Exact.{among}
use Rattle.sheet.specs.Faults.{mark_fault, on, on_line}
use Rattle.sheet.specs.Reading.{flow_at, may_come}
use Rattle.sheet.specs.declared.fault.MarkFault.{MarkFault}
use Rattle.sheet.specs.declared.fault.SheetFault.{SheetFault}

-- one row of block 5, which is a fault at its first mark where it may not come
abbrev pub flow_due : ℕ → ℕ → List ℕ → ℕ → Result (ℕ × ℕ) MarkFault
flow_due k low sheet i = on (flow_at k sheet i) (λ y. cond (may_come k low y.0) (Ok y) (Err (mark_fault NotDue i)))

-- the flow that comes next on a line, or none at the end of the sheet
abbrev pub flow_next : ℕ → ℕ → ℕ → List ℕ → ℕ → Result (Option ℕ × ℕ) SheetFault
flow_next k low line sheet i = cond (nat_le (length sheet) i) (Ok (None, i)) (on (on_line line 5 (flow_due k low sheet i)) (λ y. Ok (Some y.0, y.1)))

-- a board of these counts with self flows and the flows of these pairs, and no lockout
pub record Lists (c : Counts) (b : Board) (ps : List ℕ) : Type 0 where
  pub consoles : consoles_of (flows_of b) ≡ c.consoles
  pub commands : commands_of (lockouts_of b) ≡ c.commands
  pub flows : (u v : ℕ) → may_affect (flows_of b) u v ≡ ((u == v && nat_lt u c.consoles) || (nat_lt v c.consoles && among (u * c.consoles + v) ps))
  pub lockouts : (n : ℕ) → locks (lockouts_of b) n ≡ false

-- the board with the flows that were read, or the refusal
abbrev pub BoardAs : Counts → Result Board Refusal → Result (List ℕ) SheetFault → Type 0
BoardAs c (Ok b) (Ok ps) = Lists c b ps
BoardAs c (Ok b) (Err f) = ⊥
BoardAs c (Err e) (Ok ps) = ⊥
BoardAs c (Err e) (Err f) = e ≡ refusal_of f
