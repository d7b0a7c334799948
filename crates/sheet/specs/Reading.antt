-- Reading a sheet: what its bytes say, or the earliest fault with its line and block.
use Rattle.std.specs.Prelude.{ℕ, zero, suc, ◌+◌, ◌-◌, ◌*◌, ◌/◌, ◌%◌, Bool, cond, not, ◌&&◌, List, [], ◌∷◌, length, Ok, Err, Result, ◌==◌, nat_le}
use Rattle.mark.specs.declared.cause.Cause.{Cause}
use Rattle.mark.specs.declared.cause.Cause.TheVariants.{NotDue}
use Rattle.theory.specs.Limits.{most_states, most_commands, most_consoles}
use Rattle.sheet.specs.Faults.{mark_fault, on, on_line}
use Rattle.sheet.specs.Marks.{blank, newline, item_at, name_reads, number_reads, exact_reads}
use Rattle.sheet.specs.Plan.{Row, title, owner, step, shown, block_of, counts_title, plan}
use Rattle.sheet.specs.declared.fault.MarkFault.{MarkFault}
use Rattle.sheet.specs.declared.fault.SheetFault.{SheetFault}

-- the names of a title, each with the byte behind it; the place behind the line
abbrev pub names_at : List (List ℕ) → List ℕ → ℕ → Result ℕ MarkFault
names_at [] sheet i = Ok i
names_at (w ∷ []) sheet i = on (item_at (name_reads w) newline sheet i) (λ y. Ok y.1)
names_at (w ∷ (x ∷ ws)) sheet i = on (item_at (name_reads w) blank sheet i) (λ y. names_at (x ∷ ws) sheet y.1)

-- the numbers that a row begins with, each with a blank behind it; the place behind them
abbrev pub exacts_at : List ℕ → List ℕ → ℕ → Result ℕ MarkFault
exacts_at [] sheet i = Ok i
exacts_at (n ∷ ns) sheet i = on (item_at (exact_reads n) blank sheet i) (λ y. exacts_at ns sheet y.1)

-- a row that begins with given numbers and ends with a value
abbrev pub row_at : {A : Type 0} → List ℕ → (List ℕ → Result A Cause) → List ℕ → ℕ → Result (A × ℕ) MarkFault
row_at ns reads sheet i = on (exacts_at ns sheet i) (item_at reads newline sheet)

-- the row of block 1: three counts, a start among the states, and the kind's name
pub record Counted : Type 0 where
  pub states : ℕ
  pub commands : ℕ
  pub consoles : ℕ
  pub start : ℕ

abbrev pub counts_at : List ℕ → List ℕ → ℕ → Result (Counted × ℕ) MarkFault
counts_at kind sheet i =
    on (item_at (number_reads 1 most_states) blank sheet i) (λ n.
    on (item_at (number_reads 1 most_commands) blank sheet n.1) (λ m.
    on (item_at (number_reads 1 most_consoles) blank sheet m.1) (λ k.
    on (item_at (number_reads 0 (n.0 - 1)) blank sheet k.1) (λ s.
    on (item_at (name_reads kind) newline sheet s.1) (λ y.
    Ok (record { states = n.0; commands = m.0; consoles = k.0; start = s.0 }, y.1))))))

-- the entries of blocks 2 to 4, each in the order of the sheet
pub record Entries (D : Type 0) : Type 0 where
  pub owners : List ℕ
  pub steps : List ℕ
  pub displays : List D

abbrev pub no_entries : {D : Type 0} → Entries D
no_entries = record { owners = []; steps = []; displays = [] }

-- what a row adds in front of the entries of the rows behind it
pub data Value (D : Type 0) : Type 0 where
  nothing : Value D
  owned : ℕ → Value D
  stepped : ℕ → Value D
  showed : D → Value D

abbrev pub with_value : {D : Type 0} → Value D → Entries D → Entries D
with_value nothing e = e
with_value (owned w) e = record { owners = w ∷ e.owners; steps = e.steps; displays = e.displays }
with_value (stepped t) e = record { owners = e.owners; steps = t ∷ e.steps; displays = e.displays }
with_value (showed d) e = record { owners = e.owners; steps = e.steps; displays = d ∷ e.displays }

-- `reads` reads a display of the kind
module _ {D : Type 0} (reads : List ℕ → Result D Cause) (c : Counted) (sheet : List ℕ) where
  abbrev pub value_at : Row → ℕ → Result (Value D × ℕ) MarkFault
  value_at (title b ws) i = on (names_at ws sheet i) (λ j. Ok (nothing, j))
  value_at (owner a) i = on (row_at (a ∷ []) (number_reads 0 (c.consoles - 1)) sheet i) (λ y. Ok (owned y.0, y.1))
  value_at (step s a) i = on (row_at (s ∷ (a ∷ [])) (number_reads 0 (c.states - 1)) sheet i) (λ y. Ok (stepped y.0, y.1))
  value_at (shown s u) i = on (row_at (s ∷ (u ∷ [])) reads sheet i) (λ y. Ok (showed y.0, y.1))

  -- the rows due, from line `line` on
  abbrev pub rows_at : List Row → ℕ → ℕ → Result (Entries D × ℕ) SheetFault
  rows_at [] line i = Ok (no_entries, i)
  rows_at (r ∷ rs) line i =
      on (on_line line (block_of r) (value_at r i)) (λ y.
      on (rows_at rs (line + 1) y.1) (λ z. Ok (with_value y.0 z.0, z.1)))

-- one row of block 5, as the number of its pair
abbrev pub flow_at : ℕ → List ℕ → ℕ → Result (ℕ × ℕ) MarkFault
flow_at k sheet i =
    on (item_at (number_reads 0 (k - 1)) blank sheet i) (λ u.
    on (item_at (number_reads 0 (k - 1)) newline sheet u.1) (λ v.
    Ok (u.0 * k + v.0, v.1)))

-- a pair may come next that is no self flow and not below `low`, the one behind the last
abbrev pub may_come : ℕ → ℕ → ℕ → Bool
may_come k low p = nat_le low p && not (p / k == p % k)

-- The rows of block 5 to the end of the sheet. `room` is how many pairs can still come; a row
-- that is whole and may not come is a fault at its first mark.
abbrev pub flows_at : ℕ → List ℕ → ℕ → ℕ → ℕ → ℕ → Result (List ℕ) SheetFault
flows_at k sheet zero low line i =
    cond (nat_le (length sheet) i) (Ok []) (on (on_line line 5 (flow_at k sheet i)) (λ y. on_line line 5 (Err (mark_fault NotDue i))))
flows_at k sheet (suc room) low line i =
    cond (nat_le (length sheet) i)
    (Ok [])
    (on (on_line line 5 (flow_at k sheet i)) (λ y.
    cond (may_come k low y.0)
    (on (flows_at k sheet room (y.0 + 1) (line + 1) y.1) (λ ps. Ok (y.0 ∷ ps)))
    (on_line line 5 (Err (mark_fault NotDue i)))))

-- what a sheet says
pub record Sheet (D : Type 0) : Type 0 where
  pub counted : Counted
  pub entries : Entries D
  pub flows : List ℕ

abbrev pub plan_of : Counted → List Row
plan_of c = plan c.states c.commands c.consoles

-- kind is the name of the display kind that is due
abbrev pub sheet_read : {D : Type 0} → List ℕ → (List ℕ → Result D Cause) → List ℕ → Result (Sheet D) SheetFault
sheet_read kind reads sheet =
    on (on_line 1 1 (value_at reads (record { states = 1; commands = 1; consoles = 1; start = 0 }) sheet counts_title 0)) (λ t.
    on (on_line 2 1 (counts_at kind sheet t.1)) (λ c.
    on (rows_at reads c.0 sheet (plan_of c.0) 3 c.1) (λ e.
    on (flows_at c.0.consoles sheet (c.0.consoles * c.0.consoles) 0 (3 + length (plan_of c.0)) e.1) (λ ps.
    Ok (record { counted = c.0; entries = e.0; flows = ps })))))
