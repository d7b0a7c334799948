-- What the reader holds of a sheet's rows, as the sheet says it.
use Rattle.std.specs.Prelude.{ℕ, List, Ok, Err, Result}
use Rattle.mark.specs.declared.cause.Cause.{Cause}
use Rattle.sheet.specs.Faults.{on, on_line}
use Rattle.sheet.specs.Plan.{counts_title}
use Rattle.sheet.specs.Due.{names_in}
use Rattle.sheet.specs.Reading.{Counted, Entries, names_at, counts_at, rows_at, plan_of, Value, nothing, owned, stepped, showed}
use Rattle.sheet.specs.declared.due.Due.{Due}
use Rattle.sheet.specs.declared.due.Due.TheVariants as due
use Rattle.sheet.specs.declared.heading.Heading.{Heading}
use Rattle.sheet.specs.declared.marks.Cursor.{Cursor}
use Rattle.sheet.specs.declared.fault.SheetFault.{SheetFault}
use Rattle.sheet.specs.declared.rows.Entry.{Entry}
use Rattle.sheet.specs.declared.rows.Entry.TheVariants.{Nothing, Owner, Step, Shown}

abbrev pub counted : Heading → Counted
counted h = record { states = h.counts.states; commands = h.counts.commands; consoles = h.counts.consoles; start = h.start }

abbrev pub headed : {F : Type 0} → Result (Heading × ℕ) F → Result (Counted × ℕ) F
headed (Ok y) = Ok (counted y.0, y.1)
headed (Err f) = Err f

-- the two lines of the first block, from place i on
abbrev pub first_at : List ℕ → List ℕ → ℕ → Result (Counted × ℕ) SheetFault
first_at kind sheet i = on (on_line 1 1 (names_at (names_in counts_title) sheet i)) (λ j. on_line 2 1 (counts_at kind sheet j))

-- the rows behind it, from the place of a cursor on
abbrev pub rows_behind : {D : Type 0} → (List ℕ → Result D Cause) → Heading → Cursor → Result (Entries D × ℕ) SheetFault
rows_behind reads h a = rows_at reads (counted h) a.sheet.now (plan_of (counted h)) 3 a.at

abbrev pub value_of : {D : Type 0} → Entry D → Value D
value_of Nothing = nothing
value_of (Owner w) = owned w
value_of (Step t) = stepped t
value_of (Shown d) = showed d

abbrev pub told : {D F : Type 0} → Result (Entry D × ℕ) F → Result (Value D × ℕ) F
told (Ok y) = Ok (value_of y.0, y.1)
told (Err f) = Err f

-- an entry is one of the row that is due
abbrev pub Kinded : {D : Type 0} → Due → Entry D → Type 0
Kinded (due.Title b) Nothing = Unit {0}
Kinded (due.Title b) (Owner w) = ⊥
Kinded (due.Title b) (Step t) = ⊥
Kinded (due.Title b) (Shown d) = ⊥
Kinded (due.Owner n) Nothing = ⊥
Kinded (due.Owner n) (Owner w) = Unit {0}
Kinded (due.Owner n) (Step t) = ⊥
Kinded (due.Owner n) (Shown d) = ⊥
Kinded (due.Step n) Nothing = ⊥
Kinded (due.Step n) (Owner w) = ⊥
Kinded (due.Step n) (Step t) = Unit {0}
Kinded (due.Step n) (Shown d) = ⊥
Kinded (due.Shown n) Nothing = ⊥
Kinded (due.Shown n) (Owner w) = ⊥
Kinded (due.Shown n) (Step t) = ⊥
Kinded (due.Shown n) (Shown d) = Unit {0}
