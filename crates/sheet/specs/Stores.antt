-- The stores while they are filled: where a row's entry belongs, and what was written so far.
use Rattle.std.specs.Prelude.{◌≡◌, ℕ, ◌*◌, ◌<◌, List, ◌++◌, Some, None, Ok, Err, Option, Result, slice_set}
use Rattle.control.specs.declared.table.Counts.{Counts}
use Rattle.sheet.specs.Calls.{overwritten}
use Rattle.sheet.specs.Reading.{Entries}
use Rattle.sheet.specs.declared.due.Block.TheVariants as block
use Rattle.sheet.specs.declared.due.Due.{Due}
use Rattle.sheet.specs.declared.due.Due.TheVariants as due
use Rattle.sheet.specs.declared.fault.SheetFault.{SheetFault}
use Rattle.sheet.specs.declared.rows.Entry.{Entry}
use Rattle.sheet.specs.declared.rows.Entry.TheVariants.{Nothing, Owner, Step, Shown}

-- stores of these many steps, owners and displays have a place for the row
abbrev pub Holds : ℕ → ℕ → ℕ → Due → Type 0
Holds steps owners displays (due.Title b) = Unit {0}
Holds steps owners displays (due.Owner n) = n < owners
Holds steps owners displays (due.Step n) = n < steps
Holds steps owners displays (due.Shown n) = n < displays

abbrev owner_at : {D : Type 0} → ℕ → Entry D → List ℕ → List ℕ
owner_at n Nothing l = l
owner_at n (Owner w) l = slice_set l n w
owner_at n (Step t) l = l
owner_at n (Shown d) l = l

abbrev step_at : {D : Type 0} → ℕ → Entry D → List ℕ → List ℕ
step_at n Nothing l = l
step_at n (Owner w) l = l
step_at n (Step t) l = slice_set l n t
step_at n (Shown d) l = l

abbrev display_at : {D C : Type 0} → (D → C) → ℕ → Entry D → List C → List C
display_at cell n Nothing l = l
display_at cell n (Owner w) l = l
display_at cell n (Step t) l = l
display_at cell n (Shown d) l = slice_set l n (cell d)

-- the stores once the row's entry is kept
abbrev pub owners_with : {D : Type 0} → Due → Entry D → List ℕ → List ℕ
owners_with (due.Title b) v l = l
owners_with (due.Owner n) v l = owner_at n v l
owners_with (due.Step n) v l = l
owners_with (due.Shown n) v l = l

abbrev pub steps_with : {D : Type 0} → Due → Entry D → List ℕ → List ℕ
steps_with (due.Title b) v l = l
steps_with (due.Owner n) v l = l
steps_with (due.Step n) v l = step_at n v l
steps_with (due.Shown n) v l = l

abbrev pub displays_with : {D C : Type 0} → (D → C) → Due → Entry D → List C → List C
displays_with cell (due.Title b) v l = l
displays_with cell (due.Owner n) v l = l
displays_with cell (due.Step n) v l = l
displays_with cell (due.Shown n) v l = display_at cell n v l

-- how many entries of each block lie before the row that is due
abbrev pub owners_done : Counts → Option Due → ℕ
owners_done c None = c.commands
owners_done c (Some (due.Title block.Owners)) = 0
owners_done c (Some (due.Title block.Steps)) = c.commands
owners_done c (Some (due.Title block.Displays)) = c.commands
owners_done c (Some (due.Title block.Flows)) = c.commands
owners_done c (Some (due.Owner n)) = n
owners_done c (Some (due.Step n)) = c.commands
owners_done c (Some (due.Shown n)) = c.commands

abbrev pub steps_done : Counts → Option Due → ℕ
steps_done c None = c.states * c.commands
steps_done c (Some (due.Title block.Owners)) = 0
steps_done c (Some (due.Title block.Steps)) = 0
steps_done c (Some (due.Title block.Displays)) = c.states * c.commands
steps_done c (Some (due.Title block.Flows)) = c.states * c.commands
steps_done c (Some (due.Owner n)) = 0
steps_done c (Some (due.Step n)) = n
steps_done c (Some (due.Shown n)) = c.states * c.commands

abbrev pub displays_done : Counts → Option Due → ℕ
displays_done c None = c.states * c.consoles
displays_done c (Some (due.Title block.Owners)) = 0
displays_done c (Some (due.Title block.Steps)) = 0
displays_done c (Some (due.Title block.Displays)) = 0
displays_done c (Some (due.Title block.Flows)) = c.states * c.consoles
displays_done c (Some (due.Owner n)) = 0
displays_done c (Some (due.Step n)) = 0
displays_done c (Some (due.Shown n)) = n

-- entries behind entries
abbrev pub joined : {D : Type 0} → Entries D → Entries D → Entries D
joined d e = record { owners = d.owners ++ e.owners; steps = d.steps ++ e.steps; displays = d.displays ++ e.displays }

-- what a store holds after the rows were read, if they were
abbrev pub FilledBy : {D A : Type 0} → (Entries D → List A) → Result (Entries D × ℕ) SheetFault → List A → List A → Type 0
FilledBy entries (Ok z) before after = after ≡ overwritten (entries z.0) before
FilledBy entries (Err f) before after = Unit {0}
