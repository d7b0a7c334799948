-- The rows that are still due, and the row that comes next.
use Rattle.std.specs.Prelude.{ℕ, ◌+◌, ◌-◌, ◌*◌, ◌/◌, ◌%◌, ◌<◌, cond, List, [], ◌∷◌, ◌++◌, Some, None, Option, nat_lt}
use Rattle.theory.specs.Limits.{Count, most_states, most_commands, most_consoles}
use Rattle.control.specs.declared.table.Counts.{Counts}
use Rattle.sheet.specs.Plan.{tabulate, Row, title, owner, step, shown, block_of, owners_title, steps_title, displays_title, flows_title}
use Rattle.sheet.specs.declared.due.Block.{Block}
use Rattle.sheet.specs.declared.due.Block.TheVariants as block
use Rattle.sheet.specs.declared.due.Due.{Due}
use Rattle.sheet.specs.declared.due.Due.TheVariants as due

-- the counts keep the limits
pub record Within (c : Counts) : Type 0 where
  pub states : Count most_states c.states
  pub commands : Count most_commands c.commands
  pub consoles : Count most_consoles c.consoles

-- the line on which the flows of a largest control begin: behind the two lines of the first block,
-- the names of four blocks, and a row for each command, step and display
abbrev pub highest_line : ℕ
highest_line = 3 + (4 + (most_commands + (most_states * most_commands + most_states * most_consoles)))

abbrev pub names_in : Row → List (List ℕ)
names_in (title b ws) = ws
names_in (owner c) = []
names_in (step s c) = []
names_in (shown s u) = []

abbrev pub title_of : Block → Row
title_of block.Owners = owners_title
title_of block.Steps = steps_title
title_of block.Displays = displays_title
title_of block.Flows = flows_title

-- the row that is due
abbrev pub row_of : Counts → Due → Row
row_of c (due.Title b) = title_of b
row_of c (due.Owner n) = owner n
row_of c (due.Step n) = step (n / c.commands) (n % c.commands)
row_of c (due.Shown n) = shown (n / c.consoles) (n % c.consoles)

abbrev pub number_of : Due → ℕ
number_of (due.Title b) = block_of (title_of b)
number_of (due.Owner n) = 2
number_of (due.Step n) = 3
number_of (due.Shown n) = 4

-- the rows from one of a block on
abbrev pub displays_from : Counts → ℕ → List Row
displays_from c n = tabulate n (c.states * c.consoles - n) (λ r. shown (r / c.consoles) (r % c.consoles)) ++ (flows_title ∷ [])

abbrev pub steps_from : Counts → ℕ → List Row
steps_from c n = tabulate n (c.states * c.commands - n) (λ r. step (r / c.commands) (r % c.commands)) ++ (displays_title ∷ displays_from c 0)

abbrev pub owners_from : Counts → ℕ → List Row
owners_from c n = tabulate n (c.commands - n) owner ++ (steps_title ∷ steps_from c 0)

-- the row that is due and all behind it
abbrev pub rows_due : Counts → Due → List Row
rows_due c (due.Title block.Owners) = owners_title ∷ owners_from c 0
rows_due c (due.Title block.Steps) = steps_title ∷ steps_from c 0
rows_due c (due.Title block.Displays) = displays_title ∷ displays_from c 0
rows_due c (due.Title block.Flows) = flows_title ∷ []
rows_due c (due.Owner n) = owners_from c n
rows_due c (due.Step n) = steps_from c n
rows_due c (due.Shown n) = displays_from c n

-- none is due where the flows begin
abbrev pub rows_left : Counts → Option Due → List Row
rows_left c None = []
rows_left c (Some d) = rows_due c d

-- the row after it; behind the last row of a block stand the names of the next
abbrev pub next_due : Counts → Due → Option Due
next_due c (due.Title block.Owners) = Some (due.Owner 0)
next_due c (due.Title block.Steps) = Some (due.Step 0)
next_due c (due.Title block.Displays) = Some (due.Shown 0)
next_due c (due.Title block.Flows) = None
next_due c (due.Owner n) = cond (nat_lt (n + 1) c.commands) (Some (due.Owner (n + 1))) (Some (due.Title block.Steps))
next_due c (due.Step n) = cond (nat_lt (n + 1) (c.states * c.commands)) (Some (due.Step (n + 1))) (Some (due.Title block.Displays))
next_due c (due.Shown n) = cond (nat_lt (n + 1) (c.states * c.consoles)) (Some (due.Shown (n + 1))) (Some (due.Title block.Flows))

-- there is such a row
abbrev pub Stands : Counts → Due → Type 0
Stands c (due.Title b) = Unit {0}
Stands c (due.Owner n) = n < c.commands
Stands c (due.Step n) = n < c.states * c.commands
Stands c (due.Shown n) = n < c.states * c.consoles

abbrev pub StandsLeft : Counts → Option Due → Type 0
StandsLeft c None = Unit {0}
StandsLeft c (Some d) = Stands c d
