-- Every row that is read leaves fewer, and its entry in a store.
use Rattle.std.proofs.Common.{length}
use Rattle.sheet.specs.Reading.{plan_of, rows_at}
use Rattle.sheet.specs.Due.{rows_left}
use Rattle.sheet.specs.Entries.{counted}
use Rattle.sheet.proofs.Filling.{Filling}
use Rattle.sheet.proofs.reader.fill.Given as goal

-- the stores hold what was read
abbrev pub invariant-loop-due : goal.invariant-loop-due
invariant-loop-due g l =
    Filling g.D.DisplayKind.reads l.heading g.D.DisplayKind.cell (rows_at g.D.DisplayKind.reads (counted l.heading) l.cursor.sheet.now (plan_of (counted l.heading)) 3 l.cursor.at) l.initial.steps l.initial.owners l.initial.displays l.progress l.steps l.owners l.displays

abbrev pub decreases-loop-due : goal.decreases-loop-due
decreases-loop-due g l = length (rows_left l.heading.counts l.progress.due)
