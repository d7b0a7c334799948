-- Every row that is read leaves fewer, and goes behind what was read before.
use Rattle.std.proofs.Common.{length}
use Rattle.sheet.specs.Due.{rows_left}
use Rattle.sheet.specs.Entries.{rows_behind}
use Rattle.sheet.proofs.Passed.{Passing}
use Rattle.sheet.proofs.reader.pass_rows.Given as goal

-- what was read so far, and what is left
abbrev pub invariant-loop : goal.invariant-loop
invariant-loop g l = Passing g.D.DisplayKind.reads l.heading (rows_behind g.D.DisplayKind.reads l.heading l.cursor) l.progress

abbrev pub decreases-loop : goal.decreases-loop
decreases-loop g l = length (rows_left l.heading.counts l.progress.due)
