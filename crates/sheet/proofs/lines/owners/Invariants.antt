-- The lines of the commands passed are written.
use Rattle.sheet.specs.Plan.{tabulate, owner}
use Rattle.sheet.specs.Text.{rows_text}
use Rattle.sheet.specs.Written.{Writes}
use Rattle.sheet.proofs.lines.owners.Given as goal

abbrev pub invariant-loop-command : goal.invariant-loop-command
invariant-loop-command g l = Writes l.initial.out (rows_text g.C.Display.DisplayKind.kind g.C.Display.DisplayKind.marked (g.C.Control.value l.control) (tabulate 0 l.command owner)) l.out
