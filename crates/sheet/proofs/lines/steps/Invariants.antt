-- The lines of the states passed, and of the commands passed at this one, are written.
use Rattle.std.proofs.Common.{◌+◌, ◌*◌}
use Rattle.sheet.specs.Plan.{tabulate}
use Rattle.sheet.specs.Text.{rows_text}
use Rattle.sheet.specs.Written.{Writes, step_row}
use Rattle.sheet.proofs.lines.steps.Given as goal

abbrev pub invariant-loop-state : goal.invariant-loop-state
invariant-loop-state g l =
    let v = g.C.Control.value l.control in
    Writes l.fn.out (rows_text g.C.Display.DisplayKind.kind g.C.Display.DisplayKind.marked v (tabulate 0 (l.state * v.commands) (step_row v))) l.out

abbrev pub invariant-loop-command : goal.invariant-loop-command
invariant-loop-command g l =
    let v = g.C.Control.value l.control in
    Writes l.fn.out (rows_text g.C.Display.DisplayKind.kind g.C.Display.DisplayKind.marked v (tabulate 0 (l.state * v.commands + l.command) (step_row v))) l.out
