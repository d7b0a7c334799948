-- The lines of the states passed, and of the consoles passed at this one, are written.
use Rattle.std.proofs.Common.{◌+◌, ◌*◌}
use Rattle.sheet.specs.Plan.{tabulate}
use Rattle.sheet.specs.Text.{rows_text}
use Rattle.sheet.specs.Written.{Writes, display_row}
use Rattle.sheet.proofs.lines.displays.Given as goal

abbrev pub invariant-loop-state : goal.invariant-loop-state
invariant-loop-state g l =
    let v = g.C.Control.value l.control in
    Writes l.fn.out (rows_text g.C.Display.DisplayKind.kind g.C.Display.DisplayKind.marked v (tabulate 0 (l.state * v.consoles) (display_row v))) l.out

abbrev pub invariant-loop-console : goal.invariant-loop-console
invariant-loop-console g l =
    let v = g.C.Control.value l.control in
    Writes l.fn.out (rows_text g.C.Display.DisplayKind.kind g.C.Display.DisplayKind.marked v (tabulate 0 (l.state * v.consoles + l.console) (display_row v))) l.out
