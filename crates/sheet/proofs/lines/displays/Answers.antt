-- The line of one state and console more is written.
use Rattle.std.proofs.Common.{◌<◌, refl, ap, ◌∙◌, arith}
use Rattle.sheet.specs.Plan.{shown}
use Rattle.sheet.proofs.Blocks.{entry_within, entry_written}
use Rattle.sheet.proofs.lines.displays.Goals as goal

pub loop-console-preserved : goal.loop-console-preserved
loop-console-preserved g c =
    let v = g.C.Control.value c.args.control.now in
    let mark = g.C.Display.DisplayKind.marked in
    let state : c.loop-state.state < v.states = omega (arith, c.states-state-end.ensures.value, c.loop-state-test.true) in
    let console : c.loop-console.console < v.consoles = omega (arith, c.consoles-console-end.ensures.value, c.loop-console-test.true) in
    let display = c.display.ensures ∙ entry_within v.shows v.states v.consoles _ _ state console in
    entry_written g.C.Display.DisplayKind.kind mark v shown v.consoles _ _ console (c.text.ensures ∙ c.mark.ensures ∙ ap mark display) refl
    c.loop-console.invariant c.number.ensures c.number-in-loop-console.ensures c.word.ensures
