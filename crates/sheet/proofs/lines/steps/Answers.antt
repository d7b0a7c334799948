-- The line of one state and command more is written.
use Rattle.std.proofs.Common.{◌<◌, decimal, refl, ap, ◌∙◌, arith}
use Rattle.sheet.specs.Plan.{step}
use Rattle.sheet.proofs.Blocks.{entry_within, entry_written}
use Rattle.sheet.proofs.lines.steps.Goals as goal

pub loop-command-preserved : goal.loop-command-preserved
loop-command-preserved g c =
    let v = g.C.Control.value c.args.control.now in
    let state : c.loop-state.state < v.states = omega (arith, c.states-state-end.ensures.value, c.loop-state-test.true) in
    let command : c.loop-command.command < v.commands = omega (arith, c.commands-command-end.ensures.value, c.loop-command-test.true) in
    let next = c.next.ensures.value ∙ entry_within v.step v.states v.commands _ _ state command in
    entry_written g.C.Display.DisplayKind.kind g.C.Display.DisplayKind.marked v step v.commands _ _ command (ap decimal next) refl
    c.loop-command.invariant c.number.ensures c.number-in-loop-command.ensures c.number-in-loop-command-2.ensures
