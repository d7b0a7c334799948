-- One line more with each command, and the closing state at the end.
use Rattle.std.proofs.Common.{vec_items}
use Rattle.policy.specs.Lockouts.{locks}
use Rattle.report.proofs.Transcribing.{lines_end}
use Rattle.report.proofs.transcript.push_commands.Goals as goal

pub returns : goal.returns
returns g c =
    lines_end g.C.Display.DisplayKind.marked (g.C.Control.value c.args.control.now) (locks c.args.lockouts.now) c.args.sequence.now c.loop-i.i c.loop-i.state
    c.writeln.result (vec_items c.loop-i.text) _ _ c.loop-i-test.false c.writeln.ensures.bytes c.loop-i.invariant
