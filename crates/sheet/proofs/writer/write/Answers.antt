-- What the writer answers follows from what was counted and written.
use Rattle.std.proofs.Common.{ap}
use Rattle.policy.specs.Board.{value_of}
use Rattle.policy.specs.Flows.{may_affect}
use Rattle.sheet.proofs.Outcome.{refused, written}
use Rattle.sheet.proofs.writer.write.Goals as goal

pub returns-then-needed-out : goal.returns-then-needed-out
returns-then-needed-out g c =
    let laws = g.met.C.Display.DisplayKind in
    let all = refused g.C.Display.DisplayKind.kind g.C.Display.DisplayKind.marked laws.named laws.mark_short
    (g.C.Control.value c.args.control.now) (g.C.Control.lawful c.args.control.now) (value_of c.args.board.now) c.in_ok-check_counts.ensures
    (ap may_affect c.flows-permitted.ensures) c.sheet-needed.ensures c.args.out.now c.if-needed-out.true in
    record { answer = all.0; output = all.1 }

pub returns : goal.returns
returns g c =
    let laws = g.met.C.Display.DisplayKind in
    let all = written g.C.Display.DisplayKind.kind g.C.Display.DisplayKind.marked laws.named laws.mark_short
    (g.C.Control.value c.args.control.now) (g.C.Control.lawful c.args.control.now) (value_of c.args.board.now) c.in_ok-check_counts.ensures
    (ap may_affect c.flows-permitted.ensures) c.sheet-needed.ensures c.args.out.now c.if-needed-out.false c.sheet.ensures in
    record { answer = all.0; output = all.1 }
