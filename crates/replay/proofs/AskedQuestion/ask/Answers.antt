-- The transcript or the comparison is what is answered behind the lockouts.
use Rattle.policy.specs.Board.{value_of}
use Rattle.replay.proofs.Answering.{answered_of_one, answered_of_two}
use Rattle.replay.proofs.AskedQuestion.ask.Goals as goal

pub returns-in-None : goal.returns-in-None
returns-in-None g c =
    answered_of_one (λ t. t.items) c.args.self.now (value_of c.args.board) (value_of c.in_ok-board.board) g.C.Display.DisplayKind.marked (g.C.Control.value c.args.control.now) c.transcript.result _ c.as_slice.ensures.value c.in_ok-board.ensures.locked
    _ c.in-None.is c.as_slice-first.ensures.value c.transcript.ensures.text c.transcript.ensures.refusals

pub returns-in-Some : goal.returns-in-Some
returns-in-Some g c =
    answered_of_two (λ t. t.items) c.args.self.now (value_of c.args.board) (value_of c.in_ok-board.board) g.C.Display.DisplayKind.marked (g.C.Control.value c.args.control.now) c.comparison.result _ c.as_slice.ensures.value c.in_ok-board.ensures.locked
    c.in-Some.meaning _ _ _ c.in-Some.is c.from.ensures c.as_slice-first.ensures.value c.as_slice-in-Some.ensures.value c.comparison.ensures.text c.comparison.ensures.refusals
