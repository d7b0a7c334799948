-- The heading, the line of the start and the lines of the commands, one after the other.
use Rattle.std.proofs.Common.{[], ◌++◌, codes, vec_items, ap, ap₂, ◌∙◌}
use Rattle.policy.specs.Board.{lockouts_of}
use Rattle.policy.specs.Lockouts.{locks}
use Rattle.report.specs.Transcripts.{heading, line, lines}
use Rattle.report.proofs.Appending.{then}
use Rattle.report.proofs.transcript.transcript.Goals as goal

pub returns-clause-text : goal.returns-clause-text
returns-clause-text g c =
    let marked = g.C.Display.DisplayKind.marked in
    let v = g.C.Control.value c.args.control.now in
    let p = c.args.sequence.now in
    let headed = c.in_ok-push_heading.ensures ∙ ap₂ (λ t k. t ++ heading k) c.new-text.ensures.items c.consoles.ensures.value in
    let begun = c.in_ok-push_start.ensures ∙ ap (λ t. t ++ line marked v (codes "start") [] [] v.start) headed in
    let ended = c.in_ok-push_commands.ensures ∙ ap (λ L. vec_items c.push_start.new.text ++ lines marked v L 1 v.start p) (ap locks c.lockouts.ensures) in
    then (heading v.consoles) (line marked v (codes "start") [] [] v.start) (lines marked v (locks (lockouts_of c.args.board.now)) 1 v.start p) begun ended
