-- The text so far has the lines of the commands so far.
use Rattle.std.proofs.Common.{◌≡◌, ◌+◌, ◌++◌, drop, vec_items}
use Rattle.policy.specs.Lockouts.{locks}
use Rattle.report.specs.Transcripts.{lines}
use Rattle.report.proofs.transcript.push_commands.Given as goal

-- the text so far and the lines to come are the text before and all lines
abbrev pub invariant-loop-i : goal.invariant-loop-i
invariant-loop-i g l =
    let mark = g.C.Display.DisplayKind.marked in
    let v = g.C.Control.value l.control in
    let L = locks l.lockouts in
    vec_items l.text ++ lines mark v L (l.i + 1) l.state (drop l.i l.sequence) ≡ vec_items l.initial.text ++ lines mark v L 1 v.start l.sequence
