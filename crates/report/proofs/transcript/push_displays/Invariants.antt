-- The text so far has the columns of the consoles so far.
use Rattle.std.proofs.Common.{◌≡◌, ◌++◌, vec_items}
use Rattle.theory.specs.Control.{display_of}
use Rattle.report.specs.Transcripts.{columns}
use Rattle.report.proofs.transcript.push_displays.Given as goal

abbrev pub invariant-loop-console : goal.invariant-loop-console
invariant-loop-console g l =
    vec_items l.text ≡ vec_items l.initial.text ++ columns (λ u. g.C.Display.DisplayKind.marked (display_of (g.C.Control.value l.control) l.state u)) l.console
