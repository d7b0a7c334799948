-- The text so far has the columns of the consoles so far.
use Rattle.std.proofs.Common.{◌≡◌, ◌++◌, vec_items, codes, decimal}
use Rattle.report.specs.Transcripts.{columns}
use Rattle.report.proofs.transcript.push_console_names.Given as goal

abbrev pub invariant-loop-console : goal.invariant-loop-console
invariant-loop-console l = vec_items l.text ≡ vec_items l.initial.text ++ columns (λ u. codes "console " ++ decimal u) l.console-counter
