-- One command's line more is written.
use Rattle.std.proofs.Common.{◌≡◌, ℕ, ◌<◌, ◌∷◌, [], decimal, ap, ◌∙◌, arith}
use Rattle.sheet.specs.Marks.{blank}
use Rattle.sheet.specs.Plan.{owner}
use Rattle.sheet.specs.Text.{line_of}
use Rattle.sheet.proofs.Writing.{writes_more, writes_as, word_then}
use Rattle.sheet.proofs.Blocks.{number_within, rows_more}
use Rattle.sheet.proofs.lines.owners.Goals as goal

pub loop-command-preserved : goal.loop-command-preserved
loop-command-preserved g c =
    let v = g.C.Control.value c.args.control.now in
    let n : ℕ = c.loop-command.command in
    let within : n < v.commands = omega (arith, c.commands-command-end.ensures.value, c.loop-command-test.true) in
    let owned : c.owner.result ≡ v.owner n = c.owner.ensures.value ∙ ap v.owner (number_within v.commands n within) in
    writes_as (rows_more g.C.Display.DisplayKind.kind g.C.Display.DisplayKind.marked v owner n)
    (writes_more _ _ c.loop-command.invariant
    (writes_as (ap (λ u. line_of (decimal n ∷ (decimal u ∷ []))) owned)
    (word_then _ blank _ c.number.ensures c.number-in-loop-command.ensures)))
