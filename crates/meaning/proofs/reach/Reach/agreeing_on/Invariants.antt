-- The row is that of the commands passed so far.
use Rattle.std.proofs.Common.{◌≡◌, ◌+◌, length, take}
use Rattle.meaning.specs.Agreeing.{RowOf}
use Rattle.meaning.proofs.reach.Reach.agreeing_on.Given as goal

abbrev pub invariant-loop-command : goal.invariant-loop-command
invariant-loop-command l =
    (length l.row.items ≡ length l.right.commands.now + 1)
    × RowOf l.self (take l.command-index l.left.commands.now) l.right.commands.now l.row.items
