-- The sources and what was kept are those of the commands passed so far, from the back.
use Rattle.std.proofs.Common.{◌≤◌, length, reverse, take}
use Rattle.meaning.specs.Reach.{flow_of, giver_of}
use Rattle.meaning.proofs.Gathering.{Carried}
use Rattle.meaning.proofs.intransitive_purge.purged.Given as goal

abbrev pub invariant-loop-command : goal.invariant-loop-command
invariant-loop-command l =
    (length l.kept.items ≤ length l.yielded)
    × Carried (flow_of l.reach) (giver_of l.reach) l.console (reverse (take (length l.yielded) (reverse l.sequence.commands.now))) l.kept.items l.sources
