-- There is a set for each prefix so far and each is right; the last one is carried.
use Rattle.std.proofs.Common.{◌≡◌, ℕ, ◌+◌, ◌≤◌, [], length, get_or, take}
use Rattle.policy.specs.Rows.{nobody}
use Rattle.meaning.specs.Agreeing.{AgreeingSet}
use Rattle.meaning.proofs.reach.Reach.first_row.Given as goal

abbrev pub invariant-loop-command : goal.invariant-loop-command
invariant-loop-command l =
    (length l.row.items ≡ l.command-index + 1)
    × AgreeingSet l.self [] (take l.command-index l.right.commands.now) l.agreeing
    × ((k : ℕ) → k ≤ l.command-index → AgreeingSet l.self [] (take k l.right.commands.now) (get_or l.row.items k nobody))
