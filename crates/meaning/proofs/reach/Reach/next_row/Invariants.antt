-- There is a set for each prefix so far, and each is right where those of the row before are; the last one and the one above it are carried.
use Rattle.std.proofs.Common.{◌≡◌, ℕ, ◌+◌, ◌≤◌, List, [], ◌∷◌, ◌++◌, length, get_or, take}
use Rattle.policy.specs.Rows.{nobody}
use Rattle.meaning.specs.Agreeing.{AgreeingSet, RowOf}
use Rattle.meaning.proofs.reach.Reach.next_row.Given as goal

abbrev pub invariant-loop-other : goal.invariant-loop-other
invariant-loop-other l =
    (length l.row.items ≡ length l.yielded + 1)
    × (l.across ≡ get_or l.before (length l.yielded) nobody)
    × ((p : List ℕ) → RowOf l.self p l.right.commands.now l.before → AgreeingSet l.self (p ++ (l.command ∷ [])) (take (length l.yielded) l.right.commands.now) l.beside
    × ((k : ℕ) → k ≤ length l.yielded → AgreeingSet l.self (p ++ (l.command ∷ [])) (take k l.right.commands.now) (get_or l.row.items k nobody)))
