-- The pieces of the numbers below `n` stand behind the text before.
use Rattle.std.proofs.Common.{◌≡◌, ℕ, List, ◌++◌}
use Rattle.std.specs.Prelude.{string_bytes}
use Rattle.report.specs.Lines.{Pushes, upto}
use Rattle.report.proofs.readback.push_each.Given as goal

abbrev pub invariant-loop-n : goal.invariant-loop-n
invariant-loop-n g l =
    goal.F-IsAlwaysCallable g l.piece
    × ((said : ℕ → List ℕ) → Pushes (goal.F-post g l.piece) said l.count → string_bytes l.text ≡ string_bytes l.initial.text ++ upto said l.n)
