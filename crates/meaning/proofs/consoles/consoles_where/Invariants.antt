-- The consoles passed so far are in the set where they pass the test, and no other is.
use Rattle.std.proofs.Common.{◌≡◌, ℕ, ◌<◌, ◌≤◌, false}
use Rattle.policy.specs.Members.{holds}
use Rattle.meaning.proofs.consoles.consoles_where.Given as goal

abbrev pub invariant-loop-console : goal.invariant-loop-console
invariant-loop-console g l =
    goal.F-IsAlwaysCallable g l.test
    × (((x : ℕ) → x < l.console → goal.F-post g l.test x (holds l.passing x)) × ((x : ℕ) → l.console ≤ x → holds l.passing x ≡ false))
