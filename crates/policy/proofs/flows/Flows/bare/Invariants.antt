-- The rows that are filled so far say the self flows of their consoles, and no other flow.
use Rattle.std.proofs.Common.{◌≡◌, ℕ, length}
use Rattle.theory.specs.Flows.{bare_flows}
use Rattle.policy.specs.Rows.{affects}
use Rattle.policy.proofs.flows.Flows.bare.Given as goal

-- the consoles passed so far have their flow to themselves, and there is no other flow
abbrev pub invariant-loop-u : goal.invariant-loop-u
invariant-loop-u l = (length l.rows ≡ 12) × ((u v : ℕ) → affects l.rows u v ≡ bare_flows l.u u v)
