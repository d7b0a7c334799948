-- When two sequences can be compared at all, and when a purge leaves the same of both.
use Rattle.std.specs.Prelude.{ℕ, Bool, ◌&&◌, List, length, nat_lt}
use Rattle.theory.specs.Flows.{Flow}
use Rattle.theory.specs.Runs.{all_below}
use Rattle.policy.specs.Flows.{consoles_of}
use Rattle.links.specs.Sequences.{same_sequence}
use Rattle.meaning.specs.Asked.{comparable}
use Rattle.meaning.specs.Reach.{flow_of, giver_of}
use Rattle.meaning.specs.declared.reach.Reach.{Reach}

-- for console u: the console, all owners and all commands are there, and neither sequence is too long
abbrev pub both_comparable : Reach → ℕ → List ℕ → List ℕ → Bool
both_comparable r u p q =
    let k : ℕ = consoles_of r.flows.now in
    let n : ℕ = length r.owners.now in
    nat_lt u k && (all_below k r.owners.now && (comparable n p && comparable n q))

-- and the purge, a function of the flows, the commands' consoles, u and a sequence, leaves the same of both
abbrev pub same_purged : (Flow → (ℕ → ℕ) → ℕ → List ℕ → List ℕ) → Reach → ℕ → List ℕ → List ℕ → Bool
same_purged purge r u p q = both_comparable r u p q && same_sequence (purge (flow_of r) (giver_of r) u p) (purge (flow_of r) (giver_of r) u q)
