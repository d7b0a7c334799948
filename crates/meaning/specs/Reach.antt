-- The flows among the consoles, and the console that gives each command.
use Rattle.std.specs.Prelude.{ℕ}
use Rattle.theory.specs.Flows.{Flow}
use Rattle.policy.specs.Flows.{may_affect}
use Rattle.meaning.specs.Asked.{owner_in}
use Rattle.meaning.specs.declared.reach.Reach.{Reach}

abbrev pub flow_of : Reach → Flow
flow_of r = may_affect r.flows.now

abbrev pub giver_of : Reach → ℕ → ℕ
giver_of r = owner_in r.owners.now
