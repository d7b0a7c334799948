-- The flows in force, and what the calls on them answer.
use Rattle.std.specs.Prelude.{ℕ, cond, ◌&&◌, Ok, Err, Result, ◌==◌, nat_lt}
use Rattle.theory.specs.Flows.{Flow}
use Rattle.policy.specs.Rows.{affects}
use Rattle.policy.specs.declared.flows.Flows.{Flows}
use Rattle.policy.specs.declared.refusal.Refusal.{Refusal}
use Rattle.policy.specs.declared.refusal.Refusal.TheVariants.{NoSuchConsole, SelfFlow}

abbrev pub consoles_of : Flows → ℕ
consoles_of f = f.consoles

-- u may affect v
abbrev pub may_affect : Flows → Flow
may_affect f = affects f.rows

abbrev pub allow_answer : ℕ → ℕ → ℕ → Result (Unit {0}) Refusal
allow_answer consoles from to = cond (nat_lt from consoles && nat_lt to consoles) (Ok tt) (Err NoSuchConsole)

abbrev pub forbid_answer : ℕ → ℕ → ℕ → Result (Unit {0}) Refusal
forbid_answer consoles from to = cond (nat_lt from consoles && nat_lt to consoles) (cond (from == to) (Err SelfFlow) (Ok tt)) (Err NoSuchConsole)
