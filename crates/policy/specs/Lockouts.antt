-- The lockouts in force, and what the calls on them answer.
use Rattle.std.specs.Prelude.{ℕ, cond, Ok, Err, Result, nat_lt}
use Rattle.theory.specs.Flows.{Lockout}
use Rattle.policy.specs.Members.{holds}
use Rattle.policy.specs.declared.lockouts.Lockouts.{Lockouts}
use Rattle.policy.specs.declared.refusal.Refusal.{Refusal}
use Rattle.policy.specs.declared.refusal.Refusal.TheVariants.{NoSuchCommand}

abbrev pub commands_of : Lockouts → ℕ
commands_of l = l.commands

-- the command is locked
abbrev pub locks : Lockouts → Lockout
locks l = holds l.locked

-- of lock and of unlock
abbrev pub lock_answer : ℕ → ℕ → Result (Unit {0}) Refusal
lock_answer commands command = cond (nat_lt command commands) (Ok tt) (Err NoSuchCommand)
