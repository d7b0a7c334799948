-- What a board says: its counts, its flows and its lockouts, whatever it is made of.
use Rattle.std.specs.Prelude.{ℕ}
use Rattle.theory.specs.Flows.{Flow, Lockout}

pub record BoardValue : Type 0 where
  pub consoles : ℕ
  pub commands : ℕ
  pub flows : Flow
  pub locked : Lockout
