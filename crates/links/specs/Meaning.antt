-- What a meaning is: when two sequences are alike for a console, and four questions on consoles.
use Rattle.std.specs.Prelude.{ℕ, Bool, List}
use Rattle.theory.specs.Flows.{Flow}

-- All answers are for a console u. `alike` is told the flows, the console of each command, u
-- and two sequences of any length; the questions are told the flows and console numbers only.
pub record MeaningValue : Type 0 where
  pub alike : Flow → (ℕ → ℕ) → ℕ → List ℕ → List ℕ → Bool
  -- may a command of v be dropped for u
  pub drop : Flow → ℕ → ℕ → Bool
  -- may a command of z come after that drop (u, v, z)
  pub after_drop : Flow → ℕ → ℕ → ℕ → Bool
  -- may two neighbours, of v and of w, change places for u (u, v, w)
  pub exchange : Flow → ℕ → ℕ → ℕ → Bool
  -- may a command of z come after that exchange (u, v, w, z)
  pub after_exchange : Flow → ℕ → ℕ → ℕ → ℕ → Bool
