-- What a control is: a receiver whose consoles give commands and see displays.
use Rattle.std.specs.Prelude.{ℕ, ◌+◌, ◌-◌, ◌*◌, ◌/◌, ◌%◌, ◌<◌, Bool, cond, ◌&&◌, nat_le, nat_lt}
use Rattle.theory.specs.Limits.{Count, most_states, most_commands, most_consoles, number_read}

-- States, commands and consoles are numbered from 0. `owner` gives the console of a command,
-- `step` the state to which a command takes a state, `shows` what a console shows at a state.
-- D is the kind of display. Only entries in range count: see `next_of` and its neighbours.
pub record ControlValue (D : Type 0) : Type 0 where
  pub states : ℕ
  pub commands : ℕ
  pub consoles : ℕ
  pub start : ℕ
  pub owner : ℕ → ℕ
  pub step : ℕ → ℕ → ℕ
  pub shows : ℕ → ℕ → D

-- the counts keep the limits, and every entry in range is in range
pub record Lawful {D : Type 0} (v : ControlValue D) : Type 0 where
  pub states_count : Count most_states v.states
  pub commands_count : Count most_commands v.commands
  pub consoles_count : Count most_consoles v.consoles
  pub starts : v.start < v.states
  pub owned : (c : ℕ) → c < v.commands → v.owner c < v.consoles
  pub stays : (s c : ℕ) → s < v.states → c < v.commands → v.step s c < v.states

-- the answers of a control for every number handed in: one out of range is read as 0
abbrev pub owner_of : {D : Type 0} → ControlValue D → ℕ → ℕ
owner_of v c = v.owner (number_read v.commands c)

abbrev pub next_of : {D : Type 0} → ControlValue D → ℕ → ℕ → ℕ
next_of v s c = v.step (number_read v.states s) (number_read v.commands c)

abbrev pub display_of : {D : Type 0} → ControlValue D → ℕ → ℕ → D
display_of v s u = v.shows (number_read v.states s) (number_read v.consoles u)

-- Two controls side by side keep the limits: states multiply, commands and consoles add up.
abbrev pub fits : {D : Type 0} → ControlValue D → ControlValue D → Bool
fits a b =
    nat_le (a.states * b.states) most_states
    && (nat_le (a.commands + b.commands) most_commands && nat_le (a.consoles + b.consoles) most_consoles)

-- Side by side: the pair of states s1 and s2 has the number s1 times the right's states plus s2.
-- The right's commands and consoles are numbered behind the left's. Each side moves and shows
-- its own.
abbrev pub product : {D : Type 0} → ControlValue D → ControlValue D → ControlValue D
product a b = record {
  states = a.states * b.states;
  commands = a.commands + b.commands;
  consoles = a.consoles + b.consoles;
  start = a.start * b.states + b.start;
  owner = λ c. cond (nat_lt c a.commands) (a.owner c) (a.consoles + b.owner (c - a.commands));
  step = λ s c. cond (nat_lt c a.commands)
      (a.step (s / b.states) c * b.states + s % b.states)
      (s / b.states * b.states + b.step (s % b.states) (c - a.commands));
  shows = λ s u. cond (nat_lt u a.consoles) (a.shows (s / b.states) u) (b.shows (s % b.states) (u - a.consoles));
}

-- a pair that does not fit is the left control alone
abbrev pub side_by_side : {D : Type 0} → ControlValue D → ControlValue D → ControlValue D
side_by_side a b = cond (fits a b) (product a b) a
