-- What a table over a lent store is as a control.
use Rattle.std.specs.Prelude.{ℕ, ◌+◌, ◌*◌, Bool, ◌&&◌, List, map, nat_le, slice_index, slice_index_or}
use Rattle.std.proofs.Common.{arith}
use Rattle.theory.specs.Limits.{most_states, most_commands, most_consoles, count_read, number_read}
use Rattle.theory.specs.Control.{ControlValue, Lawful}
use Rattle.theory.specs.Reading.{count_read_counts, number_read_below}
use Rattle.control.specs.declared.table.Counts.{Counts}
use Rattle.control.specs.declared.table.Store.{Store}
use Rattle.control.specs.declared.table.Table.{Table}

-- what a table is made of: counts, start and store as they were handed in
pub record Contents (C : Type 0) : Type 0 where
  pub states : ℕ
  pub commands : ℕ
  pub consoles : ℕ
  pub start : ℕ
  pub steps : List ℕ
  pub owners : List ℕ
  pub displays : List C

abbrev pub contents : {C : Type 0} → Counts → ℕ → Store C → Contents C
contents counts start store = record {
  states = counts.states;
  commands = counts.commands;
  consoles = counts.consoles;
  start = start;
  steps = store.steps.now;
  owners = store.owners.now;
  displays = store.displays.now;
}

abbrev pub contents_of : {D C : Type 0} → Table D C → Contents C
contents_of t = contents t.counts t.start t.store

-- a store has room for every control within the limits
abbrev pub store_suffices : ℕ → ℕ → ℕ → Bool
store_suffices steps owners displays = nat_le (most_states * most_commands) steps && (nat_le most_commands owners && nat_le (most_states * most_consoles) displays)

-- A count out of range is read as 1 and anything else out of range as 0. Steps stand at state
-- times commands plus command, displays at state times consoles plus console. `stored` says
-- what an entry of the display store is read as, `zero` what one that is not there is.
abbrev pub table_value : {C D : Type 0} → (C → D) → D → Contents C → ControlValue D
table_value stored zero t =
    let states : ℕ = count_read most_states t.states in
    let commands : ℕ = count_read most_commands t.commands in
    let consoles : ℕ = count_read most_consoles t.consoles in
    record {
      states = states;
      commands = commands;
      consoles = consoles;
      start = number_read states t.start;
      owner = λ c. number_read consoles (slice_index t.owners c);
      step = λ s c. number_read states (slice_index t.steps (s * commands + c));
      shows = λ s u. slice_index_or (map stored t.displays) (s * consoles + u) zero;
    }

pub table_lawful : {C D : Type 0} (stored : C → D) (zero : D) (t : Contents C) → Lawful (table_value stored zero t)
table_lawful stored zero t =
    let states = count_read_counts most_states t.states (omega arith) in
    let consoles = count_read_counts most_consoles t.consoles (omega arith) in
    record {
      states_count = states;
      commands_count = count_read_counts most_commands t.commands (omega arith);
      consoles_count = consoles;
      starts = number_read_below _ t.start states.0;
      owned = λ c h. number_read_below _ (slice_index t.owners c) consoles.0;
      stays = λ s c h k. number_read_below _ (slice_index t.steps (s * count_read most_commands t.commands + c)) states.0;
    }
