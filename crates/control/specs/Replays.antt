-- What replay answers, and the two checks before it.
use Rattle.std.specs.Prelude.{ℕ, Bool, cond, ◌&&◌, List, Ok, Err, Result, ◌==◌}
use Rattle.policy.specs.declared.refusal.Refusal.{Refusal}
use Rattle.policy.specs.declared.refusal.Refusal.TheVariants.{NoSuchCommand, CountsDiffer}
use Rattle.theory.specs.Boards.{BoardValue}
use Rattle.theory.specs.Control.{ControlValue, next_of}
use Rattle.theory.specs.Runs.{all_below, leads}

-- a control has a board's numbers of consoles and commands
abbrev pub same_counts : {D : Type 0} → BoardValue → ControlValue D → Bool
same_counts b v = v.consoles == b.consoles && v.commands == b.commands

abbrev pub commands_answer : ℕ → List ℕ → Result (Unit {0}) Refusal
commands_answer commands p = cond (all_below commands p) (Ok tt) (Err NoSuchCommand)

abbrev pub counts_answer : {D : Type 0} → BoardValue → ControlValue D → Result (Unit {0}) Refusal
counts_answer b v = cond (same_counts b v) (Ok tt) (Err CountsDiffer)

-- the last state, under the board's lockouts
abbrev pub replay_answer : {D : Type 0} → BoardValue → ControlValue D → List ℕ → Result ℕ Refusal
replay_answer b v p =
    cond (all_below b.commands p) (cond (same_counts b v) (Ok (leads (next_of v) b.locked v.start p)) (Err CountsDiffer)) (Err NoSuchCommand)
