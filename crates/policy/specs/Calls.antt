-- What each call makes of a board: one that is refused leaves it as it is.
use Rattle.std.specs.Prelude.{ℕ, is_ok, cond}
use Rattle.theory.specs.Boards.{BoardValue}
use Rattle.theory.specs.Flows.{bare_flows, no_lockout, with_flow, without_flow, with_lock, without_lock}
use Rattle.policy.specs.Flows.{allow_answer, forbid_answer}
use Rattle.policy.specs.Lockouts.{lock_answer}

-- each console's flow to itself, and no lockout
abbrev pub bare_board : ℕ → ℕ → BoardValue
bare_board consoles commands = record { consoles = consoles; commands = commands; flows = bare_flows consoles; locked = no_lockout }

abbrev pub after_allow : BoardValue → ℕ → ℕ → BoardValue
after_allow b from to = cond (is_ok (allow_answer b.consoles from to)) (record b { flows = with_flow b.flows from to }) b

abbrev pub after_forbid : BoardValue → ℕ → ℕ → BoardValue
after_forbid b from to = cond (is_ok (forbid_answer b.consoles from to)) (record b { flows = without_flow b.flows from to }) b

abbrev pub after_lock : BoardValue → ℕ → BoardValue
after_lock b command = cond (is_ok (lock_answer b.commands command)) (record b { locked = with_lock b.locked command }) b

abbrev pub after_unlock : BoardValue → ℕ → BoardValue
after_unlock b command = cond (is_ok (lock_answer b.commands command)) (record b { locked = without_lock b.locked command }) b
