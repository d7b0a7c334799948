-- How large a control and a board may be, and how a number outside is read.
use Rattle.std.specs.Prelude.{ℕ, ◌≤◌, Bool, cond, ◌&&◌, nat_le, nat_lt}

abbrev pub most_states : ℕ
most_states = 100

abbrev pub most_commands : ℕ
most_commands = 24

abbrev pub most_consoles : ℕ
most_consoles = 12

-- a count is at least 1 and at most `most`
abbrev pub Count : ℕ → ℕ → Type 0
Count most n = (1 ≤ n) × (n ≤ most)

-- the same, as a test
abbrev pub counts : ℕ → ℕ → Bool
counts most n = nat_le 1 n && nat_le n most

-- a count out of range is read as 1
abbrev pub count_read : ℕ → ℕ → ℕ
count_read most n = cond (counts most n) n 1

-- a number of a state, a command or a console that is out of range is read as 0
abbrev pub number_read : ℕ → ℕ → ℕ
number_read count n = cond (nat_lt n count) n 0
