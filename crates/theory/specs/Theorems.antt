-- What holds of every run, in the subject's own words.
use Rattle.std.specs.Prelude.{◌≡◌, ℕ, ◌+◌, ◌-◌, ◌*◌, ◌<◌, true, not, List, ◌++◌, map, nat_lt}
use Rattle.std.specs.List.{filter}
use Rattle.theory.specs.Flows.{Lockout, no_lockout}
use Rattle.theory.specs.Control.{ControlValue, Lawful, next_of, product}
use Rattle.theory.specs.Runs.{all_below, leads}

-- a sequence followed by another leads where the other leads from the end of the first
abbrev pub RunsJoin : Type 0
RunsJoin = (step : ℕ → ℕ → ℕ) (L : Lockout) (s : ℕ) (p q : List ℕ) → leads step L s (p ++ q) ≡ leads step L (leads step L s p) q

-- the commands of a sequence that are not locked
abbrev pub unlocked : Lockout → List ℕ → List ℕ
unlocked L p = filter (λ c. not (L c)) p

-- a sequence under lockouts leads where it leads without the locked commands and any lockout
abbrev pub LockedCommandsMoveNothing : Type 0
LockedCommandsMoveNothing = (step : ℕ → ℕ → ℕ) (L : Lockout) (s : ℕ) (p : List ℕ) → leads step L s p ≡ leads step no_lockout s (unlocked L p)

-- of a pair whose left side has m commands: the commands of the left side, and of the right
abbrev pub left_commands : ℕ → List ℕ → List ℕ
left_commands m p = filter (λ c. nat_lt c m) p

abbrev pub right_commands : ℕ → List ℕ → List ℕ
right_commands m p = map (λ c. c - m) (filter (λ c. not (nat_lt c m)) p)

-- Two controls side by side run apart: each side goes where its own commands lead it, whatever
-- the other side is given.
abbrev pub SidesRunApart : Type 0 → Type 0
SidesRunApart D = (a b : ControlValue D) (L : Lockout) → Lawful a → Lawful b → (s t : ℕ) → s < a.states → t < b.states → (p : List ℕ) → all_below (a.commands + b.commands) p ≡ true
    → leads (next_of (product a b)) L (s * b.states + t) p
    ≡ leads (next_of a) L s (left_commands a.commands p) * b.states + leads (next_of b) (λ c. L (a.commands + c)) t (right_commands a.commands p)
