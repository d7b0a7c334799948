-- Where a sequence of commands leads, over steps, lockouts and a state alone.
use Rattle.std.specs.Prelude.{ℕ, Bool, cond, List, nat_lt}
use Rattle.std.specs.List.{list_all, fold}
use Rattle.theory.specs.Flows.{Lockout}

-- each number of the list is below n
abbrev pub all_below : ℕ → List ℕ → Bool
all_below n p = list_all (λ c. nat_lt c n) p

-- one command given: a locked one leaves the state
abbrev pub moved : (ℕ → ℕ → ℕ) → Lockout → ℕ → ℕ → ℕ
moved step L s c = cond (L c) s (step s c)

abbrev pub leads : (ℕ → ℕ → ℕ) → Lockout → ℕ → List ℕ → ℕ
leads step L s p = fold (moved step L) s p
