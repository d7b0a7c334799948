-- How what a console may have been told grows with the last command of a sequence.
use Rattle.std.specs.Prelude.{◌≡◌, ℕ, cond, List, [], ◌∷◌, ◌++◌}
use Rattle.theory.specs.Flows.{Flow}
use Rattle.links.specs.Transmitted.{nothing, told, ta}

-- Of no command a console is told nothing. A last command a adds, where its console may affect
-- u, what that console had been told and a itself; else it adds nothing.
abbrev pub TaGrows : Type 0
TaGrows = (F : Flow) (owner : ℕ → ℕ) (u : ℕ) (r : List ℕ) (a : ℕ) →
    (ta F owner u [] ≡ nothing)
    × (ta F owner u (r ++ (a ∷ [])) ≡ cond (F (owner a) u) (told (ta F owner u r) (ta F owner (owner a) r) a) (ta F owner u r))
