-- TA, the order-aware meaning: what a console may have been told of a sequence, and in which order.
use Rattle.std.specs.Prelude.{ℕ, Bool, true, false, cond, ◌&&◌, List, ◌==◌}
use Rattle.std.specs.List.{fold}
use Rattle.theory.specs.Flows.{Flow}

-- nothing yet; or what the console knew before, what the giver of a command knew, and the command
pub data Told : Type 0 where
  nothing : Told
  told : Told → Told → ℕ → Told

-- what each console knows after one more command: the ones that its giver may affect are told
-- of it and of all that the giver knew, the others are told nothing
abbrev pub hears : Flow → (ℕ → ℕ) → (ℕ → Told) → ℕ → (ℕ → Told)
hears F owner knows a u = cond (F (owner a) u) (told (knows u) (knows (owner a)) a) (knows u)

-- what each console knows after a sequence, from what each knew before it
abbrev pub hears_all : Flow → (ℕ → ℕ) → (ℕ → Told) → List ℕ → (ℕ → Told)
hears_all F owner knows p = fold (hears F owner) knows p

-- The field's ta: at first no console knows anything. How it grows with the last command of a
-- sequence is said by `TaGrows`.
abbrev pub ta : Flow → (ℕ → ℕ) → ℕ → List ℕ → Told
ta F owner u p = hears_all F owner (λ _. nothing) p u

abbrev pub same_told : Told → Told → Bool
same_told nothing nothing = true
same_told nothing (told f g b) = false
same_told (told d e a) nothing = false
same_told (told d e a) (told f g b) = a == b && (same_told d f && same_told e g)
