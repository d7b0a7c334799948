-- The plan of a sheet: which rows are due, one line each, before the flows.
use Rattle.std.specs.Prelude.{ℕ, zero, suc, ◌+◌, ◌*◌, ◌/◌, ◌%◌, List, [], ◌∷◌, ◌++◌, codes}

-- f of the n numbers from i on
abbrev pub tabulate : {A : Type 0} → ℕ → ℕ → (ℕ → A) → List A
tabulate i zero f = []
tabulate i (suc n) f = f i ∷ tabulate (i + 1) n f

-- A row that is due: the names that head block b, the console of command c, the step of command
-- c at state s, what console u shows at state s.
pub data Row : Type 0 where
  title : ℕ → List (List ℕ) → Row
  owner : ℕ → Row
  step : ℕ → ℕ → Row
  shown : ℕ → ℕ → Row

abbrev pub block_of : Row → ℕ
block_of (title b ws) = b
block_of (owner c) = 2
block_of (step s c) = 3
block_of (shown s u) = 4

abbrev pub counts_title : Row
counts_title = title 1 (codes "states" ∷ (codes "commands" ∷ (codes "consoles" ∷ (codes "start" ∷ (codes "display" ∷ [])))))

abbrev pub owners_title : Row
owners_title = title 2 (codes "command" ∷ (codes "console" ∷ []))

abbrev pub steps_title : Row
steps_title = title 3 (codes "state" ∷ (codes "command" ∷ (codes "next" ∷ [])))

abbrev pub displays_title : Row
displays_title = title 4 (codes "state" ∷ (codes "console" ∷ (codes "display" ∷ [])))

abbrev pub flows_title : Row
flows_title = title 5 (codes "from" ∷ (codes "to" ∷ []))

-- After the counts: blocks 2 to 4 with every row, ascending, and the names of block 5.
abbrev pub plan : ℕ → ℕ → ℕ → List Row
plan states commands consoles =
    owners_title ∷ (tabulate 0 commands owner
    ++ (steps_title ∷ (tabulate 0 (states * commands) (λ r. step (r / commands) (r % commands))
    ++ (displays_title ∷ (tabulate 0 (states * consoles) (λ r. shown (r / consoles) (r % consoles))
    ++ (flows_title ∷ []))))))
