-- IP, the intransitive purge: a command is kept where what follows can still carry it to the console.
use Rattle.std.specs.Prelude.{ℕ, cond, List, [], ◌∷◌, nat_eq}
use Rattle.theory.specs.Flows.{Flow}
use Rattle.links.specs.Sequences.{some_of}

-- the consoles from which something may reach u along the sequence: u itself, and the console
-- of each command that may affect one of those that come from what follows
abbrev pub sources : Flow → (ℕ → ℕ) → ℕ → List ℕ → List ℕ
sources F owner u [] = u ∷ []
sources F owner u (a ∷ r) = cond (some_of (F (owner a)) (sources F owner u r)) (owner a ∷ sources F owner u r) (sources F owner u r)

-- keeps a command before r where its console is among the sources of the command and r
abbrev pub intransitive_purge : Flow → (ℕ → ℕ) → ℕ → List ℕ → List ℕ
intransitive_purge F owner u [] = []
intransitive_purge F owner u (a ∷ r) =
    cond (some_of (nat_eq (owner a)) (sources F owner u (a ∷ r))) (a ∷ intransitive_purge F owner u r) (intransitive_purge F owner u r)
