-- P, the plain purge: what is left of a sequence for a console.
use Rattle.std.specs.Prelude.{ℕ, List}
use Rattle.std.specs.List.{filter}
use Rattle.theory.specs.Flows.{Flow}

-- keeps the commands whose consoles may affect u
abbrev pub purge : Flow → (ℕ → ℕ) → ℕ → List ℕ → List ℕ
purge F owner u p = filter (λ a. F (owner a) u) p
