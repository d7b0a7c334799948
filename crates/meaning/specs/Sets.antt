-- Which list a set of consoles stands for.
use Rattle.std.specs.Prelude.{◌≡◌, ℕ, cond, List, ◌∷◌, nat_eq}
use Rattle.theory.specs.Flows.{Flow}
use Rattle.policy.specs.Members.{holds}
use Rattle.policy.specs.declared.members.Members.{Members}
use Rattle.links.specs.Sequences.{some_of}

-- the set holds the consoles of the list, and no other
abbrev pub SetOf : List ℕ → Members → Type 0
SetOf s set = (x : ℕ) → holds set x ≡ some_of (nat_eq x) s

-- the sources s with w in front, where it may affect one of them
abbrev pub source_added : Flow → ℕ → List ℕ → List ℕ
source_added F w s = cond (some_of (F w) s) (w ∷ s) s
