-- The answers of the three meanings, stated as equality of what each leaves of a sequence.
use Rattle.std.specs.Prelude.{◌≡◌, ◌↔◌, ℕ, true, List}
use Rattle.theory.specs.Flows.{Flow}
use Rattle.links.specs.Meaning.{MeaningValue}

-- Two sequences are alike exactly when the same is left of both. `left` is what the meaning
-- leaves of a sequence for a console.
abbrev pub AlikeWhereEqual : {A : Type 0} → MeaningValue → (Flow → (ℕ → ℕ) → ℕ → List ℕ → A) → Type 0
AlikeWhereEqual m left = (F : Flow) (owner : ℕ → ℕ) (u : ℕ) (p q : List ℕ) → (m.alike F owner u p q ≡ true) ↔ (left F owner u p ≡ left F owner u q)
