-- Links: the smallest changes of a sequence that a meaning permits for a console.
use Rattle.std.specs.Prelude.{◌≡◌, ℕ, ◌<◌, true, List, ◌∷◌}
use Rattle.theory.specs.Flows.{Flow}
use Rattle.links.specs.Sequences.{Every}
use Rattle.links.specs.Meaning.{MeaningValue}

-- One link apart, for the commands below n: the second lacks one command that may be dropped, or
-- has two neighbours exchanged that may be, and every command after the place passes.
pub data Link (m : MeaningValue) (n : ℕ) (F : Flow) (owner : ℕ → ℕ) (u : ℕ) : List ℕ → List ℕ → Type 0 where
  drops : (a : ℕ) (r : List ℕ) → a < n → m.drop F u (owner a) ≡ true
      → Every (λ c. m.after_drop F u (owner a) (owner c) ≡ true) r → Link m n F owner u (a ∷ r) r
  exchanges : (a b : ℕ) (r : List ℕ) → m.exchange F u (owner a) (owner b) ≡ true
      → Every (λ c. m.after_exchange F u (owner a) (owner b) (owner c) ≡ true) r → Link m n F owner u (a ∷ (b ∷ r)) (b ∷ (a ∷ r))
  later : (c : ℕ) {p q : List ℕ} → Link m n F owner u p q → Link m n F owner u (c ∷ p) (c ∷ q)

-- finitely many links lead from one to the other, each taken one way or the other
pub data Linked (m : MeaningValue) (n : ℕ) (F : Flow) (owner : ℕ → ℕ) (u : ℕ) : List ℕ → List ℕ → Type 0 where
  done : {p : List ℕ} → Linked m n F owner u p p
  there : {p q r : List ℕ} → Link m n F owner u p q → Linked m n F owner u q r → Linked m n F owner u p r
  back : {p q r : List ℕ} → Link m n F owner u q p → Linked m n F owner u q r → Linked m n F owner u p r
