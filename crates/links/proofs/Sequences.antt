-- For facts of each element of a sequence, and tests of numbers and of some element.
use Rattle.std.proofs.Common.{◌≡◌, ℕ, Bool, true, false, List, [], ◌∷◌, sym, ap, ◌∙◌, inl, inr}
use Rattle.std.proofs.lemmas.Bool.{true≢false, false≢true, or_cases, or_parts}
use Rattle.std.proofs.lemmas.List.Elements.{All-from_recursion}
use Rattle.std.proofs.lemmas.List.Folds.{list_any_none}
use Rattle.links.specs.Sequences.{Every, some_of}
-- for the crates above, which name it here
pub use Rattle.links.specs.Sequences.{Below}

-- numbers that a test answers differently differ
pub differ_by_test : (f : ℕ → Bool) {v w : ℕ} → f v ≡ true → f w ≡ false → v ≡ w → ⊥
differ_by_test f passes fails same = true≢false (sym passes ∙ ap f same ∙ fails)

pub all_given : {P : ℕ → Type 0} → ((x : ℕ) → P x) → (xs : List ℕ) → Every P xs
all_given f [] = tt
all_given f (x ∷ xs) = (f x, all_given f xs)

pub all_with : {P Q R : ℕ → Type 0} → ((x : ℕ) → P x → Q x → R x) → (xs : List ℕ) → Every P xs → Every Q xs → Every R xs
all_with f [] ps qs = tt
all_with f (x ∷ xs) ps qs = (f x ps.0 qs.0, all_with f xs ps.1 qs.1)

pub all_map : {P Q : ℕ → Type 0} → ((x : ℕ) → P x → Q x) → (xs : List ℕ) → Every P xs → Every Q xs
all_map f xs ps = all_with (λ x p _. f x p) xs ps ps

-- where no element passes, each fails
pub none_passes : (f : ℕ → Bool) (xs : List ℕ) → some_of f xs ≡ false → Every (λ x. f x ≡ false) xs
none_passes f [] e = tt
none_passes f (x ∷ xs) e = let parts = or_parts (f x) (some_of f xs) e in (parts.0, none_passes f xs parts.1)

pub all_fail : (f : ℕ → Bool) (xs : List ℕ) → Every (λ x. f x ≡ false) xs → some_of f xs ≡ false
all_fail f xs h = list_any_none f xs (All-from_recursion (λ x. f x ≡ false) xs h)

-- where some element passes, one does, and what holds of each holds of it
pub one_passes : {P : ℕ → Type 0} (f : ℕ → Bool) (xs : List ℕ) → some_of f xs ≡ true → Every P xs → (x : ℕ) × (f x ≡ true) × P x
one_passes f [] e h = absurd (false≢true e)
one_passes f (x ∷ xs) e h = elim (or_cases (f x) (some_of f xs) e) [ inl here ↦ (x, here, h.0) | inr on ↦ one_passes f xs on h.1 ]
