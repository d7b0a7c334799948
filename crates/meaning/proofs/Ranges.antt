-- The range check of a list, as a fact of each of its numbers.
use Rattle.std.proofs.Common.{◌≡◌, ℕ, suc, ◌<◌, true, ltb, List, [], ◌∷◌, length, get_or, refl, arith}
use Rattle.std.proofs.lemmas.Bool.{lt-ltb, ltb-true, and_parts, and_from}
use Rattle.links.proofs.Sequences.{Below}
use Rattle.theory.specs.Runs.{all_below}

pub below_each : (n : ℕ) (p : List ℕ) → all_below n p ≡ true → Below n p
below_each n [] e = tt
below_each n (c ∷ p) e = let parts = and_parts (ltb c n) (all_below n p) e in (ltb-true c n parts.0, below_each n p parts.1)

pub each_below : (n : ℕ) (p : List ℕ) → ((i : ℕ) → i < length p → get_or p i 0 < n) → all_below n p ≡ true
each_below n [] below = refl
each_below n (c ∷ p) below = and_from (ltb c n) (all_below n p) (lt-ltb c n (below 0 (omega arith))) (each_below n p (λ i h. below (suc i) (omega arith)))
