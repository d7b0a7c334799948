-- For rows that are filled set by set: the set just written or pushed, and the others.
use Rattle.std.proofs.Common.{◌≡◌, ℕ, ◌+◌, ◌<◌, ◌≤◌, List, [], ◌∷◌, ◌++◌, length, get_or, set as set_at, ⊎_elim, arith, get_or-set_other, get_or-set_same}
use Rattle.std.proofs.lemmas.Bool.{cases_eq}
use Rattle.std.proofs.lemmas.List.{get_or_append_left, get_or_push}
use Rattle.policy.specs.Rows.{nobody}
use Rattle.policy.specs.declared.members.Members.{Members}

pub row_none : (P : ℕ → Members → Type 0) (row : List Members) → P 0 (get_or row 0 nobody) → (k : ℕ) → k ≤ 0 → P k (get_or row k nobody)
row_none P row first k none = let start : k ≡ 0 = omega arith in rw start first

-- one more set of a row is right
pub row_more : (P : ℕ → Members → Type 0) (row : List Members) (j : ℕ) (set : Members) → j + 1 < length row → ((k : ℕ) → k ≤ j → P k (get_or row k nobody)) → P (j + 1) set
    → (k : ℕ) → k ≤ j + 1 → P k (get_or (set_at row (j + 1) set) k nobody)
row_more P row j set inside before now k within = ⊎_elim
    (λ (same : k ≡ j + 1). rw (same, get_or-set_same row (j + 1) set nobody inside) now)
    (λ (apart : k ≡ j + 1 → ⊥). rw (get_or-set_other row (j + 1) k set nobody apart) (before k (omega arith)))
    (cases_eq k (j + 1))

-- and so where it is pushed behind the others
pub row_pushed : (P : ℕ → Members → Type 0) (row : List Members) (j : ℕ) (set : Members) → length row ≡ j + 1 → ((k : ℕ) → k ≤ j → P k (get_or row k nobody)) → P (j + 1) set
    → (k : ℕ) → k ≤ j + 1 → P k (get_or (row ++ set ∷ []) k nobody)
row_pushed P row j set long before now k within = ⊎_elim
    (λ (same : k ≡ j + 1). rw (same, get_or_push row set nobody (j + 1) long) now)
    (λ (apart : k ≡ j + 1 → ⊥). rw (get_or_append_left row (set ∷ []) nobody k (omega (arith, long, apart))) (before k (omega arith)))
    (cases_eq k (j + 1))
