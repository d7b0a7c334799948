-- A bare list of flows, one console after the other.
use Rattle.std.proofs.Common.{◌≡◌, ℕ, ◌+◌, ◌<◌, ◌≤◌, true, ◌&&◌, eqb, ltb, List, length, get_or, set, ap, ◌∙◌, ⊎_elim, arith, get_or-set_other, get_or-set_same}
use Rattle.std.proofs.lemmas.Bool.{cases_eq}
use Rattle.std.proofs.lemmas.Bool.Decides.{nat_tests}
use Rattle.theory.specs.Flows.{bare_flows}
use Rattle.policy.specs.Members.{holds}
use Rattle.policy.specs.Rows.{affects, nobody}
use Rattle.policy.specs.declared.members.Members.{Members}

pub bare_itself : (n u : ℕ) → u < n → bare_flows n u u ≡ true
bare_itself n u h = grind (arith, nat_tests)

pub has_room : (j n : ℕ) → n < 32 → (eqb j n && ltb j 32) ≡ eqb j n
has_room j n h = grind (arith, nat_tests)

-- console n, which the set m holds alone, comes after those below it
pub bare_more : (rows : List Members) (m : Members) (n : ℕ) → n < length rows → ((j : ℕ) → holds m j ≡ eqb j n)
    → ((u v : ℕ) → affects rows u v ≡ bare_flows n u v) → (u v : ℕ) → affects (set rows n m) u v ≡ bare_flows (n + 1) u v
bare_more rows m n inside alone before u v = ⊎_elim here elsewhere (cases_eq u n)
  where
    here : u ≡ n → affects (set rows n m) u v ≡ bare_flows (n + 1) u v
    here e = ap (λ k. holds (get_or (set rows n m) k nobody) v) e ∙ ap (λ s. holds s v) (get_or-set_same rows n m nobody inside) ∙ alone v ∙ grind (arith, nat_tests)

    elsewhere : (u ≡ n → ⊥) → affects (set rows n m) u v ≡ bare_flows (n + 1) u v
    elsewhere ne = ap (λ s. holds s v) (get_or-set_other rows n u m nobody ne) ∙ before u v ∙ grind (arith, nat_tests)

pub bare_within : (n consoles u v : ℕ) → n ≤ consoles → bare_flows n u v ≡ true → (u < consoles) × (v < consoles)
bare_within n consoles u v h e = grind (arith, nat_tests)
