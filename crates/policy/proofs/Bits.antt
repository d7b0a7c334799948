-- The bits of a power of two and of a complement, and one number more, and one number less, in a set with room for the numbers below 32.
use Rattle.std.proofs.Common.{◌≡◌, ℕ, zero, suc, ◌+◌, ◌-◌, ◌*◌, ◌/◌, ◌%◌, ◌^◌, ◌<◌, ◌≤◌, not, ◌&&◌, ◌||◌, eqb, ltb, ◌⊎◌, sym, ap, ◌∙◌, inl, inr, ⊎_elim, pow-suc, arith}
use Rattle.std.specs.Int.{bit_at, w32}
use lib.Bits.{bit_and, bit_or}
use Rattle.std.proofs.lemmas.Nat.{pow-add, shl-shr}
use Rattle.std.proofs.lemmas.Nat.Bits.{bit_at_lowest, bit_at-suc, bit_at-lt, bit_at_set_same, bit_at_set_other, bit_at_clear_same, bit_at_clear_other}
use Rattle.std.proofs.lemmas.Bool.{cases_eq}
use Rattle.std.proofs.lemmas.Bool.Decides.{nat_tests}
use Rattle.policy.specs.Members.{bit}

even_or_odd : (n : ℕ) → (n % 2 ≡ 0) ⊎ (n % 2 ≡ 1)
even_or_odd n = ⊎_elim inl (λ ne. inr (omega arith)) (cases_eq (n % 2) 0)

-- a power of two, seen from a lower bit
pow_shr : (k j : ℕ) → j ≤ k → 2 ^ k / 2 ^ j ≡ 2 ^ (k - j)
pow_shr k j h =
    let whole : (k - j) + j ≡ k = omega arith in
    ap (λ n. 2 ^ n / 2 ^ j) (sym whole) ∙ ap (λ n. n / 2 ^ j) (pow-add 2 (k - j) j) ∙ shl-shr (2 ^ (k - j)) j

-- of the numbers below 2 ^ w, the one that y leaves over, seen bit by bit
left_over : (w y j : ℕ) → y < 2 ^ w → j < w → bit_at (2 ^ w - 1 - y) j ≡ 1 - bit_at y j
left_over zero y j small within = absurd (omega arith)
left_over (suc w) y zero small within = omega (arith, bit_at_lowest (2 ^ suc w - 1 - y), bit_at_lowest y, pow-suc 2 w)
left_over (suc w) y (suc j) small within =
    let half : (2 ^ suc w - 1 - y) / 2 ≡ 2 ^ w - 1 - y / 2 = omega (arith, pow-suc 2 w) in
    bit_at-suc _ j ∙ ap (λ x. bit_at x j) half ∙ left_over w (y / 2) j (omega (arith, pow-suc 2 w)) (omega arith) ∙ ap (λ b. 1 - b) (sym (bit_at-suc y j))

-- and it has the other answer at each bit
pub bit_complement : (w y j : ℕ) → y < 2 ^ w → j < w → bit (2 ^ w - 1 - y) j ≡ not (bit y j)
bit_complement w y j small within = grind (arith, nat_tests, left_over w y j small within, bit_at-lt y j)

pub set_with : (a k j : ℕ) → k < 32 → (ltb j 32 && bit (bit_or a ((1 * 2 ^ k) % 2 ^ 32)) j) ≡ ((ltb j 32 && bit a j) || (eqb j k && ltb j 32))
set_with a k j h = ⊎_elim
    (λ (same : j ≡ k). grind (arith, nat_tests, bit_at_set_same w32 a k h))
    (λ other. grind (arith, nat_tests, bit_at_set_other w32 a k h j other))
    (cases_eq j k)

pub set_without : (a k j : ℕ) → k < 32 → (ltb j 32 && bit (bit_and a (2 ^ 32 - 1 - (1 * 2 ^ k) % 2 ^ 32)) j) ≡ ((ltb j 32 && bit a j) && not (eqb j k))
set_without a k j h = ⊎_elim
    (λ (same : j ≡ k). grind (arith, nat_tests, bit_at_clear_same w32 a k h))
    (λ other. grind (arith, nat_tests, bit_at_clear_other w32 a k h))
    (cases_eq j k)
