-- A scan of a run from its front, byte by byte: its digits, and a minus before them.
use Rattle.std.proofs.Common.{◌≡◌, ℕ, ◌+◌, ◌-◌, ◌*◌, ◌^◌, ◌<◌, ◌≤◌, Bool, true, not, ◌&&◌, eqb, List, length, get_or, drop, sym, ◌∙◌, pow-suc, add-one, arith}
use Rattle.std.proofs.lemmas.List.{at_drop_more}
use Rattle.std.proofs.lemmas.Bool.Decides.{nat_tests}
use Rattle.mark.specs.Runs.{each, digit}

pub after_minus : (a b : ℕ) (rest : Bool) → a ≡ 45 → (b ≡ 48 → ⊥) → rest ≡ (eqb a 45 && (not (eqb b 48) && rest))
after_minus a b rest p q = grind (arith, nat_tests)

digit_first : (b : ℕ) (rest : Bool) → (digit b && rest) ≡ true → (48 ≤ b) × (b ≤ 57) × (rest ≡ true)
digit_first b rest e = (grind (arith, nat_tests), grind (arith, nat_tests), grind (arith, nat_tests))

pub digit_from : (bs : List ℕ) (i : ℕ) → i < length bs → each digit (drop i bs) ≡ true → (48 ≤ get_or bs i 0) × (get_or bs i 0 ≤ 57) × (each digit (drop (i + 1) bs) ≡ true)
digit_from bs i h e = digit_first (get_or bs i 0) (each digit (drop (i + 1) bs)) (sym (at_drop_more (each digit) bs i 0 h) ∙ e)

pub digit_more : (n i b : ℕ) → n < 10 ^ i → b ≤ 57 → n * 10 + (b - 48) < 10 ^ (i + 1)
digit_more n i b h p = rw (add-one, pow-suc) (omega arith)
