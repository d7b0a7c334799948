-- The decimal text of a number below 100,000 as a mark: how long it is, and that it is kept whole.
use Rattle.std.specs.Prelude.{◌≡◌, ℕ, ◌<◌, ◌≤◌, Bool, true, List, [], ◌∷◌, length, take, decimal, refl}
use Rattle.std.proofs.Common.{arith}
use Rattle.std.proofs.lemmas.Fmt.{decimal_nonempty, digits_decimal, length-decimal-le}
use Rattle.std.proofs.lemmas.List.{take_all}
use Rattle.std.proofs.lemmas.Bool.{and_from, and_parts}
use Rattle.std.proofs.lemmas.Bool.Decides.{nat_tests}
use Rattle.mark.proofs.Decimals.{numerals}
use Rattle.mark.specs.Runs.{each, digit}
use Rattle.display.specs.Marks.{mark_byte}

pub each_weaker : (f g : ℕ → Bool) → ((b : ℕ) → f b ≡ true → g b ≡ true) → (bs : List ℕ) → each f bs ≡ true → each g bs ≡ true
each_weaker f g w [] e = refl
each_weaker f g w (b ∷ bs) e =
    let p = and_parts (f b) (each f bs) e in
    and_from (g b) (each g bs) (w b p.0) (each_weaker f g w bs p.1)

digit_marks : (b : ℕ) → digit b ≡ true → mark_byte b ≡ true
digit_marks b e = grind (arith, nat_tests)

module _ (n : ℕ) (h : n < 100000) where
  pub decimal_marks : each mark_byte (decimal n) ≡ true
  decimal_marks = each_weaker digit mark_byte digit_marks (decimal n) (digits_decimal numerals n (omega arith))

  pub decimal_length : (1 ≤ length (decimal n)) × (length (decimal n) ≤ 5)
  decimal_length = (decimal_nonempty n (omega arith), length-decimal-le 5 n (omega arith) (omega arith) (omega arith))

  pub decimal_whole : take 8 (decimal n) ≡ decimal n
  decimal_whole = take_all 8 (decimal n) (omega (arith, decimal_length.1))
