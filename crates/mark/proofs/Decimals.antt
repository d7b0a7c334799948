-- The runs that are numbers are just the decimal texts of the numbers below 100,000.
use Rattle.std.proofs.Common.{◌≡◌, ℕ, ◌^◌, ◌<◌, ◌≤◌, Bool, true, cond, not, ◌&&◌, ◌||◌, eqb, leb, List, length, get_or, Some, None, decimal, sym, ap, ◌∙◌, ⊎_elim, arith, rules}
use Rattle.std.proofs.lemmas.Fmt.{decimal_digit, decimal_nonempty, decimal-digits_value, digits_decimal, first_decimal, length-decimal-le, digits_value-decimal}
use Rattle.std.proofs.lemmas.Str.Parse.{IsNumeralModel, numerals_by_fold, digits_value_short}
use Rattle.std.proofs.lemmas.Bool.{cases_lt}
use Rattle.std.proofs.lemmas.Bool.Decides.{nat_tests}
use Rattle.mark.specs.Runs.{each, digit, is_number, number_after, number_in}

pub digits_in_number : (bs : List ℕ) → is_number bs ≡ true → (0 < length bs) × (length bs ≤ 5) × (each digit bs ≡ true) × (get_or bs 0 0 ≡ 48 → length bs ≡ 1)
digits_in_number bs e = parts (length bs) (get_or bs 0 0) (each digit bs) e
  where
    parts : (n b : ℕ) (rest : Bool) → (leb 1 n && (leb n 5 && ((leb n 1 || not (eqb b 48)) && rest))) ≡ true → (0 < n) × (n ≤ 5) × (rest ≡ true) × (b ≡ 48 → n ≡ 1)
    parts n b rest h = (grind (arith, nat_tests), grind (arith, nat_tests), grind (arith, nat_tests), λ z. grind (arith, nat_tests))

pub numerals : IsNumeralModel (λ ds. each digit ds ≡ true) (number_after 0)
numerals = numerals_by_fold _ (search rules) number_after (search rules)

pub is_number_decimal : (n : ℕ) → n < 100000 → is_number (decimal n) ≡ true
is_number_decimal n h =
    let fits : n < 2 ^ 64 = omega arith in
    whole (length (decimal n)) (get_or (decimal n) 0 0) _ (decimal_nonempty n fits) (length-decimal-le 5 n (omega arith) (omega arith) fits) (λ z. ⊎_elim (λ (l : n < 10). ap length (decimal_digit n l)) (λ (l : 10 ≤ n). absurd (omega (arith, first_decimal n (omega arith) fits))) (cases_lt n 10)) (digits_decimal numerals n fits)
  where
    whole : (k b : ℕ) (rest : Bool) → 0 < k → k ≤ 5 → (b ≡ 48 → k ≡ 1) → rest ≡ true → (leb 1 k && (leb k 5 && ((leb k 1 || not (eqb b 48)) && rest))) ≡ true
    whole k b rest p q r t = grind (arith, nat_tests)

pub number_in_decimal : (n : ℕ) → n < 100000 → number_in (decimal n) ≡ Some n
number_in_decimal n h =
    ap (λ t. cond t (Some (number_after 0 (decimal n))) None) (is_number_decimal n h) ∙ ap Some (digits_value-decimal numerals n (omega arith))

number_known : {X : Type 0} (t : Bool) (x y : X) → cond t (Some x) None ≡ Some y → (t ≡ true) × (x ≡ y)
number_known t x y e = (grind arith, grind arith)

pub decimal_alone : (bs : List ℕ) (n : ℕ) → number_in bs ≡ Some n → (n < 100000) × (bs ≡ decimal n)
decimal_alone bs n e =
    let k = number_known (is_number bs) (number_after 0 bs) n e in
    let d = digits_in_number bs k.0 in
    let small : number_after 0 bs < 10 ^ 5 = digits_value_short numerals bs 5 d.2 d.1 in
    (omega (arith, k.1), sym (decimal-digits_value numerals bs d.2 d.0 d.3 (omega arith)) ∙ ap decimal k.1)
