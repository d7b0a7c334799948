-- How the decimal texts of numbers are sorted, and what a run is that sorts as one.
use Rattle.std.proofs.Common.{◌≡◌, ℕ, ◌<◌, Bool, true, false, cond, not, ◌&&◌, eqb, List, [], ◌∷◌, get_or, drop, Some, decimal, sym, ap, ◌∙◌, arith}
use Rattle.std.proofs.lemmas.Fmt.{first_decimal}
use Rattle.std.proofs.lemmas.Bool.{and_from, cond-true}
use Rattle.std.proofs.lemmas.Bool.Decides.{nat_tests}
use Rattle.mark.specs.Runs.{is_name, is_number, number_in}
use Rattle.mark.specs.Tokens.{name, number, negative, no_mark, is_negative, sort_of, sort_in, value_in, value_sorted, IsTokenOf}
use Rattle.mark.specs.declared.token.Token.{Token}
use Rattle.mark.proofs.Decimals.{is_number_decimal}

pub sort_decimal : (n : ℕ) → n < 100000 → sort_of (decimal n) ≡ number
sort_decimal n h = cond-true (is_number (decimal n)) number _ (is_number_decimal n h)

-- a minus is neither a digit nor a letter
pub sort_minus : (n : ℕ) → 0 < n → n < 100000 → sort_of (45 ∷ decimal n) ≡ negative
sort_minus n p h =
    sorted (is_number (45 ∷ decimal n)) (is_name (45 ∷ decimal n)) (is_negative (45 ∷ decimal n)) (grind arith) (grind arith) (and_from _ _ (not_zero (get_or (decimal n) 0 0) (first_decimal n p (omega arith))) (is_number_decimal n h))
  where
    not_zero : (b : ℕ) → 48 < b → not (eqb b 48) ≡ true
    not_zero b l = grind (arith, nat_tests)

    sorted : (a b c : Bool) → a ≡ false → b ≡ false → c ≡ true → cond a number (cond b name (cond c negative no_mark)) ≡ negative
    sorted a b c e f g = cc

pub negative_sorted : (bs : List ℕ) → sort_of bs ≡ negative → is_negative bs ≡ true
negative_sorted bs e = only (is_number bs) (is_name bs) (is_negative bs) e
  where
    only : (a b c : Bool) → cond a number (cond b name (cond c negative no_mark)) ≡ negative → c ≡ true
    only a b c e = grind arith

-- the first byte of such a run is a minus, and a number other than 0 stands after it
pub minus_first : (bs : List ℕ) → is_negative bs ≡ true → (get_or bs 0 0 ≡ 45) × (get_or bs 1 0 ≡ 48 → ⊥)
minus_first bs e = parts (get_or bs 0 0) (get_or bs 1 0) (is_number (drop 1 bs)) e
  where
    parts : (a b : ℕ) (rest : Bool) → (eqb a 45 && (not (eqb b 48) && rest)) ≡ true → (a ≡ 45) × (b ≡ 48 → ⊥)
    parts a b rest h = (grind (arith, nat_tests), λ z. grind (arith, nat_tests))

pub minus_then : (bs : List ℕ) → get_or bs 0 0 ≡ 45 → bs ≡ 45 ∷ drop 1 bs
minus_then [] e = absurd (omega arith)
minus_then (b ∷ bs) e = ap (λ a. a ∷ bs) e

-- what a token that is a number says of its run
module _ (bs : List ℕ) (at : ℕ) (t : Token) (k : IsTokenOf bs at t) {v : ℕ} where
  pub number_told : sort_in t ≡ number → value_in t ≡ Some v → (sort_of bs ≡ number) × (number_in bs ≡ Some v)
  number_told s e = let q : sort_of bs ≡ number = sym k.sort ∙ s in (q, ap (λ x. value_sorted x bs) (sym q) ∙ sym k.value ∙ e)

  pub negative_told : sort_in t ≡ negative → value_in t ≡ Some v → (sort_of bs ≡ negative) × (number_in (drop 1 bs) ≡ Some v)
  negative_told s e = let q : sort_of bs ≡ negative = sym k.sort ∙ s in (q, ap (λ x. value_sorted x bs) (sym q) ∙ sym k.value ∙ e)
