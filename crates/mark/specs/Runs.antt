-- Which runs of bytes are names and numbers, and which number a run writes.
use Rattle.std.specs.Prelude.{◌≡◌, ℕ, ◌+◌, ◌-◌, ◌*◌, ◌<◌, Bool, cond, not, ◌&&◌, ◌||◌, List, [], ◌∷◌, length, Some, None, decimal, Option, ◌==◌, nat_eq, nat_le, slice_index}
use Rattle.std.specs.Cmp.Lexicographic.{pointwise}
use Rattle.std.specs.List.{list_all}

abbrev pub small_letter : ℕ → Bool
small_letter b = nat_le 97 b && nat_le b 122

abbrev pub digit : ℕ → Bool
digit b = nat_le 48 b && nat_le b 57

-- the test holds of every byte
abbrev pub each : (ℕ → Bool) → List ℕ → Bool
each = list_all

abbrev pub same_bytes : List ℕ → List ℕ → Bool
same_bytes = pointwise nat_eq

abbrev pub is_name : List ℕ → Bool
is_name bs = nat_le 1 (length bs) && (nat_le (length bs) 8 && each small_letter bs)

-- 1 to 5 digits, of which the first of several is not 0
abbrev pub is_number : List ℕ → Bool
is_number bs = nat_le 1 (length bs) && (nat_le (length bs) 5 && ((nat_le (length bs) 1 || not (slice_index bs 0 == 48)) && each digit bs))

-- the number that digits write, after the number n that is written already
abbrev pub number_after : ℕ → List ℕ → ℕ
number_after n [] = n
number_after n (b ∷ bs) = number_after (n * 10 + (b - 48)) bs

abbrev pub number_in : List ℕ → Option ℕ
number_in bs = cond (is_number bs) (Some (number_after 0 bs)) None

-- The runs that are numbers are just the decimal texts of the numbers below 100,000, and each
-- writes the number whose text it is.
pub record NumbersAreDecimals : Type 0 where
  pub written : (n : ℕ) → n < 100000 → number_in (decimal n) ≡ Some n
  pub alone : (bs : List ℕ) (n : ℕ) → number_in bs ≡ Some n → (n < 100000) × (bs ≡ decimal n)
