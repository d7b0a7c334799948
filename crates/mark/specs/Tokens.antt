-- How a run is sorted, and what a token holds.
use Rattle.std.specs.Prelude.{◌≡◌, ℕ, Bool, cond, not, ◌&&◌, List, drop, Some, None, Option, ◌==◌, slice_index}
use Rattle.mark.specs.Runs.{is_name, is_number, number_in}
use Rattle.mark.specs.declared.token.Token.{Token}
use Rattle.mark.specs.declared.token.Token.TheVariants.{Name, Number, Negative}

pub data Sort : Type 0 where
  name : Sort
  number : Sort
  negative : Sort
  no_mark : Sort

-- a minus before a number other than 0
abbrev pub is_negative : List ℕ → Bool
is_negative bs = slice_index bs 0 == 45 && (not (slice_index bs 1 == 48) && is_number (drop 1 bs))

abbrev pub sort_of : List ℕ → Sort
sort_of bs = cond (is_number bs) number (cond (is_name bs) name (cond (is_negative bs) negative no_mark))

abbrev pub sort_in : Token → Sort
sort_in (Name run at) = name
sort_in (Number value run at) = number
sort_in (Negative value run at) = negative

abbrev pub run_in : Token → List ℕ
run_in (Name run at) = run.now
run_in (Number value run at) = run.now
run_in (Negative value run at) = run.now

-- the offset at which the run begins
abbrev pub place_in : Token → ℕ
place_in (Name run at) = at
place_in (Number value run at) = at
place_in (Negative value run at) = at

-- the number that the token holds, of a negative one what stands after the minus
abbrev pub value_in : Token → Option ℕ
value_in (Name run at) = None
value_in (Number value run at) = Some value
value_in (Negative value run at) = Some value

abbrev pub value_sorted : Sort → List ℕ → Option ℕ
value_sorted name bs = None
value_sorted number bs = number_in bs
value_sorted negative bs = number_in (drop 1 bs)
value_sorted no_mark bs = None

-- the number that a run writes, of a negative one what stands after the minus
abbrev pub value_of : List ℕ → Option ℕ
value_of bs = value_sorted (sort_of bs) bs

-- a run at a place as a token: sorted, and read once
pub record IsTokenOf (bs : List ℕ) (at : ℕ) (t : Token) : Type 0 where
  pub sort : sort_in t ≡ sort_of bs
  pub run : run_in t ≡ bs
  pub place : place_in t ≡ at
  pub value : value_in t ≡ value_of bs
