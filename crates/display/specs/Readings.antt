-- Readings: their name, sameness, marks and store entries.
use Rattle.std.specs.Prelude.{◌≡◌, ℕ, Bool, true, false, cond, List, drop, ℤ, pos, neg_ℤ, Some, None, Ok, Err, codes, Option, Result, refl}
use Rattle.std.specs.Fmt.{signed_decimal}
use Rattle.std.specs.Option.{option_eq}
use Rattle.mark.specs.Runs.{number_in, same_bytes}
use Rattle.mark.specs.Tokens.{Sort, name, number, negative, no_mark, sort_of}
use Rattle.mark.specs.declared.cause.Cause.{Cause}
use Rattle.mark.specs.declared.cause.Cause.TheVariants.{NoMark, NotDue, OutOfRange}
use Rattle.display.specs.Ranges.{in_range}
use Rattle.display.specs.Sameness.{SamenessIsEquality}
use Rattle.display.specs.contracts.reading.TenthsPartialEq.TheImpl.{ghosts as tenths_equality}
use Rattle.display.specs.declared.reading.Tenths.{Tenths}

abbrev pub Reading : Type 0
Reading = Option Tenths

abbrev pub reading_kind : List ℕ
reading_kind = codes "reading"

-- z tenths
abbrev pub tenths_at : (z : ℤ) → in_range z ≡ true → Tenths
tenths_at z h = record { count = z; range = h }

abbrev pub tenths_by : {A : Type 0} → (z : ℤ) (b : Bool) → in_range z ≡ b → (Tenths → A) → A → A
tenths_by z true e then else = then (tenths_at z e)
tenths_by z false e then else = else

-- what is said of z tenths, or the other answer where z is out of range
abbrev pub tenths_when : {A : Type 0} → ℤ → (Tenths → A) → A → A
tenths_when z then else = tenths_by z (in_range z) refl then else

-- two readings are the same exactly when they are equal
abbrev pub ReadingSamenessIsEquality : Type 0
ReadingSamenessIsEquality = SamenessIsEquality (option_eq tenths_equality.eq)

abbrev pub reading_mark : Reading → List ℕ
reading_mark None = codes "none"
reading_mark (Some x) = signed_decimal x.count

abbrev pub reading_from : (ℕ → ℤ) → Option ℕ → Result Reading Cause
reading_from sign None = Err NoMark
reading_from sign (Some n) = tenths_when (sign n) (λ x. Ok (Some x)) (Err OutOfRange)

abbrev pub reading_sorted : Sort → List ℕ → Result Reading Cause
reading_sorted name bs = cond (same_bytes bs (codes "none")) (Ok None) (Err NotDue)
reading_sorted number bs = reading_from pos (number_in bs)
reading_sorted negative bs = reading_from (λ n. neg_ℤ (pos n)) (number_in (drop 1 bs))
reading_sorted no_mark bs = Err NoMark

-- a name other than none is not due, and a count past 1200 or below -1200 is out of range
abbrev pub reading_reads : List ℕ → Result Reading Cause
reading_reads bs = reading_sorted (sort_of bs) bs

-- z tenths, or 0 tenths where z is out of range
abbrev pub tenths_stored : ℤ → Tenths
tenths_stored z = tenths_when z (λ x. x) (tenths_at (pos 0) refl)

-- a store's entry is a count or none; a count out of range is read as 0 tenths, not as none
abbrev pub reading_stored : Option ℤ → Reading
reading_stored None = None
reading_stored (Some z) = Some (tenths_stored z)

abbrev pub reading_cell : Reading → Option ℤ
reading_cell None = None
reading_cell (Some x) = Some x.count
