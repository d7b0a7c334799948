-- Codes: their name, sameness, marks and store entries.
use Rattle.std.specs.Prelude.{◌≡◌, ℕ, ◌<◌, Bool, true, false, List, Some, None, Ok, Err, codes, decimal, Option, Result, nat_lt, refl}
use Rattle.std.proofs.Common.{lit<, ltb-true}
use Rattle.mark.specs.Runs.{number_in}
use Rattle.mark.specs.Tokens.{Sort, name, number, negative, no_mark, sort_of}
use Rattle.mark.specs.declared.cause.Cause.{Cause}
use Rattle.mark.specs.declared.cause.Cause.TheVariants.{NoMark, NotDue, OutOfRange}
use Rattle.display.specs.Sameness.{SamenessIsEquality}
use Rattle.display.specs.contracts.code.CodePartialEq.TheImpl.{ghosts as code_equality}
use Rattle.display.specs.declared.code.Code.{Code}

abbrev pub code_kind : List ℕ
code_kind = codes "code"

abbrev pub code_at : (n : ℕ) → n < 65536 → Code
code_at n h = record { number = n; fits = h }

abbrev pub code_by : {A : Type 0} → (n : ℕ) (b : Bool) → nat_lt n 65536 ≡ b → (Code → A) → A → A
code_by n true e then else = then (code_at n (ltb-true n 65536 e))
code_by n false e then else = else

-- what is said of code n, or the other answer where n is no code
abbrev pub code_when : {A : Type 0} → ℕ → (Code → A) → A → A
code_when n then else = code_by n (nat_lt n 65536) refl then else

-- two codes are the same exactly when they are equal
abbrev pub CodeSamenessIsEquality : Type 0
CodeSamenessIsEquality = SamenessIsEquality code_equality.eq

abbrev pub code_mark : Code → List ℕ
code_mark x = decimal x.number

abbrev pub code_from : Option ℕ → Result Code Cause
code_from None = Err NoMark
code_from (Some n) = code_when n Ok (Err OutOfRange)

abbrev pub code_sorted : Sort → List ℕ → Result Code Cause
code_sorted name bs = Err NotDue
code_sorted number bs = code_from (number_in bs)
code_sorted negative bs = Err OutOfRange
code_sorted no_mark bs = Err NoMark

-- a name is not due, and a number past 65535 or below 0 is out of range
abbrev pub code_reads : List ℕ → Result Code Cause
code_reads bs = code_sorted (sort_of bs) bs

-- a store's entry is the number; one that is no code is read as 0
abbrev pub code_stored : ℕ → Code
code_stored n = code_when n (λ x. x) (code_at 0 (lit< tt))

abbrev pub code_cell : Code → ℕ
code_cell x = x.number
