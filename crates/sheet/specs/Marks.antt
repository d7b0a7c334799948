-- Reading one mark and the byte behind it, at a place of a sheet.
use Rattle.std.specs.Prelude.{ℕ, ◌+◌, Bool, cond, ◌||◌, List, [], ◌∷◌, length, drop, Some, None, Ok, Err, Option, Result, ◌==◌, nat_le, slice_index}
use Rattle.mark.specs.Runs.{number_in, same_bytes}
use Rattle.mark.specs.Tokens.{Sort, name, number, negative, no_mark, sort_of}
use Rattle.mark.specs.declared.cause.Cause.{Cause}
use Rattle.mark.specs.declared.cause.Cause.TheVariants.{NoMark, NotDue, OutOfRange, EndsEarly}
use Rattle.sheet.specs.Faults.{mark_fault, on}
use Rattle.sheet.specs.declared.fault.MarkFault.{MarkFault}

abbrev pub blank : ℕ
blank = 32

abbrev pub newline : ℕ
newline = 10

-- the byte ends a run
abbrev pub ends_run : ℕ → Bool
ends_run b = b == blank || b == newline

-- a run is what stands before the next blank, newline or end
abbrev pub run_of : List ℕ → List ℕ
run_of [] = []
run_of (b ∷ bs) = cond (ends_run b) [] (b ∷ run_of bs)

-- an empty run is no mark
abbrev pub unless_empty : {A : Type 0} → (List ℕ → Result A Cause) → List ℕ → Result A Cause
unless_empty reads [] = Err NoMark
unless_empty reads (b ∷ bs) = reads (b ∷ bs)

abbrev taken : {A : Type 0} → Result A Cause → ℕ → ℕ → Result (A × ℕ) MarkFault
taken (Ok x) i j = Ok (x, j)
taken (Err c) i j = Err (mark_fault c i)

-- What stands at place i, as `reads` reads its run, and the place behind it. Where the sheet ends
-- at i, it ends early.
abbrev pub mark_at : {A : Type 0} → (List ℕ → Result A Cause) → List ℕ → ℕ → Result (A × ℕ) MarkFault
mark_at reads sheet i =
    cond (nat_le (length sheet) i)
    (Err (mark_fault EndsEarly i))
    (taken (unless_empty reads (run_of (drop i sheet))) i (i + length (run_of (drop i sheet))))

-- the byte that is due at place i, and the place behind it
abbrev pub byte_at : ℕ → List ℕ → ℕ → Result ℕ MarkFault
byte_at b sheet i = cond (nat_le (length sheet) i) (Err (mark_fault EndsEarly i)) (cond (slice_index sheet i == b) (Ok (i + 1)) (Err (mark_fault NotDue i)))

-- a mark and the byte behind it
abbrev pub item_at : {A : Type 0} → (List ℕ → Result A Cause) → ℕ → List ℕ → ℕ → Result (A × ℕ) MarkFault
item_at reads b sheet i = on (mark_at reads sheet i) (λ y. on (byte_at b sheet y.1) (λ j. Ok (y.0, j)))

abbrev name_sorted : List ℕ → Sort → List ℕ → Result (Unit {0}) Cause
name_sorted w name run = cond (same_bytes run w) (Ok tt) (Err NotDue)
name_sorted w number run = Err NotDue
name_sorted w negative run = Err NotDue
name_sorted w no_mark run = Err NoMark

-- the name w is due
abbrev pub name_reads : List ℕ → List ℕ → Result (Unit {0}) Cause
name_reads w run = name_sorted w (sort_of run) run

abbrev number_from : (ℕ → Result ℕ Cause) → Option ℕ → Result ℕ Cause
number_from judge None = Err NoMark
number_from judge (Some n) = judge n

abbrev number_sorted : (ℕ → Result ℕ Cause) → Cause → Sort → List ℕ → Result ℕ Cause
number_sorted judge below name run = Err NotDue
number_sorted judge below number run = number_from judge (number_in run)
number_sorted judge below negative run = Err below
number_sorted judge below no_mark run = Err NoMark

-- a number from `least` to `most` is due
abbrev pub number_reads : ℕ → ℕ → List ℕ → Result ℕ Cause
number_reads least most run = number_sorted (λ n. cond (nat_le least n) (cond (nat_le n most) (Ok n) (Err OutOfRange)) (Err OutOfRange)) OutOfRange (sort_of run) run

-- the number n itself is due
abbrev pub exact_reads : ℕ → List ℕ → Result ℕ Cause
exact_reads n run = number_sorted (λ k. cond (k == n) (Ok k) (Err NotDue)) NotDue (sort_of run) run
