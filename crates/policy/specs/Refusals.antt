-- The number of every refusal, what else it tells, and why it comes, in words.
use Rattle.std.specs.Prelude.{ℕ, List, ◌++◌, codes, decimal}
use Rattle.mark.specs.declared.cause.Cause.{Cause}
use Rattle.mark.specs.declared.cause.Cause.TheVariants.{NoMark, NotDue, OutOfRange, EndsEarly}
use Rattle.policy.specs.declared.refusal.Refusal.{Refusal}
use Rattle.policy.specs.declared.refusal.Refusal.TheVariants.{SheetTooLong, TableStoreTooSmall, Fault, NoSuchConsole, NoSuchCommand, SelfFlow, CountsDiffer, DoesNotFit, SequenceTooLong, BoardLimits, OutputTooShort}
use Rattle.policy.specs.declared.refusal.Told.{Told}

-- a refusal that tells no place, line or block
abbrev pub number_alone : ℕ → Told
number_alone n = record { number = n; place = 0; line = 0; block = 0 }

abbrev pub cause_number : Cause → ℕ
cause_number NoMark = 3
cause_number NotDue = 4
cause_number OutOfRange = 5
cause_number EndsEarly = 6

abbrev pub told_of : Refusal → Told
told_of SheetTooLong = record { number = 1; place = 40960; line = 0; block = 0 }
told_of TableStoreTooSmall = number_alone 2
told_of (Fault cause place line block) = record { number = cause_number cause; place = place; line = line; block = block }
told_of NoSuchConsole = number_alone 7
told_of NoSuchCommand = number_alone 8
told_of SelfFlow = number_alone 9
told_of CountsDiffer = number_alone 10
told_of DoesNotFit = number_alone 11
told_of SequenceTooLong = number_alone 14
told_of BoardLimits = number_alone 15
told_of (OutputTooShort needed) = record { number = 16; place = needed; line = 0; block = 0 }

-- the four values on one line
abbrev pub values_of : Told → List ℕ
values_of t = decimal t.number ++ (codes " " ++ (decimal t.place ++ (codes " " ++ (decimal t.line ++ (codes " " ++ decimal t.block)))))

abbrev pub reason_of : Refusal → List ℕ
reason_of SheetTooLong = codes "the sheet has more than 40960 bytes"
reason_of TableStoreTooSmall = codes "the store has no room for a table"
reason_of (Fault cause place line block) = codes "the sheet has a fault"
reason_of NoSuchConsole = codes "there is no such console"
reason_of NoSuchCommand = codes "there is no such command"
reason_of SelfFlow = codes "every console may affect itself"
reason_of CountsDiffer = codes "control and board differ in consoles or commands"
reason_of DoesNotFit = codes "the two controls do not fit side by side"
reason_of SequenceTooLong = codes "a sequence has more than 64 commands"
reason_of BoardLimits = codes "a board has 1 to 12 consoles and 1 to 24 commands"
reason_of (OutputTooShort needed) = codes "the output is shorter than the sheet"
