-- A refusal in words, and as a line of its four values.
use Rattle.std.specs.Prelude.{ℕ, List, ◌++◌, codes, decimal}
use Rattle.policy.specs.Refusals.{reason_of, told_of, values_of}
use Rattle.policy.specs.declared.refusal.Refusal.{Refusal}

abbrev pub refusal_sentence : Refusal → List ℕ
refusal_sentence e = codes "Refused with number " ++ (decimal (told_of e).number ++ (codes ": " ++ (reason_of e ++ codes ".\n")))

abbrev pub refusal_values : Refusal → List ℕ
refusal_values e = codes "refusal place line block\n" ++ (values_of (told_of e) ++ codes "\n")
