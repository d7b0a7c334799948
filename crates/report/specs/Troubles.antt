-- A text is made, or refused just as the call that it speaks of, or there is no memory for it.
use Rattle.std.specs.Prelude.{◌≡◌, true, is_ok, Ok, Err, Result}
use Rattle.policy.specs.declared.refusal.Refusal.{Refusal}
use Rattle.report.specs.declared.trouble.Trouble.{Trouble}
use Rattle.report.specs.declared.trouble.Trouble.TheVariants.{Refused, Memory}

-- r is made only where the answer is no refusal, and refused only as it is
abbrev pub RefusedAs : {T A : Type 0} → Result T Trouble → Result A Refusal → Type 0
RefusedAs (Ok t) answer = is_ok answer ≡ true
RefusedAs (Err (Refused e)) answer = answer ≡ Err e
RefusedAs (Err Memory) answer = is_ok answer ≡ true
