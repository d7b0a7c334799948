-- Which kind of display a sheet is read as.
use Rattle.std.proofs.Common.{◌≡◌, ℕ, Bool, true, false, List, Ok, Err, Some, Result, refl, sym, ap, ◌∙◌, subst}
use Rattle.std.specs.Prelude.{MatchBool, pos}
use Rattle.display.specs.Codes.{code_mark, code_stored}
use Rattle.display.specs.Readings.{reading_mark, reading_stored}
use Rattle.display.specs.declared.code.Code.{Code}
use Rattle.policy.specs.declared.refusal.Refusal.{Refusal}
use Rattle.theory.specs.Boards.{BoardValue}
use Rattle.theory.specs.Control.{ControlValue}
use Rattle.sheet.specs.Kinds.{readings_named}
use Rattle.sheet.specs.Reading.{Sheet}
use Rattle.receiver.specs.Answers.{AnsweredAs, Asked, are_readings, codes_said, readings_said}

module _ {A : Type 0} (answered : BoardValue → (D : Type 0) → (D → List ℕ) → ControlValue D → A → Type 0) (sheet : List ℕ) where
  named : (codes : Result (Sheet Code) Refusal) (e : Refusal) → AnsweredAs answered code_mark (code_stored 0) codes (Err e) → are_readings sheet codes ≡ readings_named sheet e
  named (Ok x) e said = absurd said
  named (Err d) e said = ap (λ f. readings_named sheet f) said

  unnamed : (codes : Result (Sheet Code) Refusal) (a : A) → AnsweredAs answered code_mark (code_stored 0) codes (Ok a) → are_readings sheet codes ≡ false
  unnamed (Ok x) a said = refl
  unnamed (Err d) a said = absurd said

  chosen : (b : Bool) (result : Result A Refusal) → are_readings sheet (codes_said sheet) ≡ b
      → MatchBool b (AnsweredAs answered reading_mark (reading_stored (Some (pos 0))) (readings_said sheet) result) (AnsweredAs answered code_mark (code_stored 0) (codes_said sheet) result)
      → Asked answered sheet result
  chosen b result is right =
      subst
      (λ (k : Bool). MatchBool k (AnsweredAs answered reading_mark (reading_stored (Some (pos 0))) (readings_said sheet) result) (AnsweredAs answered code_mark (code_stored 0) (codes_said sheet) result))
      (sym is) right

  -- refused as one of codes where it names readings
  pub as_readings : (e : Refusal) (result : Result A Refusal) → AnsweredAs answered code_mark (code_stored 0) (codes_said sheet) (Err e) → readings_named sheet e ≡ true
      → AnsweredAs answered reading_mark (reading_stored (Some (pos 0))) (readings_said sheet) result → Asked answered sheet result
  as_readings e result said names right = chosen true result (named (codes_said sheet) e said ∙ names) right

  -- refused as one of codes elsewhere
  pub refused_codes : (e : Refusal) → AnsweredAs answered code_mark (code_stored 0) (codes_said sheet) (Err e) → readings_named sheet e ≡ false → Asked answered sheet (Err e)
  refused_codes e said names = chosen false (Err e) (named (codes_said sheet) e said ∙ names) said

  -- read as one of codes
  pub as_codes : (a : A) → AnsweredAs answered code_mark (code_stored 0) (codes_said sheet) (Ok a) → Asked answered sheet (Ok a)
  as_codes a said = chosen false (Ok a) (unnamed (codes_said sheet) a said) said
