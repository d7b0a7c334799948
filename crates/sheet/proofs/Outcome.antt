-- What the writer answers, and what the output holds then, from what was counted and written.
use Rattle.std.proofs.Common.{◌≡◌, ℕ, ◌<◌, ◌≤◌, Bool, true, false, cond, leb, List, ◌++◌, length, drop, Ok, Err, Result, ap, ◌∙◌, zero-add, arith}
use lib.Seq.{sets-eq}
use Rattle.std.proofs.lemmas.Bool.{le-leb, lt-leb}
use Rattle.mark.specs.Runs.{is_name}
use Rattle.theory.specs.Flows.{Flow}
use Rattle.policy.specs.declared.refusal.Refusal.{Refusal}
use Rattle.policy.specs.declared.refusal.Refusal.TheVariants.{CountsDiffer, OutputTooShort}
use Rattle.theory.specs.Boards.{BoardValue}
use Rattle.theory.specs.Control.{ControlValue, Lawful}
use Rattle.control.specs.Replays.{same_counts, counts_answer}
use Rattle.sheet.specs.Text.{sheet_text}
use Rattle.sheet.specs.Calls.{overwritten, write_answer, output_after}
use Rattle.sheet.specs.Written.{last_place, Wrote}
use Rattle.sheet.proofs.SheetLengths.{all_fit}
use Rattle.sheet.proofs.Writing.{wrote_as}

passed_check : (b : Bool) (x : Unit {0}) → ◌≡◌ {A = Result (Unit {0}) Refusal} (Ok x) (cond b (Ok tt) (Err CountsDiffer)) → b ≡ true
passed_check b x e = grind arith

-- all of a text that can be counted was counted
counted : {was is text : List ℕ} {behind : ℕ} → length text ≤ last_place → Wrote was 0 text is behind → behind ≡ length text
counted short w = omega (arith, w.place)

-- and all of it was written where there is room
written_front : {was is text : List ℕ} {behind : ℕ} → length text ≤ length was → Wrote was 0 text is behind → is ≡ overwritten text was
written_front {was} {is} {text} room w = w.output ∙ sets-eq text was 0 (omega arith) ∙ ap (λ n. text ++ drop n was) (zero-add (length text))

-- A control with a board's counts, and flows that were lent to be written and say what the board's say.
module _ {D : Type 0} (kind : List ℕ) (mark : D → List ℕ) (named : is_name kind ≡ true) (short : (x : D) → length (mark x) ≤ 8)
    (v : ControlValue D) (lawful : Lawful v) (b : BoardValue) where
  abbrev text : List ℕ
  text = sheet_text kind mark v b.flows

  module _ {x : Unit {0}} (checked : Ok x ≡ counts_answer b v) {F : Flow} (held : F ≡ b.flows) where
    same : same_counts b v ≡ true
    same = passed_check (same_counts b v) x checked

    lent_text : sheet_text kind mark v F ≡ text
    lent_text = ap (sheet_text kind mark v) held

    length_counted : {was is : List ℕ} {n : ℕ} → Wrote was 0 (sheet_text kind mark v F) is n → n ≡ length text
    length_counted w = counted (omega (arith, all_fit kind mark named short v b.flows lawful)) (wrote_as lent_text w)

    module _ {none left : List ℕ} {needed : ℕ} (first : Wrote none 0 (sheet_text kind mark v F) left needed) (out : List ℕ) where
      pub refused : length out < needed
          → (Err (OutputTooShort needed) ≡ write_answer kind mark b v (length out)) × (out ≡ output_after kind mark b v out)
      refused long =
          let fits : leb (length text) (length out) ≡ false = lt-leb (length text) (length out) (omega (arith, length_counted first)) in
          (ap (λ n. Err (OutputTooShort n)) (length_counted first) ∙ simp (same, fits), simp (same, fits))

      pub written : {is : List ℕ} {n : ℕ} → needed ≤ length out → Wrote out 0 (sheet_text kind mark v F) is n
          → (Ok n ≡ write_answer kind mark b v (length out)) × (is ≡ output_after kind mark b v out)
      written enough second =
          let room : length text ≤ length out = omega (arith, length_counted first) in
          let fits : leb (length text) (length out) ≡ true = le-leb (length text) (length out) room in
          (ap Ok (length_counted second) ∙ simp (same, fits), written_front room (wrote_as lent_text second) ∙ simp (same, fits))
