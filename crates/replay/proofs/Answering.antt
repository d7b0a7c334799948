-- What is answered behind the lockouts is the answer to the words of the command line.
use Rattle.std.proofs.Common.{◌≡◌, ℕ, List, Ok, Err, Some, None, Result, sym, ap, subst, ◌∙◌}
use Rattle.std.specs.Prelude.{IfOk, MatchOption, MatchResult}
use Rattle.theory.specs.Boards.{BoardValue}
use Rattle.theory.specs.Control.{ControlValue}
use Rattle.control.specs.Replays.{replay_answer}
use Rattle.meaning.specs.Likeness.{likeness_answer}
use Rattle.meaning.specs.Published.{published_meaning}
use Rattle.meaning.specs.declared.published.Published.{Published}
use Rattle.report.specs.Comparisons.{compared}
use Rattle.report.specs.Transcripts.{transcript_text}
use Rattle.report.specs.Troubles.{RefusedAs}
use Rattle.report.specs.declared.trouble.Trouble.{Trouble}
use Rattle.report.specs.declared.trouble.Trouble.TheVariants.{Refused}
use Rattle.replay.specs.Replays.{all_locked, MadeAs, Replayed, Answered}
use Rattle.replay.specs.declared.Asked.{Asked}

module _ {D T : Type 0} (bytes : T → List ℕ) (asked : Asked) (b n : BoardValue) (mark : D → List ℕ) (v : ControlValue D) (r : Result T Trouble) (locks : List ℕ) (told : locks ≡ asked.locked.items) (locked : all_locked b locks ≡ Ok n) where
  behind : Replayed bytes asked mark v n r → Answered bytes asked b mark v r
  behind said = subst (λ x. MatchResult x (λ m. Replayed bytes asked mark v m r) (λ e. r ≡ Err (Refused e))) (sym (ap (all_locked b) (sym told) ∙ locked)) said

  pub answered_of_one : (p : List ℕ) → asked.meaning ≡ None → p ≡ asked.first.items → IfOk r (λ t. bytes t ≡ transcript_text mark v n.locked p) → RefusedAs r (replay_answer n v p) → Answered bytes asked b mark v r
  answered_of_one p none first text refused =
      let first-said = asked.first.items in
      let second-said = asked.second.items in
      behind (subst (λ m. MatchOption m (MadeAs bytes r (transcript_text mark v n.locked first-said) (replay_answer n v first-said)) (λ m. MadeAs bytes r (compared mark v n m asked.console first-said second-said) (likeness_answer (published_meaning m) n v asked.console first-said second-said))) (sym none)
      (subst (λ q. MadeAs bytes r (transcript_text mark v n.locked q) (replay_answer n v q)) first (text, refused)))

  pub answered_of_two : (m : Published) (u : ℕ) (p q : List ℕ) → asked.meaning ≡ Some m → u ≡ asked.console → p ≡ asked.first.items → q ≡ asked.second.items
      → IfOk r (λ t. bytes t ≡ compared mark v n m u p q) → RefusedAs r (likeness_answer (published_meaning m) n v u p q) → Answered bytes asked b mark v r
  answered_of_two m u p q some console first second text refused =
      let first-said = asked.first.items in
      let second-said = asked.second.items in
      behind (subst (λ m. MatchOption m (MadeAs bytes r (transcript_text mark v n.locked first-said) (replay_answer n v first-said)) (λ m. MadeAs bytes r (compared mark v n m asked.console first-said second-said) (likeness_answer (published_meaning m) n v asked.console first-said second-said))) (sym some)
      (subst (λ k. MadeAs bytes r (compared mark v n m k first-said second-said) (likeness_answer (published_meaning m) n v k first-said second-said)) console
      (subst (λ k. MadeAs bytes r (compared mark v n m u k second-said) (likeness_answer (published_meaning m) n v u k second-said)) first
      (subst (λ k. MadeAs bytes r (compared mark v n m u p k) (likeness_answer (published_meaning m) n v u p k)) second (text, refused)))))
