-- What is answered to the words of a command line, on the board and the control that a sheet says.
use Rattle.std.specs.Prelude.{◌≡◌, ℕ, cond, List, [], ◌∷◌, Ok, Err, Result, is_ok, IfOk, MatchOption, MatchResult}
use Rattle.theory.specs.Boards.{BoardValue}
use Rattle.theory.specs.Control.{ControlValue}
use Rattle.policy.specs.Calls.{after_lock}
use Rattle.policy.specs.Lockouts.{lock_answer}
use Rattle.policy.specs.declared.refusal.Refusal.{Refusal}
use Rattle.policy.specs.declared.refusal.Refusal.TheVariants.{NoSuchCommand}
use Rattle.control.specs.Replays.{replay_answer}
use Rattle.meaning.specs.Likeness.{likeness_answer}
use Rattle.meaning.specs.Published.{published_meaning}
use Rattle.report.specs.Comparisons.{compared}
use Rattle.report.specs.Transcripts.{transcript_text}
use Rattle.report.specs.Troubles.{RefusedAs}
use Rattle.report.specs.declared.trouble.Trouble.{Trouble}
use Rattle.report.specs.declared.trouble.Trouble.TheVariants.{Refused}
use Rattle.replay.specs.declared.Asked.{Asked}

-- the commands locked one by one on a board
abbrev pub all_locked : BoardValue → List ℕ → Result BoardValue Refusal
all_locked b [] = Ok b
all_locked b (c ∷ commands) = cond (is_ok (lock_answer b.commands c)) (all_locked (after_lock b c) commands) (Err NoSuchCommand)

-- r has this text where it is made, and is refused as the call that the text speaks of
abbrev pub MadeAs : {T A : Type 0} → (T → List ℕ) → Result T Trouble → List ℕ → Result A Refusal → Type 0
MadeAs bytes r text answer = IfOk r (λ t. bytes t ≡ text) × RefusedAs r answer

-- one sequence is run, or two are compared under the meaning that is asked for
abbrev pub Replayed : {D T : Type 0} → (T → List ℕ) → Asked → (D → List ℕ) → ControlValue D → BoardValue → Result T Trouble → Type 0
Replayed bytes asked mark v b r =
    let first = asked.first.items in
    let second = asked.second.items in
    MatchOption asked.meaning
    (MadeAs bytes r (transcript_text mark v b.locked first) (replay_answer b v first))
    (λ m. MadeAs bytes r (compared mark v b m asked.console first second) (likeness_answer (published_meaning m) b v asked.console first second))

-- the same behind the lockouts that are asked for
abbrev pub Answered : {D T : Type 0} → (T → List ℕ) → Asked → BoardValue → (D → List ℕ) → ControlValue D → Result T Trouble → Type 0
Answered bytes asked b mark v r = MatchResult (all_locked b asked.locked.items) (λ locked. Replayed bytes asked mark v locked r) (λ e. r ≡ Err (Refused e))
