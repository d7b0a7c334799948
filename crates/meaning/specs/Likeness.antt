-- What is answered to whether two sequences are alike for a console of a control under a board.
use Rattle.std.specs.Prelude.{ℕ, Bool, cond, ◌&&◌, List, length, Ok, Err, Result, nat_le, nat_lt}
use Rattle.theory.specs.Boards.{BoardValue}
use Rattle.theory.specs.Control.{ControlValue, owner_of}
use Rattle.policy.specs.declared.refusal.Refusal.{Refusal}
use Rattle.policy.specs.declared.refusal.Refusal.TheVariants.{NoSuchConsole, NoSuchCommand, CountsDiffer, SequenceTooLong}
use Rattle.control.specs.Replays.{same_counts}
use Rattle.links.specs.Meaning.{MeaningValue}
use Rattle.meaning.specs.Asked.{most_compared}
use Rattle.theory.specs.Runs.{all_below}

-- Console and commands have to be the board's, the control has to have as many of both, and the
-- sequences must not be too long.
abbrev pub likeness_answer : {D : Type 0} → MeaningValue → BoardValue → ControlValue D → ℕ → List ℕ → List ℕ → Result Bool Refusal
likeness_answer m b v u p q =
    cond (nat_lt u b.consoles)
    (cond (all_below b.commands p && all_below b.commands q)
    (cond (same_counts b v)
    (cond (nat_le (length p) most_compared && nat_le (length q) most_compared)
    (Ok (m.alike b.flows (owner_of v) u p q))
    (Err SequenceTooLong))
    (Err CountsDiffer))
    (Err NoSuchCommand))
    (Err NoSuchConsole)
