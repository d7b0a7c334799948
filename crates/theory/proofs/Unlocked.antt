-- Runs without the locked commands.
use Rattle.std.proofs.Common.{[], ◌∷◌, refl, inl, inr}
use Rattle.std.proofs.lemmas.Bool.{cases_Bool}
use Rattle.theory.specs.Theorems.{LockedCommandsMoveNothing}

pub locked_move_nothing : LockedCommandsMoveNothing
locked_move_nothing step L s [] = refl
locked_move_nothing step L s (c ∷ p) =
    elim (cases_Bool (L c)) [
      | inl locked ↦ rw locked (locked_move_nothing step L s p)
      | inr free ↦ rw free (locked_move_nothing step L (step s c) p)
    ]
