-- Commands locked one by one: one more, the last, and one that the board lacks.
use Rattle.std.proofs.Common.{◌≡◌, ℕ, ◌+◌, ◌<◌, ◌≤◌, Bool, true, false, cond, List, length, get_or, drop, Ok, Err, Result, sym, ap, ◌∙◌, arith}
use Rattle.std.specs.Prelude.{is_ok}
use Rattle.std.proofs.lemmas.List.{at_drop_more, at_drop_all}
use Rattle.theory.specs.Boards.{BoardValue}
use Rattle.policy.specs.Calls.{after_lock}
use Rattle.policy.specs.Lockouts.{lock_answer}
use Rattle.policy.specs.declared.refusal.Refusal.{Refusal}
use Rattle.policy.specs.declared.refusal.Refusal.TheVariants.{NoSuchCommand}
use Rattle.replay.specs.Replays.{all_locked}

refused : (test : Bool) (e : Refusal) (r : Result BoardValue Refusal) → cond {A = Result (Unit {0}) Refusal} test (Ok tt) (Err NoSuchCommand) ≡ Err e
    → cond (is_ok {T = Unit {0}} {E = Refusal} (cond test (Ok tt) (Err NoSuchCommand))) r (Err NoSuchCommand) ≡ Err e
refused true e r said = let never : ◌≡◌ {A = ℕ} 0 1 = cc in absurd (omega arith)
refused false e r said = cc

module _ (b : BoardValue) (p : List ℕ) (i : ℕ) (x : Result BoardValue Refusal) where
  pub locked_more : (n : BoardValue) (u : Unit {0}) → i < length p → lock_answer b.commands (get_or p i 0) ≡ Ok u → n ≡ after_lock b (get_or p i 0) → all_locked b (drop i p) ≡ x → all_locked n (drop (i + 1) p) ≡ x
  locked_more n u inside taken after before =
      let c = get_or p i 0 in
      let rest = drop (i + 1) p in
      ap (λ m. all_locked m rest) after
      ∙ ap (λ r. cond (is_ok r) (all_locked (after_lock b c) rest) (Err NoSuchCommand)) (sym taken)
      ∙ sym (at_drop_more (all_locked b) p i 0 inside)
      ∙ before

  pub locked_refused : (e : Refusal) → i < length p → lock_answer b.commands (get_or p i 0) ≡ Err e → all_locked b (drop i p) ≡ x → x ≡ Err e
  locked_refused e inside told before =
      sym before ∙ at_drop_more (all_locked b) p i 0 inside
      ∙ refused _ e (all_locked (after_lock b (get_or p i 0)) (drop (i + 1) p)) told

  pub locked_all : length p ≤ i → all_locked b (drop i p) ≡ x → x ≡ Ok b
  locked_all past before = sym before ∙ at_drop_all (all_locked b) p i past
