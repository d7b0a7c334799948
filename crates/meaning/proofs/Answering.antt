-- For the likeness of two sequences where nothing is refused: the answer is the meaning's, for the control's own consoles.
use Rattle.std.proofs.Common.{◌≡◌, ℕ, ◌<◌, ◌≤◌, Bool, true, false, ◌&&◌, eqb, ltb, leb, List, length, map, cond, Ok, Err, refl, sym, ap, ◌∙◌, subst, arith}
use Rattle.std.proofs.lemmas.Bool.{lt-ltb, le-leb, eqb-true, and_from, and_parts, cond-true}
use Rattle.std.specs.Prelude.{Result}
use Rattle.std.specs.List.{range_with_len}
use Rattle.std.proofs.lemmas.List.FromFn.{length-map-range_with_len, get_or-map-range_with_len}
use Rattle.theory.specs.Boards.{BoardValue}
use Rattle.theory.specs.Flows.{SelfFlows}
use Rattle.theory.specs.Control.{ControlValue, Lawful, owner_of}
use Rattle.theory.specs.Reading.{number_read_below}
use Rattle.policy.specs.declared.refusal.Refusal.{Refusal}
use Rattle.policy.specs.declared.refusal.Refusal.TheVariants.{NoSuchCommand, CountsDiffer}
use Rattle.control.specs.Replays.{same_counts, commands_answer, counts_answer}
use Rattle.links.specs.Meaning.{MeaningValue}
use Rattle.links.specs.Laws.{MeaningLaws}
use Rattle.meaning.specs.Asked.{most_compared, comparable, owner_in, alike_asked}
use Rattle.theory.specs.Runs.{all_below}
use Rattle.meaning.specs.Likeness.{likeness_answer}
use Rattle.meaning.proofs.Ownership.{alike_for}
use Rattle.meaning.proofs.Ranges.{below_each, each_below}

yes_and : {a : Bool} (x : Bool) → a ≡ true → (a && x) ≡ x
yes_and x e = ap (λ b. b && x) e

owner_below : {D : Type 0} (v : ControlValue D) → Lawful v → (c : ℕ) → owner_of v c < v.consoles
owner_below v lawful c = lawful.owned _ (number_read_below v.commands c lawful.commands_count.0)

abbrev the_result : Result (Unit {0}) Refusal → Result (Unit {0}) Refusal
the_result r = r

-- a check that passed says that its test did
passed : (test : Bool) (e : Refusal) → the_result (cond test (Ok tt) (Err e)) ≡ Ok tt → test ≡ true
passed true e h = refl
passed false e h = cc

module _ {D : Type 0} (m : MeaningValue) (laws : MeaningLaws m) (b : BoardValue) (selves : SelfFlows b.consoles b.flows) (v : ControlValue D) (lawful : Lawful v)
    (u : ℕ) (there : u < b.consoles) (p q : List ℕ) (p_there : commands_answer b.commands p ≡ Ok tt) (q_there : commands_answer b.commands q ≡ Ok tt)
    (counted : counts_answer b v ≡ Ok tt) (p_short : length p ≤ most_compared) (q_short : length q ≤ most_compared) where
  p_below : all_below b.commands p ≡ true
  p_below = passed (all_below b.commands p) NoSuchCommand p_there

  q_below : all_below b.commands q ≡ true
  q_below = passed (all_below b.commands q) NoSuchCommand q_there

  same_both : same_counts b v ≡ true
  same_both = passed (same_counts b v) CountsDiffer counted

  consoles : v.consoles ≡ b.consoles
  consoles = eqb-true _ _ (and_parts (eqb v.consoles b.consoles) (eqb v.commands b.commands) same_both).0

  commands : v.commands ≡ b.commands
  commands = eqb-true _ _ (and_parts (eqb v.consoles b.consoles) (eqb v.commands b.commands) same_both).1

  owners : List ℕ
  owners = map (owner_of v) (range_with_len 0 v.commands)

  owned : (c : ℕ) → owner_of v c < b.consoles
  owned c = subst (λ i. owner_of v c < i) consoles (owner_below v lawful c)

  all_listed : length owners ≡ b.commands
  unfolding owners
  all_listed = length-map-range_with_len (owner_of v) 0 v.commands ∙ commands

  same : (c : ℕ) → c < b.commands → owner_in owners c ≡ owner_of v c
  unfolding owners
  same c h = get_or-map-range_with_len (owner_of v) 0 v.commands c c 0 (omega (arith, commands)) (omega arith)

  listed : (c : ℕ) → c < b.commands → owner_in owners c < b.consoles
  listed c h = subst (λ w. w < b.consoles) (sym (same c h)) (owned c)

  can_compare : (r : List ℕ) → length r ≤ most_compared → all_below b.commands r ≡ true → comparable (length owners) r ≡ true
  can_compare r short below = and_from (leb (length r) most_compared) (all_below (length owners) r) (le-leb _ _ short) (ap (λ i. all_below i r) all_listed ∙ below)

  asked : alike_asked m b.consoles b.flows owners u p q ≡ m.alike b.flows (owner_in owners) u p q
  asked =
      yes_and _ (lt-ltb u b.consoles there)
      ∙ yes_and _ (each_below b.consoles owners (λ c h. listed c (omega (arith, all_listed))))
      ∙ yes_and _ (can_compare p p_short p_below)
      ∙ yes_and _ (can_compare q q_short q_below)

  answered : likeness_answer m b v u p q ≡ Ok (m.alike b.flows (owner_of v) u p q)
  answered =
      cond-true (ltb u b.consoles) _ _ (lt-ltb u b.consoles there)
      ∙ cond-true (all_below b.commands p && all_below b.commands q) _ _ (and_from _ _ p_below q_below)
      ∙ cond-true (same_counts b v) _ _ same_both
      ∙ cond-true (leb (length p) most_compared && leb (length q) most_compared) _ _ (and_from _ _ (le-leb _ _ p_short) (le-leb _ _ q_short))

  pub asked_answered : Ok (alike_asked m b.consoles b.flows (map (owner_of v) (range_with_len 0 v.commands)) u p q) ≡ likeness_answer m b v u p q
  unfolding owners
  asked_answered =
      ap Ok (asked ∙ alike_for m laws b.consoles b.commands b.flows (owner_in owners) (owner_of v) u
      record { selves = selves; owned = listed; there = there }
      record { selves = selves; owned = λ c h. owned c; there = there }
      same p q (below_each b.commands p p_below) (below_each b.commands q q_below))
      ∙ sym answered
