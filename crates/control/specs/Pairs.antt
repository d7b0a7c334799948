-- Two controls side by side keep the laws of a control.
use Rattle.std.specs.Prelude.{◌≡◌, ℕ, ◌+◌, ◌-◌, ◌*◌, ◌/◌, ◌%◌, ◌<◌, true, cond, ◌&&◌, Ok, Err, Result, nat_le, nat_lt}
use Rattle.std.proofs.Common.{arith}
use Rattle.std.proofs.lemmas.Nat.{mul-le, mul-add-lt, div_below, mod_below}
use Rattle.std.proofs.lemmas.Bool.{leb-true, ltb-true, ltb-false, and_parts, cond_both}
use Rattle.policy.specs.declared.refusal.Refusal.{Refusal}
use Rattle.policy.specs.declared.refusal.Refusal.TheVariants.{DoesNotFit}
use Rattle.theory.specs.Limits.{most_states, most_commands, most_consoles}
use Rattle.theory.specs.Control.{ControlValue, Lawful, fits, product, side_by_side}

-- the first call for a pair: whether it keeps the limits
abbrev pub fit_answer : {D : Type 0} → ControlValue D → ControlValue D → Result (Unit {0}) Refusal
fit_answer a b = cond (fits a b) (Ok tt) (Err DoesNotFit)

module _ {D : Type 0} {a b : ControlValue D} (left : Lawful a) (right : Lawful b) where
  -- a state of the pair, taken apart
  pub left_state : (s : ℕ) → s < a.states * b.states → s / b.states < a.states
  left_state s h = div_below s b.states a.states right.states_count.0 h

  pub right_state : (s : ℕ) → s % b.states < b.states
  right_state s = mod_below s b.states right.states_count.0

  -- and put together
  joined_state : (s1 s2 : ℕ) → s1 < a.states → s2 < b.states → s1 * b.states + s2 < a.states * b.states
  joined_state s1 s2 h k = omega (arith, mul-add-lt s1 b.states s2 a.states h k)

  pub product_lawful : fits a b ≡ true → Lawful (product a b)
  product_lawful fit =
      let all = and_parts (nat_le (a.states * b.states) most_states) (nat_le (a.commands + b.commands) most_commands && nat_le (a.consoles + b.consoles) most_consoles) fit in
      let sums = and_parts (nat_le (a.commands + b.commands) most_commands) (nat_le (a.consoles + b.consoles) most_consoles) all.1 in
      record {
        states_count = (omega (arith, mul-le 1 1 a.states b.states left.states_count.0 right.states_count.0), leb-true _ _ all.0);
        commands_count = (omega (arith, left.commands_count.0), leb-true _ _ sums.0);
        consoles_count = (omega (arith, left.consoles_count.0), leb-true _ _ sums.1);
        starts = joined_state a.start b.start left.starts right.starts;
        owned = λ c h. cond_both (nat_lt c a.commands) (a.owner c) (a.consoles + b.owner (c - a.commands)) (λ u. u < a.consoles + b.consoles)
            (λ first. omega (arith, left.owned c (ltb-true _ _ first)))
            (λ second. omega (arith, right.owned (c - a.commands) (omega (arith, ltb-false _ _ second, h))));
        stays = λ s c h k. cond_both (nat_lt c a.commands) _ _ (λ t. t < a.states * b.states)
            (λ first. joined_state (a.step (s / b.states) c) (s % b.states) (left.stays (s / b.states) c (left_state s h) (ltb-true _ _ first)) (right_state s))
            (λ second. joined_state (s / b.states) (b.step (s % b.states) (c - a.commands)) (left_state s h)
            (right.stays (s % b.states) (c - a.commands) (right_state s) (omega (arith, ltb-false _ _ second, k))));
      }

  pub side_by_side_lawful : Lawful (side_by_side a b)
  side_by_side_lawful = cond_both (fits a b) (product a b) a Lawful product_lawful (λ unfit. left)
