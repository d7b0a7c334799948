-- What a pair that fits answers, from what its sides answer.
use Rattle.std.proofs.Common.{◌≡◌, ℕ, ◌+◌, ◌-◌, ◌*◌, ◌/◌, ◌%◌, ◌<◌, ◌≤◌, true, ltb, sym, ap, ap₂, ◌∙◌, subst, arith}
use Rattle.std.proofs.lemmas.Bool.{lt-ltb, le-ltb, cond-true, cond-false}
use Rattle.theory.specs.Limits.{Count, most_states, number_read}
use Rattle.theory.specs.Control.{ControlValue, Lawful, next_of, display_of, fits, product, side_by_side}
use Rattle.theory.specs.Reading.{number_read_below, number_within}
use Rattle.control.specs.Pairs.{left_state, right_state, side_by_side_lawful}

-- a number that is this one keeps what this one keeps
valued : {n m : ℕ} (P : ℕ → Type 0) → n ≡ m → P m → record { value : n ≡ m; bound : P n }
valued P e h = record { value = e; bound = subst P (sym e) h }

module _ {D : Type 0} {a b : ControlValue D} (left : Lawful a) (right : Lawful b) (fit : fits a b ≡ true) where
  lawful : Lawful (side_by_side a b)
  lawful = side_by_side_lawful left right

  pub beside : side_by_side a b ≡ product a b
  beside = cond-true (fits a b) (product a b) a fit

  pub states_product : {l r : ℕ} → l ≡ a.states → r ≡ b.states → record { value : l * r ≡ (side_by_side a b).states; bound : Count most_states (l * r) }
  states_product el er = valued (Count most_states) (ap₂ ◌*◌ el er ∙ sym (ap (λ v. v.states) beside)) lawful.states_count

  pub start_joined : {s w t : ℕ} → s ≡ a.start → w ≡ b.states → t ≡ b.start → record { value : s * w + t ≡ (side_by_side a b).start; bound : s * w + t < (side_by_side a b).states }
  start_joined es ew et = valued (λ n. n < (side_by_side a b).states) (ap₂ ◌+◌ (ap₂ ◌*◌ es ew) et ∙ sym (ap (λ v. v.start) beside)) lawful.starts

  -- a number that the pair reads among `count` of its own
  read_below : (count : ControlValue D → ℕ) {k n' : ℕ} (n : ℕ) → 1 ≤ count (side_by_side a b) → k ≡ count (side_by_side a b) → n' ≡ number_read k n → n' < count (product a b)
  read_below count {k} {n'} n some ek en =
      let below : n' < k = subst (λ m. m < k) (sym en) (number_read_below k n (omega arith)) in
      subst (λ m. n' < m) (ek ∙ ap count beside) below

  -- State s of the pair, read as s' among its n, is in row s' / w, column s' % w.
  module _ {n s' w : ℕ} (s : ℕ) (en : n ≡ (side_by_side a b).states) (es : s' ≡ number_read n s) (ew : w ≡ b.states) where
    row : s' / w < a.states
    row = subst (λ k. s' / k < a.states) (sym ew) (left_state left right s' (read_below (λ v. v.states) s lawful.states_count.0 en es))

    column : s' % w < b.states
    column = subst (λ k. s' % k < b.states) (sym ew) (right_state left right s')

    state_read : s' ≡ number_read (side_by_side a b).states s
    state_read = es ∙ ap (λ k. number_read k s) en

    -- a step, where command c is read as c' among m; the left side has f commands
    module _ {m c' f : ℕ} (c : ℕ) (em : m ≡ (side_by_side a b).commands) (ec : c' ≡ number_read m c) (ef : f ≡ a.commands) where
      moved : {t : ℕ} → t ≡ (product a b).step s' c' → record { value : t ≡ next_of (side_by_side a b) s c; bound : t < (side_by_side a b).states }
      moved e = valued (λ k. k < (side_by_side a b).states)
          (e ∙ ap (λ v. v.step s' c') (sym beside) ∙ ap₂ (side_by_side a b).step state_read (ec ∙ ap (λ k. number_read k c) em))
          (lawful.stays _ _ (number_read_below _ s lawful.states_count.0) (number_read_below _ c lawful.commands_count.0))

      pub next_left : {r : ℕ} → c' < f → r ≡ next_of a (s' / w) c' → record { value : r * w + s' % w ≡ next_of (side_by_side a b) s c; bound : r * w + s' % w < (side_by_side a b).states }
      next_left first er =
          let here : c' < a.commands = omega arith in
          moved
          (ap (λ k. k * w + s' % w) (er ∙ ap₂ a.step (number_within a.states (s' / w) row) (number_within a.commands c' here))
          ∙ ap (λ k. a.step (s' / k) c' * k + s' % k) ew
          ∙ sym (cond-true (ltb c' a.commands) _ _ (lt-ltb c' a.commands here)))

      pub next_right : {r : ℕ} → f ≤ c' → r ≡ next_of b (s' % w) (c' - f) → record { value : s' / w * w + r ≡ next_of (side_by_side a b) s c; bound : s' / w * w + r < (side_by_side a b).states }
      next_right second er =
          let past : a.commands ≤ c' = omega arith in
          let place : c' - f < b.commands = omega (arith, read_below (λ v. v.commands) c lawful.commands_count.0 em ec) in
          moved
          (ap (λ k. s' / w * w + k) (er ∙ ap₂ b.step (number_within b.states (s' % w) column) (number_within b.commands (c' - f) place))
          ∙ ap (λ k. s' / k * k + b.step (s' % k) (c' - f)) ew
          ∙ ap (λ k. s' / b.states * b.states + b.step (s' % b.states) (c' - k)) ef
          ∙ sym (cond-false (ltb c' a.commands) _ _ (le-ltb c' a.commands past)))

    -- what a console of the left side shows, where console u is read as u' among m
    pub display_left : {m u' f : ℕ} {d : D} (u : ℕ) → m ≡ (side_by_side a b).consoles → u' ≡ number_read m u → f ≡ a.consoles → u' < f → d ≡ display_of a (s' / w) u' → d ≡ display_of (side_by_side a b) s u
    display_left {u' = u'} u em eu ef first ed =
        let here : u' < a.consoles = omega arith in
        ed
        ∙ ap₂ a.shows (number_within a.states (s' / w) row) (number_within a.consoles u' here)
        ∙ ap (λ k. a.shows (s' / k) u') ew
        ∙ sym (cond-true (ltb u' a.consoles) _ _ (lt-ltb u' a.consoles here))
        ∙ ap (λ v. v.shows s' u') (sym beside)
        ∙ ap₂ (side_by_side a b).shows state_read (eu ∙ ap (λ k. number_read k u) em)
