-- Two controls side by side run apart.
use Rattle.std.proofs.Common.{◌≡◌, ℕ, ◌+◌, ◌-◌, ◌*◌, ◌<◌, ◌≤◌, true, false, cond, ltb, List, [], ◌∷◌, refl, ◌∙◌, ap₂, inl, inr, arith}
use Rattle.std.proofs.lemmas.Nat.{mul-add-lt, div-mul-add, mod-mul-add}
use Rattle.std.proofs.lemmas.Bool.{ltb-true, ltb-false, cond_both, and_parts, cases_Bool}
use Rattle.theory.specs.Flows.{Lockout}
use Rattle.theory.specs.Reading.{number_within}
use Rattle.theory.specs.Control.{ControlValue, Lawful, next_of, product}
use Rattle.theory.specs.Runs.{moved, leads, all_below}
use Rattle.theory.specs.Theorems.{left_commands, right_commands, SidesRunApart}

-- a step within the counts is read as it is
within_reach : {D : Type 0} (v : ControlValue D) (s c : ℕ) → s < v.states → c < v.commands → next_of v s c ≡ v.step s c
within_reach v s c hs hc = ap₂ v.step (number_within v.states s hs) (number_within v.commands c hc)

module _ {D : Type 0} (a b : ControlValue D) (L : Lockout) (left : Lawful a) (right : Lawful b) where
  -- a step of the pair at the state of s and t, and where a command of either side moves it
  module _ (s t c : ℕ) (hs : s < a.states) (ht : t < b.states) (hc : c < a.commands + b.commands) where
    stepped : next_of (product a b) (s * b.states + t) c ≡ cond (ltb c a.commands) (a.step s c * b.states + t) (s * b.states + b.step t (c - a.commands))
    stepped =
        within_reach (product a b) (s * b.states + t) c (omega (arith, mul-add-lt s b.states t a.states hs ht)) hc
        ∙ rw (div-mul-add s b.states t ht, mod-mul-add s b.states t ht)

    moves_left : ltb c a.commands ≡ true → (moved (next_of (product a b)) L (s * b.states + t) c ≡ moved (next_of a) L s c * b.states + t) × (moved (next_of a) L s c < a.states)
    moves_left e =
        let mine : c < a.commands = ltb-true c a.commands e in
        rw (stepped, within_reach a s c hs mine, e)
        (grind arith, cond_both (L c) s (a.step s c) (λ x. x < a.states) (λ _. hs) (λ _. left.stays s c hs mine))

    -- the right side's lockout of a command is the pair's of that command behind the left side's
    moves_right : ltb c a.commands ≡ false → let k : ℕ = c - a.commands in let M : Lockout = λ i. L (a.commands + i) in
        (moved (next_of (product a b)) L (s * b.states + t) c ≡ s * b.states + moved (next_of b) M t k) × (moved (next_of b) M t k < b.states)
    moves_right e =
        let other : a.commands ≤ c = ltb-false c a.commands e in
        let place : c - a.commands < b.commands = omega (arith, hc) in
        let same : a.commands + (c - a.commands) ≡ c = omega arith in
        rw (stepped, within_reach b t (c - a.commands) ht place, e, same)
        (grind arith, cond_both (L c) t (b.step t (c - a.commands)) (λ x. x < b.states) (λ _. ht) (λ _. right.stays t (c - a.commands) ht place))

  -- the sides run apart along p, from any states
  abbrev Apart : List ℕ → Type 0
  Apart p =
      (s t : ℕ) → s < a.states → t < b.states → all_below (a.commands + b.commands) p ≡ true
      → leads (next_of (product a b)) L (s * b.states + t) p
      ≡ leads (next_of a) L s (left_commands a.commands p) * b.states + leads (next_of b) (λ c. L (a.commands + c)) t (right_commands a.commands p)

  run_apart : (p : List ℕ) → Apart p
  run_apart [] s t hs ht all = refl
  run_apart (c ∷ p) s t hs ht all =
      let parts = and_parts (ltb c (a.commands + b.commands)) _ all in
      let here = ltb-true c _ parts.0 in
      elim (cases_Bool (ltb c a.commands)) [
        | inl e ↦
            let (took, below) = moves_left s t c hs ht here e in
            rw (took, e) (run_apart p (moved (next_of a) L s c) t below ht parts.1)
        | inr e ↦
            let (took, below) = moves_right s t c hs ht here e in
            rw (took, e) (run_apart p s (moved (next_of b) (λ k. L (a.commands + k)) t (c - a.commands)) hs below parts.1)
      ]

pub sides_run_apart : {D : Type 0} → SidesRunApart D
sides_run_apart a b L left right s t hs ht p all = run_apart a b L left right p s t hs ht all
