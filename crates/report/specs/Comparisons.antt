-- Two sequences compared for a console, in words.
use Rattle.std.specs.Prelude.{ℕ, Bool, cond, List, ◌++◌, codes, decimal}
use Rattle.theory.specs.Boards.{BoardValue}
use Rattle.theory.specs.Control.{ControlValue, owner_of, next_of, display_of}
use Rattle.theory.specs.Flows.{Lockout}
use Rattle.theory.specs.Runs.{leads}
use Rattle.meaning.specs.Published.{published_meaning, meaning_name}
use Rattle.meaning.specs.declared.published.Published.{Published}

abbrev pub verdict : Published → ℕ → Bool → List ℕ
verdict m u alike =
    codes "Under " ++ (meaning_name m ++ (cond alike (codes " the two sequences are alike for console ") (codes " the two sequences are not alike for console ") ++ (decimal u ++ codes ".\n")))

abbrev pub state_after : List ℕ → ℕ → List ℕ
state_after which s = codes "After the " ++ (which ++ (codes " one the state is " ++ (decimal s ++ codes " and the console shows ")))

-- what console u shows after the sequence p, the first or the second
abbrev pub outcome : {D : Type 0} → (D → List ℕ) → ControlValue D → Lockout → ℕ → List ℕ → List ℕ → List ℕ
outcome mark v L u which p =
    let s : ℕ = leads (next_of v) L v.start p in
    state_after which s ++ (mark (display_of v s u) ++ codes ".\n")

abbrev pub comparison : {D : Type 0} → (D → List ℕ) → ControlValue D → Lockout → Published → ℕ → Bool → List ℕ → List ℕ → List ℕ
comparison mark v L m u alike p q = verdict m u alike ++ (outcome mark v L u (codes "first") p ++ outcome mark v L u (codes "second") q)

-- the same with the verdict that the meaning has for the sequences under the board's flows
abbrev pub compared : {D : Type 0} → (D → List ℕ) → ControlValue D → BoardValue → Published → ℕ → List ℕ → List ℕ → List ℕ
compared mark v b m u p q = comparison mark v b.locked m u ((published_meaning m).alike b.flows (owner_of v) u p q) p q
