-- For TA: how many commands of a console d stand in a sequence and in what a console was told of it.
use Rattle.std.proofs.Common.{◌≡◌, ℕ, ◌+◌, ◌≤◌, max, Bool, true, cond, eqb, List, [], ◌∷◌, refl, arith}
use Rattle.std.proofs.lemmas.Bool.{ne_eqb}
use Rattle.theory.specs.Flows.{Flow}
use Rattle.links.specs.Transmitted.{Told, nothing, told}
use Rattle.links.proofs.Turning.{knows, one_more}

-- how much a test adds to a count
abbrev pub counted : Bool → ℕ
counted test = cond test 1 0

-- the commands of d in a sequence; the sum that std's count_by is does not compute one command on, as omega needs here
abbrev pub acts : (ℕ → ℕ) → ℕ → List ℕ → ℕ
acts owner d [] = 0
acts owner d (b ∷ s) = counted (eqb (owner b) d) + acts owner d s

-- the commands of d that a console heard itself
abbrev pub spine : (ℕ → ℕ) → ℕ → Told → ℕ
spine owner d nothing = 0
spine owner d (told before side b) = counted (eqb (owner b) d) + spine owner d before

-- the most of them that the console, or any console of whose knowledge it was told, heard itself
abbrev pub most : (ℕ → ℕ) → ℕ → Told → ℕ
most owner d nothing = 0
most owner d (told before side b) = max (counted (eqb (owner b) d) + spine owner d before) (max (most owner d before) (most owner d side))

pub spine_most : (owner : ℕ → ℕ) (d : ℕ) (t : Told) → spine owner d t ≤ most owner d t
spine_most owner d nothing = omega arith
spine_most owner d (told before side b) = omega arith

module _ (F : Flow) (owner : ℕ → ℕ) (d : ℕ) where
  -- whom d may affect hears every command of d
  pub spine_acts : (u : ℕ) → F d u ≡ true → (s : List ℕ) → spine owner d (knows F owner s u) ≡ acts owner d s
  spine_acts u e [] = refl
  spine_acts u e (b ∷ s) =
      let on = spine_acts u e s in
      one_more F owner b s u (λ t. spine owner d t ≡ acts owner d (b ∷ s))
      (λ heard. omega arith)
      (λ unheard. rw (ne_eqb (owner b) d (λ same. cc)) (omega arith))

  pub most_acts : (u : ℕ) (s : List ℕ) → most owner d (knows F owner s u) ≤ acts owner d s
  most_acts u [] = omega arith
  most_acts u (b ∷ s) =
      let here = most_acts u s in
      let giver = most_acts (owner b) s in
      let heard_most = spine_most owner d (knows F owner s u) in
      one_more F owner b s u (λ t. most owner d t ≤ acts owner d (b ∷ s))
      (λ heard. omega arith)
      (λ unheard. omega arith)

  -- a command adds to what a console knows
  pub most_kept : (b : ℕ) (s : List ℕ) (u : ℕ) → most owner d (knows F owner s u) ≤ most owner d (knows F owner (b ∷ s) u)
  most_kept b s u =
      one_more F owner b s u (λ t. most owner d (knows F owner s u) ≤ most owner d t)
      (λ heard. omega arith)
      (λ unheard. omega arith)

  -- and, where its giver may affect the console, adds what the giver knew
  pub most_giver : (b : ℕ) (s : List ℕ) (u : ℕ) → F (owner b) u ≡ true → most owner d (knows F owner s (owner b)) ≤ most owner d (knows F owner (b ∷ s) u)
  most_giver b s u heard = rw heard (omega arith)
