-- For chains of links: they join, turn round, stand behind a command, and stay within the commands there are.
use Rattle.std.proofs.Common.{◌≡◌, ℕ, List, ◌∷◌, sym, refl, ◌∙◌}
use Rattle.theory.specs.Flows.{Flow}
use Rattle.links.specs.Meaning.{MeaningValue}
use Rattle.links.specs.Links.{Link, drops, exchanges, later, Linked, done, there, back}
use Rattle.links.proofs.Sequences.{Below}

module _ {m : MeaningValue} {n : ℕ} {F : Flow} {owner : ℕ → ℕ} {u : ℕ} where
  pub joined : {p q r : List ℕ} → Linked m n F owner u p q → Linked m n F owner u q r → Linked m n F owner u p r
  joined done on = on
  joined (there l c) on = there l (joined c on)
  joined (back l c) on = back l (joined c on)

  pub turned : {p q : List ℕ} → Linked m n F owner u p q → Linked m n F owner u q p
  turned done = done
  turned (there l c) = joined (turned c) (back l done)
  turned (back l c) = joined (turned c) (there l done)

  pub linked_later : (c : ℕ) {p q : List ℕ} → Linked m n F owner u p q → Linked m n F owner u (c ∷ p) (c ∷ q)
  linked_later c done = done
  linked_later c (there l d) = there (later c l) (linked_later c d)
  linked_later c (back l d) = back (later c l) (linked_later c d)

  -- a link leads from commands below n to commands below n, either way
  pub there_within : {p q : List ℕ} → Link m n F owner u p q → Below n p → Below n q
  there_within (drops a r _ _ _) h = h.1
  there_within (exchanges a b r _ _) h = (h.1.0, (h.0, h.1.1))
  there_within (later c l) h = (h.0, there_within l h.1)

  pub back_within : {p q : List ℕ} → Link m n F owner u p q → Below n q → Below n p
  back_within (drops a r below _ _) h = (below, h)
  back_within (exchanges a b r _ _) h = (h.1.0, (h.0, h.1.1))
  back_within (later c l) h = (h.0, back_within l h.1)

  -- chains that lead to one sequence lead from one start to the other
  pub linked_through : {p q r s : List ℕ} → Linked m n F owner u p r → Linked m n F owner u q s → r ≡ s → Linked m n F owner u p q
  linked_through c d e = joined c (rw e (turned d))

  -- what each link between commands below n keeps, a chain keeps
  pub chain_keeps : {A : Type 0} (left : List ℕ → A)
      → ((p q : List ℕ) → Below n p → Below n q → Link m n F owner u p q → left p ≡ left q) → {p q : List ℕ} → Linked m n F owner u p q → Below n p → left p ≡ left q
  chain_keeps left kept done h = refl
  chain_keeps left kept (there l c) h = let g = there_within l h in kept _ _ h g l ∙ chain_keeps left kept c g
  chain_keeps left kept (back l c) h = let g = back_within l h in sym (kept _ _ g h l) ∙ chain_keeps left kept c g
