-- For the link theorem of P and IP: of meanings that exchange no commands and leave of a sequence those that a test keeps.
use Rattle.std.proofs.Common.{◌≡◌, ℕ, ◌<◌, Bool, true, false, cond, List, [], ◌∷◌, sym, ◌∙◌, ap₂}
use Rattle.std.proofs.lemmas.Bool.{both_ways, cond-false, cond_both}
use Rattle.theory.specs.Flows.{Flow}
use Rattle.links.specs.Sequences.{Every}
use Rattle.links.specs.Meaning.{MeaningValue}
use Rattle.links.specs.Links.{Link, drops, exchanges, later, Linked, done, there}
use Rattle.links.specs.Laws.{Setting, Faithful}
use Rattle.links.specs.Equality.{AlikeWhereEqual}
use Rattle.links.proofs.Sequences.{Below}
use Rattle.links.proofs.Chains.{joined, linked_later, linked_through}
use Rattle.links.proofs.Faithful.{faithful}

-- What stands in `left` of a sequence: a command a before r where `keep a r` says yes, and nothing else.
pub record Selects (m : MeaningValue) (n : ℕ) (F : Flow) (owner : ℕ → ℕ) (u : ℕ) (keep : ℕ → List ℕ → Bool) (left : List ℕ → List ℕ) : Type 0 where
  pub empty : left [] ≡ []
  pub step : (a : ℕ) (r : List ℕ) → a < n → left (a ∷ r) ≡ cond (keep a r) (a ∷ left r) (left r)
  pub never : (v w : ℕ) → m.exchange F u v w ≡ false
  -- a link leaves the answer on each command before it
  pub same : (a : ℕ) {p q : List ℕ} → Link m n F owner u p q → keep a p ≡ keep a q
  -- what a link drops is not kept
  pub unkept : (a : ℕ) (r : List ℕ) → m.drop F u (owner a) ≡ true → Every (λ c. m.after_drop F u (owner a) (owner c) ≡ true) r → keep a r ≡ false
  -- what is not kept may be dropped before what is left
  pub droppable : (a : ℕ) (r : List ℕ) → Below n r → keep a r ≡ false → (m.drop F u (owner a) ≡ true) × Every (λ c. m.after_drop F u (owner a) (owner c) ≡ true) (left r)

module _ {m : MeaningValue} {n : ℕ} {F : Flow} {owner : ℕ → ℕ} {u : ℕ} {keep : ℕ → List ℕ → Bool} {left : List ℕ → List ℕ} (selects : Selects m n F owner u keep left) where
  link_keeps_left : {p q : List ℕ} → Link m n F owner u p q → Below n p → left p ≡ left q
  link_keeps_left (drops a r below dropped after) h = selects.step a r below ∙ cond-false (keep a r) _ _ (selects.unkept a r dropped after)
  link_keeps_left (exchanges a b r may _) h = absurd (both_ways _ (selects.never (owner a) (owner b)) may)
  link_keeps_left (later c l) h =
      selects.step c _ h.0 ∙ ap₂ (λ b s. cond b (c ∷ s) s) (selects.same c l) (link_keeps_left l h.1) ∙ sym (selects.step c _ h.0)

  leads_to_left : (p : List ℕ) → Below n p → Linked m n F owner u p (left p)
  leads_to_left [] h = rw selects.empty done
  leads_to_left (a ∷ r) h =
      let on = linked_later a (leads_to_left r h.1) in
      rw (selects.step a r h.0)
      (cond_both (keep a r) (a ∷ left r) (left r) (Linked m n F owner u (a ∷ r))
      (λ _. on)
      (λ e. let may = selects.droppable a r h.1 e in joined on (there (drops a (left r) h.0 may.0 may.1) done)))

-- Such a meaning is faithful where its `alike` is equality of what is left.
pub selecting_faithful : (m : MeaningValue) (left : Flow → (ℕ → ℕ) → ℕ → List ℕ → List ℕ) (keep : Flow → (ℕ → ℕ) → ℕ → ℕ → List ℕ → Bool) → AlikeWhereEqual m left
    → ((k n : ℕ) (F : Flow) (owner : ℕ → ℕ) (u : ℕ) → Setting k n F owner u → Selects m n F owner u (keep F owner u) (left F owner u))
    → Faithful m
selecting_faithful m left keep equal selects =
    faithful m left equal
    (λ k n F owner u setting p q hp hq l. link_keeps_left (selects k n F owner u setting) l hp)
    (λ k n F owner u setting p q hp hq e. let s = selects k n F owner u setting in linked_through (leads_to_left s p hp) (leads_to_left s q hq) e)
