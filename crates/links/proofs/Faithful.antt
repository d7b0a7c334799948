-- For the link theorem of any meaning that is equality of what it leaves of a sequence.
use Rattle.std.proofs.Common.{◌≡◌, ℕ, List}
use Rattle.theory.specs.Flows.{Flow}
use Rattle.links.specs.Meaning.{MeaningValue}
use Rattle.links.specs.Links.{Link, Linked}
use Rattle.links.specs.Laws.{Setting, Faithful}
use Rattle.links.specs.Equality.{AlikeWhereEqual}
use Rattle.links.proofs.Sequences.{Below}
use Rattle.links.proofs.Chains.{chain_keeps}

-- It is faithful where each link keeps what is left, and where sequences of which the same is left are linked.
pub faithful : {A : Type 0} (m : MeaningValue) (left : Flow → (ℕ → ℕ) → ℕ → List ℕ → A) → AlikeWhereEqual m left
    → ((k n : ℕ) (F : Flow) (owner : ℕ → ℕ) (u : ℕ) → Setting k n F owner u → (p q : List ℕ) → Below n p → Below n q → Link m n F owner u p q → left F owner u p ≡ left F owner u q)
    → ((k n : ℕ) (F : Flow) (owner : ℕ → ℕ) (u : ℕ) → Setting k n F owner u → (p q : List ℕ) → Below n p → Below n q → left F owner u p ≡ left F owner u q → Linked m n F owner u p q)
    → Faithful m
faithful m left equal kept found = record {
  linked = λ k n F owner u setting p q hp hq yes_alike. found k n F owner u setting p q hp hq ((equal F owner u p q).0 yes_alike);
  likened = λ k n F owner u setting p q hp hq chain. (equal F owner u p q).1 (chain_keeps (left F owner u) (kept k n F owner u setting) chain hp);
}
