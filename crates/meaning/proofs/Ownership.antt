-- For a lawful meaning: only the consoles of the commands that there are count.
use Rattle.std.proofs.Common.{◌≡◌, ℕ, ◌<◌, true, List, sym}
use Rattle.std.proofs.lemmas.Bool.Decides.{same_from_decides}
use Rattle.theory.specs.Flows.{Flow}
use Rattle.links.specs.Meaning.{MeaningValue}
use Rattle.links.specs.Laws.{Setting, MeaningLaws}
use Rattle.links.proofs.Sequences.{Below}
use Rattle.links.proofs.Carrying.{Carries, alike_carried}

carries_for : (m : MeaningValue) (n : ℕ) (F : Flow) (owner giver : ℕ → ℕ) (u : ℕ) → ((c : ℕ) → c < n → owner c ≡ giver c) → Carries m n F F owner giver u
carries_for m n F owner giver u same = record {
  drop = λ a ha e. cc (same a ha);
  after_drop = λ a c ha hc e. cc (same a ha, same c hc);
  exchange = λ a b ha hb e. cc (same a ha, same b hb);
  after_exchange = λ a b c ha hb hc e. cc (same a ha, same b hb, same c hc);
}

-- two tables of consoles that agree on the commands below n give one answer
pub alike_for : (m : MeaningValue) → MeaningLaws m → (k n : ℕ) (F : Flow) (owner giver : ℕ → ℕ) (u : ℕ) → Setting k n F owner u → Setting k n F giver u
    → ((c : ℕ) → c < n → owner c ≡ giver c) → (p q : List ℕ) → Below n p → Below n q → m.alike F owner u p q ≡ m.alike F giver u p q
alike_for m laws k n F owner giver u owned given same p q p_below q_below =
    same_from_decides {P = m.alike F owner u p q ≡ true} (m.alike F owner u p q) (m.alike F giver u p q) ((λ e. e), (λ e. e)) (
      alike_carried laws.faithful given owned (carries_for m n F giver owner u (λ c h. sym (same c h))) p q p_below q_below,
      alike_carried laws.faithful owned given (carries_for m n F owner giver u same) p q p_below q_below,
    )
