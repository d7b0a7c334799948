-- For the exchange questions of the three meanings: the order of the two consoles does not count.
use Rattle.std.proofs.Common.{◌≡◌, ℕ, false, sym, refl, ◌∙◌, arith}
use Rattle.std.proofs.lemmas.Bool.{eq-eqb}
use Rattle.std.proofs.lemmas.Bool.Decides.{nat_tests}
use Rattle.theory.specs.Flows.{Flow}
use Rattle.links.specs.Meaning.{MeaningValue}
use Rattle.links.specs.Laws.{Evenhanded}
use Rattle.links.specs.Three.{purge_meaning, intransitive_purge_meaning, transmitted_meaning}

-- a meaning that exchanges no commands
never_exchanging : (m : MeaningValue) → ((F : Flow) (u v w : ℕ) → m.exchange F u v w ≡ false) → ((F : Flow) (u v w z : ℕ) → m.after_exchange F u v w z ≡ false) → Evenhanded m
never_exchanging m never nowhere = record {
  exchange = λ k F _ u v w _ _ _. never F u v w ∙ sym (never F u w v);
  after_exchange = λ k F _ u v w z _ _ _ _. nowhere F u v w z ∙ sym (nowhere F u w v z);
  never_itself = λ k F _ u v _ _. never F u v v;
}

pub purge_evenhanded : Evenhanded purge_meaning
purge_evenhanded = never_exchanging purge_meaning (λ F u v w. refl) (λ F u v w z. refl)

pub intransitive_purge_evenhanded : Evenhanded intransitive_purge_meaning
intransitive_purge_evenhanded = never_exchanging intransitive_purge_meaning (λ F u v w. refl) (λ F u v w z. refl)

pub transmitted_evenhanded : Evenhanded transmitted_meaning
transmitted_evenhanded = record {
  exchange = λ k F _ u v w _ _ _. grind (arith, nat_tests);
  after_exchange = λ k F _ u v w z _ _ _ _. grind arith;
  never_itself = λ k F _ u v _ _. rw (eq-eqb v v refl);
}
