-- For flows taken away: a yes to a question of the three meanings stays, and so does a yes to `alike` of any faithful meaning.
use Rattle.std.proofs.Common.{◌≡◌, ℕ, true, not, refl, arith}
use Rattle.theory.specs.Flows.{Flow}
use Rattle.links.specs.Meaning.{MeaningValue}
use Rattle.links.specs.Laws.{Fewer, Faithful, Antitone, Evenhanded, MeaningLaws}
use Rattle.links.specs.Three.{purge_meaning, intransitive_purge_meaning, transmitted_meaning}
use Rattle.links.proofs.Carrying.{alike_carried}

-- m with an `alike` that always says yes, so that being antitone speaks of its questions alone
abbrev pub questions_of : MeaningValue → MeaningValue
questions_of m = record {
  alike = λ F owner u p q. true;
  drop = m.drop;
  after_drop = m.after_drop;
  exchange = m.exchange;
  after_exchange = m.after_exchange;
}

-- every link under more flows is one under fewer, and so `alike` is antitone too
antitone : {m : MeaningValue} → Faithful m → Antitone (questions_of m) → Antitone m
antitone faith questions = record {
  alike = λ k n F G owner u fewer more within. alike_carried faith more fewer (record {
    drop = λ a ha.
        questions.drop k F G fewer.selves more.selves within u (owner a) fewer.there (fewer.owned a ha);
    after_drop = λ a c ha hc.
        questions.after_drop k F G fewer.selves more.selves within u (owner a) (owner c) fewer.there (fewer.owned a ha) (fewer.owned c hc);
    exchange = λ a b ha hb.
        questions.exchange k F G fewer.selves more.selves within u (owner a) (owner b) fewer.there (fewer.owned a ha) (fewer.owned b hb);
    after_exchange = λ a b c ha hb hc.
        questions.after_exchange k F G fewer.selves more.selves within u (owner a) (owner b) (owner c) fewer.there (fewer.owned a ha) (fewer.owned b hb) (fewer.owned c hc);
  });
  drop = questions.drop;
  after_drop = questions.after_drop;
  exchange = questions.exchange;
  after_exchange = questions.after_exchange;
}

pub laws : {m : MeaningValue} → Faithful m → Antitone (questions_of m) → Evenhanded m → MeaningLaws m
laws faith questions even = record { faithful = faith; antitone = antitone faith questions; evenhanded = even }

-- a no stays a no where fewer things hold
no_flow_stays : {F G : Flow} → Fewer F G → (v w : ℕ) → not (G v w) ≡ true → not (F v w) ≡ true
no_flow_stays within v w unaffected = grind (arith, within v w)

pub purge_questions : Antitone (questions_of purge_meaning)
purge_questions = record {
  alike = λ k n F G owner u _ _ _ p q _ _ e. refl;
  drop = λ k F G _ _ within u v _ _. no_flow_stays within v u;
  after_drop = λ k F G _ _ _ u v z _ _ _ e. e;
  exchange = λ k F G _ _ _ u v w _ _ _ e. e;
  after_exchange = λ k F G _ _ _ u v w z _ _ _ _ e. e;
}

pub intransitive_purge_questions : Antitone (questions_of intransitive_purge_meaning)
intransitive_purge_questions = record {
  alike = purge_questions.alike;
  drop = purge_questions.drop;
  after_drop = λ k F G _ _ within u v z _ _ _. no_flow_stays within v z;
  exchange = purge_questions.exchange;
  after_exchange = purge_questions.after_exchange;
}

pub transmitted_questions : Antitone (questions_of transmitted_meaning)
transmitted_questions = record {
  alike = purge_questions.alike;
  drop = purge_questions.drop;
  after_drop = intransitive_purge_questions.after_drop;
  exchange = λ k F G _ _ within u v w _ _ _ yes_exchange. grind (arith, within v w, within w v, within v u, within w u);
  after_exchange = λ k F G _ _ within u v w z _ _ _ _ yes_after. grind (arith, within v z, within w z);
}
