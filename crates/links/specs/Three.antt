-- The three meanings: P, IP and TA.
use Rattle.std.specs.Prelude.{ℕ, Bool, true, false, not, ◌&&◌, ◌==◌}
use Rattle.theory.specs.Flows.{Flow}
use Rattle.links.specs.Sequences.{same_sequence}
use Rattle.links.specs.Purge.{purge}
use Rattle.links.specs.Sources.{intransitive_purge}
use Rattle.links.specs.Transmitted.{ta, same_told}
use Rattle.links.specs.Meaning.{MeaningValue}

-- both v and w may affect u
abbrev pub both : Flow → ℕ → ℕ → ℕ → Bool
both F v w u = F v u && F w u

-- P: a command of v is dropped for u where v may not affect u; anything may follow
abbrev pub purge_meaning : MeaningValue
purge_meaning = record {
  alike = λ F owner u p q. same_sequence (purge F owner u p) (purge F owner u q);
  drop = λ F u v. not (F v u);
  after_drop = λ F u v z. true;
  exchange = λ F u v w. false;
  after_exchange = λ F u v w z. false;
}

-- IP: the same drop, and a command of z may follow where v may not affect z
abbrev pub intransitive_purge_meaning : MeaningValue
intransitive_purge_meaning = record {
  alike = λ F owner u p q. same_sequence (intransitive_purge F owner u p) (intransitive_purge F owner u q);
  drop = λ F u v. not (F v u);
  after_drop = λ F u v z. not (F v z);
  exchange = λ F u v w. false;
  after_exchange = λ F u v w z. false;
}

-- TA: as IP; and neighbours of v and w change places for u where the two are different consoles
-- without a flow between them either way, and u is open to one of them at most; a command of z
-- may follow where z is open to one of them at most
abbrev pub transmitted_meaning : MeaningValue
transmitted_meaning = record {
  alike = λ F owner u p q. same_told (ta F owner u p) (ta F owner u q);
  drop = λ F u v. not (F v u);
  after_drop = λ F u v z. not (F v z);
  exchange = λ F u v w. not (v == w) && (not (F v w) && (not (F w v) && not (both F v w u)));
  after_exchange = λ F u v w z. not (both F v w z);
}
