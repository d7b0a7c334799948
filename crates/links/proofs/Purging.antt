-- For P: the plain purge selects the commands whose consoles may affect the console.
use Rattle.std.proofs.Common.{refl}
use Rattle.std.proofs.lemmas.Bool.{not-true, not_from_false}
use Rattle.links.specs.Purge.{purge}
use Rattle.links.specs.Laws.{MeaningLaws}
use Rattle.links.specs.Three.{purge_meaning}
use Rattle.links.proofs.Sequences.{all_given}
use Rattle.links.proofs.Likeness.{purge_alike}
use Rattle.links.proofs.Selecting.{selecting_faithful}
use Rattle.links.proofs.Antitone.{laws, purge_questions}
use Rattle.links.proofs.Evenhanded.{purge_evenhanded}

pub purge_laws : MeaningLaws purge_meaning
purge_laws =
    laws
    (selecting_faithful purge_meaning purge (λ F owner u a r. F (owner a) u) purge_alike (λ k n F owner u _. record {
      empty = refl;
      step = λ a r _. refl;
      never = λ v w. refl;
      same = λ a _. refl;
      unkept = λ a r may _. not-true (F (owner a) u) may;
      droppable = λ a r _ e. (not_from_false (F (owner a) u) e, all_given (λ c. refl) (purge F owner u r));
    }))
    purge_questions
    purge_evenhanded
