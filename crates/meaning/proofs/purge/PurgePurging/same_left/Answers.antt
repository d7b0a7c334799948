-- Both iterators give what the purge leaves of their sequences.
use Rattle.std.proofs.Common.{◌≡◌, ℕ, refl, nat_eq, rules}
use Rattle.std.proofs.lemmas.Iterator.{YieldsList-from_slice}
use Rattle.std.proofs.lemmas.Iterator.Consumers.{YieldsList-at, YieldsList-from_filter}
use Rattle.meaning.specs.Reach.{flow_of, giver_of}
use Rattle.meaning.proofs.Comparing.{pointwise_from_yields}
use Rattle.meaning.proofs.purge.PurgePurging.same_left.Goals as goal

pub returns : goal.returns
returns c =
    let reach = c.args.reach.now in
    let counts = λ (a : ℕ). flow_of reach (giver_of reach a) c.args.console in
    pointwise_from_yields (λ k it. it ≡ k) c.filter-2.result nat_eq _ c.eq.ensures.ran
    (YieldsList-from_filter _ counts (YieldsList-at c.filter.ensures.source (YieldsList-from_slice c.args.left.now.commands.now cc)) c.filter.ensures.closure (λ x b q k. search rules))
    (λ it same. YieldsList-at same (YieldsList-from_filter _ counts (YieldsList-at c.filter-2.ensures.source (YieldsList-from_slice c.args.right.now.commands.now cc)) c.filter-2.ensures.closure (λ x b q k. search rules)))
    (λ x y. refl)
