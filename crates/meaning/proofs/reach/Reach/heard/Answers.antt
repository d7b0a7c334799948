-- A console that there is was asked, and no other may affect any.
use Rattle.std.proofs.Common.{◌<◌, ◌≤◌, sym, ◌∙◌, ⊎_elim, arith, rules}
use Rattle.std.proofs.lemmas.Bool.{cases_lt, false_from_ne_true}
use Rattle.policy.specs.Flows.{consoles_of}
use Rattle.meaning.proofs.reach.Reach.heard.Goals as goal

pub returns : goal.returns
returns c x =
    let flows = c.args.self.now.flows.now in
    ⊎_elim
    (λ (there : x < consoles_of flows). let h = c.consoles_where.ensures.passing x there in search rules)
    (λ (past : consoles_of flows ≤ x). c.consoles_where.ensures.within x past ∙ sym (false_from_ne_true _ (λ affects. omega (arith, (flows.within x c.args.console affects).0))))
    (cases_lt x (consoles_of flows))
