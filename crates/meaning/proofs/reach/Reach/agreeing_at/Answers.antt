-- A corner whose neighbours are right says who is told the same there.
use Rattle.std.proofs.Common.{◌≡◌, ◌∙◌, rules}
use Rattle.policy.specs.Members.{holds}
use Rattle.meaning.specs.Agreeing.{corner_alike}
use Rattle.meaning.proofs.Agreement.{corner_told}
use Rattle.meaning.proofs.reach.Reach.agreeing_at.Goals as goal

pub returns : goal.returns
returns c p q known x below =
    let h = c.consoles_where.ensures.passing x below in
    let at : holds c.consoles_where.result x ≡ corner_alike c.args.self.now c.args.corner x = search rules in
    at ∙ corner_told c.args.self.now p q c.args.corner known x below
