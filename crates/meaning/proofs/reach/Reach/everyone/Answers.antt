-- Every console is in the set of all.
use Rattle.std.proofs.Common.{rules}
use Rattle.meaning.proofs.reach.Reach.everyone.Goals as goal

pub returns : goal.returns
returns c x below = let h = c.consoles_where.ensures.passing x below in search rules
