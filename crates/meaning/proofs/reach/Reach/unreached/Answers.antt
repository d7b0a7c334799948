-- Who stays in the set is who was in it and is not reached.
use Rattle.std.proofs.Common.{rules}
use Rattle.meaning.proofs.reach.Reach.unreached.Goals as goal

pub returns : goal.returns
returns c x below = let h = c.consoles_where.ensures.passing x below in search rules
