-- A number that fits 16 bits is that code.
use Rattle.std.proofs.Common.{◌∙◌}
use Rattle.display.specs.CodesLemmas.{code_tried}
use Rattle.display.proofs.code.convert.CodeTryFromU32.try_from.Goals as goal

pub returns : goal.returns
returns c = c.or.ensures ∙ code_tried c.args.number _ _ c.try_from.ensures c.map.ensures.cases
