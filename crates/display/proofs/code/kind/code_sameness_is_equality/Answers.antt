-- Codes with one number are one code.
use Rattle.display.specs.CodesLemmas.{codes_same_equal}
use Rattle.display.proofs.code.kind.code_sameness_is_equality.Goals as goal

pub returns : goal.returns
returns c = codes_same_equal
