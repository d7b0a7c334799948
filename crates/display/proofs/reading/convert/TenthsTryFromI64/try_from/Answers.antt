-- A count in range is that many tenths.
use Rattle.std.proofs.Common.{Ok, sym, arith}
use Rattle.std.proofs.lemmas.Int.{ints}
use Rattle.display.specs.ReadingsLemmas.{tenths_when_fits}
use Rattle.display.proofs.reading.convert.TenthsTryFromI64.try_from.Goals as goal

pub returns : goal.returns
returns c = sym (tenths_when_fits c.args.count Ok _ _ (omega (arith, ints)))
