-- The reading of 0 tenths is known by its count.
use Rattle.std.proofs.Common.{Some, refl, ap}
use Rattle.display.specs.ReadingsLemmas.{tenths_same}
use Rattle.display.proofs.reading.kind.ReadingDisplayKind.zero.Goals as goal

pub returns : goal.returns
returns c = ap Some (tenths_same _ _ refl)
