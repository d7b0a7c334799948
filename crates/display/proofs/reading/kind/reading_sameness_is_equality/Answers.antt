-- Readings with one count are one reading.
use Rattle.display.specs.ReadingsLemmas.{readings_same_equal}
use Rattle.display.proofs.reading.kind.reading_sameness_is_equality.Goals as goal

pub returns : goal.returns
returns c = readings_same_equal
