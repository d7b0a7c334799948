-- The tenths that are found are the reading.
use Rattle.std.proofs.Common.{◌≡◌, w64, to_z, of_z, arith}
use Rattle.std.proofs.lemmas.Int.{ints}
use Rattle.display.specs.ReadingsLemmas.{reading_found}
use Rattle.display.proofs.reading.kind.counted.Goals as goal

pub returns : goal.returns
returns c =
    let kept : to_z w64 (of_z w64 c.args.count) ≡ c.args.count = omega (arith, ints) in
    reading_found _ _ _ _ c.try_from.ensures c.map.ensures.cases kept
