-- A number and a negative number are read as that many tenths.
use Rattle.std.proofs.Common.{◌≡◌, pos, neg_ℤ, ◌-ℤ◌, ap, w64, to_z, of_z, arith}
use Rattle.std.proofs.lemmas.Int.{ints}
use Rattle.mark.specs.Tokens.{sort_in, value_in}
use Rattle.mark.proofs.Sorts.{number_told, negative_told}
use Rattle.display.specs.ReadingsLemmas.{reads_number, reads_negative}
use Rattle.display.proofs.reading.kind.ReadingDisplayKind.read.Goals as goal

pub returns-in-Number : goal.returns-in-Number
returns-in-Number c =
    let told = number_told _ _ _ c.in_ok-sort.ensures (ap sort_in c.in-Number.is) (ap value_in c.in-Number.is) in
    let count : to_z w64 (of_z w64 c.from.result) ≡ pos c.in-Number.value = omega (arith, ints, c.from.ensures) in
    reads_number c.args.run.now _ _ _ c.counted.ensures told.0 told.1 count

pub returns-in-Negative : goal.returns-in-Negative
returns-in-Negative c =
    let told = negative_told _ _ _ c.in_ok-sort.ensures (ap sort_in c.in-Negative.is) (ap value_in c.in-Negative.is) in
    let count : to_z w64 (of_z w64 (pos 0 -ℤ to_z w64 (of_z w64 c.from-in-Negative.result))) ≡ neg_ℤ (pos c.in-Negative.value) = omega (arith, ints, c.from-in-Negative.ensures) in
    reads_negative c.args.run.now _ _ _ c.counted-in-Negative.ensures told.0 told.1 count
