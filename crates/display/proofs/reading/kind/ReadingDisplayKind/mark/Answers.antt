-- A count in range has at most six bytes, so none is left off.
use Rattle.std.proofs.Common.{◌++◌, take, sym, ap, ◌∙◌, w16, SFits, to_z, of_z, rules}
use Rattle.std.specs.Fmt.{signed_decimal}
use Rattle.std.proofs.lemmas.Int.{to_z-of_z}
use Rattle.display.specs.Readings.{reading_mark}
use Rattle.display.specs.ReadingsLemmas.{signed_whole}
use Rattle.display.proofs.reading.kind.ReadingDisplayKind.mark.Goals as goal

pub returns-in-Some : goal.returns-in-Some
returns-in-Some c =
    let z = c.in-Some.tenths.count in
    let fits : SFits w16 z = search rules in
    c.push_number.ensures
    ∙ ap (λ l. take 8 (l ++ signed_decimal (to_z w16 (of_z w16 z)))) c.new-mark.ensures
    ∙ ap (λ a. take 8 (signed_decimal a)) (to_z-of_z w16 z fits)
    ∙ signed_whole z c.in-Some.tenths.range
    ∙ ap reading_mark (sym c.in-Some.is)
