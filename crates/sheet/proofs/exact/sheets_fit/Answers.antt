-- The theorem is that of SheetLengths, at the laws of the kind.
use Rattle.sheet.proofs.SheetLengths.{all_fit}
use Rattle.sheet.proofs.exact.sheets_fit.Goals as goal

pub returns : goal.returns
returns g c =
    let laws = g.met.D.DisplayKind in
    all_fit g.D.DisplayKind.kind g.D.DisplayKind.marked laws.named laws.mark_short
