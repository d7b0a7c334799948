-- The theorem is that of ExactControls, at the laws of the kind.
use Rattle.sheet.proofs.ExactControls.{read_written}
use Rattle.sheet.proofs.exact.read_is_written.Goals as goal

pub returns : goal.returns
returns g c =
    let laws = g.met.D.DisplayKind in
    read_written (record { named = laws.named; some = laws.mark_some; short = laws.mark_short; bytes = laws.mark_bytes; back = laws.reads_back; alone = laws.reads_alone })
