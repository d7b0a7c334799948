-- The theorem is that of ExactControls, at the laws of the kind.
use Rattle.sheet.proofs.ExactControls.{written_read}
use Rattle.sheet.proofs.exact.written_is_read.Goals as goal

pub returns : goal.returns
returns g c =
    let laws = g.met.D.DisplayKind in
    written_read (record { named = laws.named; some = laws.mark_some; short = laws.mark_short; bytes = laws.mark_bytes; back = laws.reads_back; alone = laws.reads_alone })
