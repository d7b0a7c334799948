-- One byte more is written behind the first ones.
use Rattle.std.proofs.Common.{sym}
use Rattle.std.proofs.lemmas.List.{take_more}
use Rattle.sheet.proofs.Writing.{writes_more, writes_as}
use Rattle.sheet.proofs.output.Output.text.Goals as goal

pub loop-byte-preserved : goal.loop-byte-preserved
loop-byte-preserved c = writes_as (sym (take_more c.args.bytes.now c.loop-byte.byte-index 0 c.loop-byte-test.true)) (writes_more _ _ c.loop-byte.invariant c.push.ensures)
