-- A word and the byte behind it are one text.
use Rattle.sheet.proofs.Writing.{writes_more}
use Rattle.sheet.proofs.output.Output.word.Goals as goal

pub returns : goal.returns
returns c = writes_more _ _ c.text.ensures c.push.ensures
