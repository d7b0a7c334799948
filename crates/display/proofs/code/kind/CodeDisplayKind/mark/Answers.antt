-- The digits of a code are at most five, so none is left off.
use Rattle.std.proofs.Common.{◌++◌, take, decimal, ap₂, ◌∙◌, arith}
use Rattle.display.specs.MarksLemmas.{decimal_whole}
use Rattle.display.proofs.code.kind.CodeDisplayKind.mark.Goals as goal

pub returns : goal.returns
returns c =
    c.push_decimal.ensures ∙ ap₂ (λ l n. take 8 (l ++ decimal n)) c.new-mark.ensures c.from.ensures ∙ decimal_whole c.args.self.now.number (omega arith)
