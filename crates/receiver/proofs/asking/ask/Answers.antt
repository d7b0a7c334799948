-- The sheet is read as codes, or as readings where it names them.
use Rattle.std.proofs.Common.{replicate, sym, ap, ◌∙◌}
use Rattle.display.specs.Readings.{reading_cell}
use Rattle.receiver.proofs.Choosing.{as_readings, refused_codes, as_codes}
use Rattle.receiver.proofs.asking.ask.Goals as goal

pub ask_as-requires-in-Err : goal.ask_as-requires-in-Err
ask_as-requires-in-Err g c = let same = c.to_cell-in-Err.ensures ∙ ap reading_cell c.zero-in-Err.ensures in ap (replicate 1200) same

pub returns-in-Ok : goal.returns-in-Ok
returns-in-Ok g c = as_codes (g.Q.Question.answered c.args.question.now) c.args.sheet.now c.in-Ok.answer c.in-Ok.ensures

pub returns-in-Err : goal.returns-in-Err
returns-in-Err g c =
    as_readings (g.Q.Question.answered c.args.question.now) c.args.sheet.now c.in-Err.refusal c.ask_as-in-Err.result c.in-Err.ensures
    (sym c.names_readings.ensures ∙ c.if-names_readings.true) c.ask_as-in-Err.ensures

pub returns-in-Err-2 : goal.returns-in-Err-2
returns-in-Err-2 g c =
    refused_codes (g.Q.Question.answered c.args.question.now) c.args.sheet.now c.in-Err.refusal c.in-Err.ensures (sym c.names_readings.ensures ∙ c.if-names_readings.false)
