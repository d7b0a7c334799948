-- The row that was due is read on its line and in its block, and then the next is due.
use Rattle.std.proofs.Common.{◌≡◌, Ok, Err, refl, arith}
use Rattle.std.proofs.lemmas.Grind.{common_steps}
use Rattle.sheet.specs.Faults.{on_line}
use Rattle.sheet.specs.Reading.{value_at}
use Rattle.sheet.specs.Due.{row_of, number_of}
use Rattle.sheet.specs.Entries.{counted, value_of, Kinded}
use Rattle.sheet.proofs.Going.{left_with}
use Rattle.sheet.proofs.Steps.{faulted, stepped}
use Rattle.sheet.proofs.progress.Progress.next.Goals as goal

pub returns-in_err-entry : goal.returns-in_err-entry
returns-in_err-entry g c =
    let p = c.args.self.now in
    let h = c.args.heading.now in
    let d = c.in-Some.due in
    let f = c.in_err-entry.field-0.0 in
    let fault : Err f ≡ on_line p.line (number_of d) (value_at g.D.DisplayKind.reads (counted h) p.cursor.sheet.now (row_of h.counts d) p.cursor.at) = grind (arith, common_steps) in
    left_with _ _ c.from_residual.result f c.from_residual.ensures.1
    (faulted g.D.DisplayKind.reads h p d c.in-Some.is c.requires f fault)

pub returns : goal.returns
returns g c =
    let p = c.args.self.now in
    let h = c.args.heading.now in
    let d = c.in-Some.due in
    let v = c.in_ok-entry.entry in
    let entry : Ok (value_of v, c.row.new.cursor.at) ≡ on_line p.line (number_of d) (value_at g.D.DisplayKind.reads (counted h) p.cursor.sheet.now (row_of h.counts d) p.cursor.at) = grind (arith, common_steps) in
    let kind : Kinded d v = grind (arith, common_steps) in
    stepped g.D.DisplayKind.reads h p d c.in-Some.is c.requires h.within _ v c.after-self.ensures refl c.row.ensures.sheet kind entry
