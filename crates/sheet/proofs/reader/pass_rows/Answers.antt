-- Every row reaches as far as the rows behind it.
use Rattle.std.proofs.Common.{sym, subst}
use Rattle.std.proofs.lemmas.Option.{MatchOption-at_some}
use Rattle.sheet.specs.Entries.{rows_behind}
use Rattle.sheet.specs.Passes.{Stepped, Ended}
use Rattle.sheet.proofs.Passed.{Passing, passing_start, passing_more, pass_ready, pass_whole}
use Rattle.sheet.proofs.reader.pass_rows.Goals as goal

pub loop-init : goal.loop-init
loop-init g c =
    let reads = g.D.DisplayKind.reads in
    let h = c.args.heading.now in
    let a = c.args.cursor.now in
    let W = rows_behind reads h a in
    subst (Passing reads h W) (sym c.start-progress.ensures) (passing_start reads h W a (pass_ready reads h h.within a) (pass_whole reads h a))

pub loop-preserved : goal.loop-preserved
loop-preserved g c =
    let reads = g.D.DisplayKind.reads in
    let h = c.args.heading.now in
    let p = c.loop.progress in
    let q = c.next.new.self in
    let t = MatchOption-at_some (Ended p q) (λ y. Stepped reads h p q y.0 y.1) c.in-Some.field-0 c.in-Some.is c.in_ok-next.ensures in
    passing_more reads h (rows_behind reads h c.args.cursor.now) p q c.in-Some.field-0.0 c.in-Some.field-0.1 c.loop.invariant t
