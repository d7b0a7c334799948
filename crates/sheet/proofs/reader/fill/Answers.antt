-- Each row that is read is kept at its place, and reaches as far as the rows behind it.
use Rattle.std.proofs.Common.{length, sym, refl, subst}
use Rattle.std.proofs.lemmas.Option.{MatchOption-at_some}
use Rattle.sheet.specs.Reading.{plan_of, rows_at}
use Rattle.sheet.specs.Due.{StandsLeft}
use Rattle.sheet.specs.Entries.{counted}
use Rattle.sheet.specs.Passes.{Stepped, Ended}
use Rattle.sheet.proofs.Passed.{pass_ready, pass_whole}
use Rattle.sheet.proofs.Filling.{Filling, filling_start, filling_more, room_for}
use Rattle.sheet.proofs.reader.fill.Goals as goal

pub loop-due-init : goal.loop-due-init
loop-due-init g c =
    let reads = g.D.DisplayKind.reads in
    let h = c.args.heading.now in
    let s = c.args.cursor.sheet.now in
    let W = rows_at reads (counted h) s (plan_of (counted h)) 3 c.args.cursor.at in
    subst (λ p. Filling reads h g.D.DisplayKind.cell W c.args.steps.now c.args.owners.now c.args.displays.now p c.args.steps.now c.args.owners.now c.args.displays.now) (sym c.start-progress.ensures)
    (filling_start reads h g.D.DisplayKind.cell W c.args.steps.now c.args.owners.now c.args.displays.now c.args.cursor (pass_ready reads h h.within c.args.cursor) (pass_whole reads h c.args.cursor))

pub keep-requires : goal.keep-requires
keep-requires g c =
    let reads = g.D.DisplayKind.reads in
    let h = c.args.heading.now in
    let s = c.args.cursor.sheet.now in
    let p = c.loop-due.progress in
    let q = c.next.new.self in
    let t = MatchOption-at_some (Ended p q) (λ y. Stepped reads h p q y.0 y.1) (c.in-Some.due, c.in-Some.entry) c.in-Some.is c.in_ok-due.ensures in
    room_for h.counts h.within (length c.args.steps.now) (length c.args.owners.now) (length c.args.displays.now) (length c.loop-due.steps) (length c.loop-due.owners) (length c.loop-due.displays) c.requires c.loop-due.auto.steps c.loop-due.auto.owners c.loop-due.auto.displays c.in-Some.due
    (subst (StandsLeft h.counts) t.was c.loop-due.invariant.passing.ready.stands)

pub loop-due-preserved : goal.loop-due-preserved
loop-due-preserved g c =
    let reads = g.D.DisplayKind.reads in
    let h = c.args.heading.now in
    let s = c.args.cursor.sheet.now in
    let p = c.loop-due.progress in
    let q = c.next.new.self in
    let d = c.in-Some.due in
    let v = c.in-Some.entry in
    let steps = c.args.steps.now in
    let owners = c.args.owners.now in
    let displays = c.args.displays.now in
    let t = MatchOption-at_some (Ended p q) (λ y. Stepped reads h p q y.0 y.1) (d, v) c.in-Some.is c.in_ok-due.ensures in
    let stands = subst (StandsLeft h.counts) t.was c.loop-due.invariant.passing.ready.stands in
    filling_more reads h g.D.DisplayKind.cell (rows_at reads (counted h) s (plan_of (counted h)) 3 c.args.cursor.at) steps owners displays p c.loop-due.steps c.loop-due.owners c.loop-due.displays c.loop-due.invariant q d v c.keep.new.steps c.keep.new.owners c.keep.new.displays t
    (room_for h.counts h.within (length steps) (length owners) (length displays) (length steps) (length owners) (length displays) c.requires refl refl refl d stands)
    stands c.keep.ensures.steps c.keep.ensures.owners c.keep.ensures.displays
