-- The flows are read one after the other, and each is one pair more.
use Rattle.std.proofs.Common.{◌≡◌, ◌-◌, ◌*◌}
use Rattle.sheet.proofs.Listing.{Listing}
use Rattle.sheet.proofs.flows.all_flows.Given as goal

-- the board lists what was read
abbrev pub invariant-loop-pair : goal.invariant-loop-pair
invariant-loop-pair l = record {
  listing : Listing l.heading.counts l.initial.cursor.sheet.now l.line l.initial.cursor.at l.board l.low l.row l.cursor.at;
  sheet : l.cursor.sheet ≡ l.initial.cursor.sheet;
}

abbrev pub decreases-loop-pair : goal.decreases-loop-pair
decreases-loop-pair l = l.heading.counts.consoles * l.heading.counts.consoles - l.low
