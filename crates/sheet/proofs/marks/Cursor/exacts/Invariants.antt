-- The numbers are read one after the other.
use Rattle.std.proofs.Common.{◌≡◌, drop}
use Rattle.sheet.specs.Reading.{exacts_at}
use Rattle.sheet.proofs.marks.Cursor.exacts.Given as goal

-- what the numbers say from the start on is what those that are left say from here
abbrev pub invariant-loop-number : goal.invariant-loop-number
invariant-loop-number l = record {
  rest : exacts_at l.due l.initial.self.sheet.now l.initial.self.at ≡ exacts_at (drop l.number-index l.due) l.self.sheet.now l.self.at;
  sheet : l.self.sheet ≡ l.initial.self.sheet;
}
