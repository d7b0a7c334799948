-- The names are read one after the other.
use Rattle.std.proofs.Common.{◌≡◌, map, drop}
use Rattle.sheet.specs.Reading.{names_at}
use Rattle.sheet.proofs.marks.Cursor.names.Given as goal

-- what the names say from the start on is what those that are left say from here
abbrev pub invariant-loop-word : goal.invariant-loop-word
invariant-loop-word l = record {
  rest : names_at (map (λ x. x.now) l.due) l.initial.self.sheet.now l.initial.self.at ≡ names_at (map (λ x. x.now) (drop l.word-index l.due)) l.self.sheet.now l.self.at;
  sheet : l.self.sheet ≡ l.initial.self.sheet;
}
