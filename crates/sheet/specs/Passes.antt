-- A pass over the rows before the flows: one row, the end, and the fault that stops it.
use Rattle.std.specs.Prelude.{◌≡◌, ℕ, ◌+◌, ◌≤◌, List, length, Some, None, Ok, Err, Option, Result, MatchOption, MatchResult}
use Rattle.mark.specs.declared.cause.Cause.{Cause}
use Rattle.control.specs.declared.table.Counts.{Counts}
use Rattle.sheet.specs.Faults.{on}
use Rattle.sheet.specs.Reading.{Entries, with_value, rows_at}
use Rattle.sheet.specs.Due.{highest_line, rows_left, next_due, StandsLeft}
use Rattle.sheet.specs.Entries.{counted, value_of, Kinded}
use Rattle.sheet.specs.declared.due.Block.TheVariants as block
use Rattle.sheet.specs.declared.due.Due.{Due}
use Rattle.sheet.specs.declared.due.Due.TheVariants as due
use Rattle.sheet.specs.declared.fault.SheetFault.{SheetFault}
use Rattle.sheet.specs.declared.marks.Cursor.{Cursor}
use Rattle.sheet.specs.declared.progress.Progress.{Progress}
use Rattle.sheet.specs.declared.heading.Heading.{Heading}
use Rattle.sheet.specs.declared.rows.Entry.{Entry}

-- the line behind the rows that are left
abbrev pub line_behind : Counts → Progress → ℕ
line_behind c p = p.line + length (rows_left c p.due)

-- the row that is due stands in the plan, and no line passes the last of a largest sheet
pub record Ready (c : Counts) (p : Progress) : Type 0 where
  pub stands : StandsLeft c p.due
  pub lines : line_behind c p ≤ highest_line

-- no row is left, and none was read
pub record Ended (p q : Progress) : Type 0 where
  pub none : p.due ≡ None
  pub same : q ≡ p

module _ {D : Type 0} (reads : List ℕ → Result D Cause) (h : Heading) where
  -- what the rows that are left say
  abbrev pub left_at : Progress → Result (Entries D × ℕ) SheetFault
  left_at p = rows_at reads (counted h) p.cursor.sheet.now (rows_left h.counts p.due) p.line p.cursor.at

  -- row d was read as v, from p to q
  pub record Stepped (p q : Progress) (d : Due) (v : Entry D) : Type 0 where
    pub was : p.due ≡ Some d
    pub next : q.due ≡ next_due h.counts d
    pub lines : q.line ≡ p.line + 1
    pub sheet : q.cursor.sheet ≡ p.cursor.sheet
    pub kind : Kinded d v
    pub ready : Ready h.counts q
    pub behind : line_behind h.counts q ≡ line_behind h.counts p
    pub more : left_at p ≡ on (left_at q) (λ z. Ok (with_value (value_of v) z.0, z.1))

  abbrev pub Faulted : Progress → SheetFault → Type 0
  Faulted p f = left_at p ≡ Err f

  -- what reading the row that is due answers, and how far it comes
  abbrev pub Went : Progress → Result (Option (Due × Entry D)) SheetFault → Progress → Type 0
  Went p r q = MatchResult r (λ o. MatchOption o (Ended p q) (λ y. Stepped p q y.0 y.1)) (Faulted p)

-- the names of block 2 are due, behind the two lines of block 1
abbrev pub started : Cursor → Progress
started a = record { due = Some (due.Title block.Owners); line = 3; cursor = a }
