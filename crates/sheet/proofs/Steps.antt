-- One row of a pass: what is left says it, and then what is left behind it.
use Rattle.std.proofs.Common.{◌≡◌, ℕ, suc, ◌+◌, List, ◌∷◌, length, Some, Ok, Err, Result, sym, ap, ◌∙◌, subst, arith}
use Rattle.mark.specs.declared.cause.Cause.{Cause}
use Rattle.sheet.specs.Faults.{on, on_line}
use Rattle.sheet.specs.Reading.{Entries, Value, with_value, value_at, rows_at}
use Rattle.sheet.specs.Due.{Within, Stands, StandsLeft, row_of, number_of, rows_left, next_due}
use Rattle.sheet.specs.Entries.{counted, value_of, Kinded}
use Rattle.sheet.specs.Passes.{Ready, Stepped, Faulted, left_at, line_behind}
use Rattle.sheet.specs.declared.due.Due.{Due}
use Rattle.sheet.specs.declared.fault.SheetFault.{SheetFault}
use Rattle.sheet.specs.declared.progress.Progress.{Progress}
use Rattle.sheet.specs.declared.heading.Heading.{Heading}
use Rattle.sheet.specs.declared.rows.Entry.{Entry}
use Rattle.sheet.proofs.Dues.{rows_step, stands_next, block_number}
use Rattle.sheet.proofs.Going.{on_ok, on_err}

module _ {D : Type 0} (reads : List ℕ → Result D Cause) (h : Heading) (p : Progress) (d : Due) (was : p.due ≡ Some d) (ready : Ready h.counts p) where
  stands : Stands h.counts d
  stands = subst (StandsLeft h.counts) was ready.stands

  rows_from : rows_left h.counts p.due ≡ row_of h.counts d ∷ rows_left h.counts (next_due h.counts d)
  rows_from = ap (rows_left h.counts) was ∙ rows_step h.counts d stands

  -- what is left behind the row due
  abbrev behind_it : Value D × ℕ → Result (Entries D × ℕ) SheetFault
  behind_it y = on (rows_at reads (counted h) p.cursor.sheet.now (rows_left h.counts (next_due h.counts d)) (p.line + 1) y.1) (λ z. Ok (with_value y.0 z.0, z.1))

  left_from : left_at reads h p ≡ on (on_line p.line (number_of d) (value_at reads (counted h) p.cursor.sheet.now (row_of h.counts d) p.cursor.at)) behind_it
  left_from =
      ap (λ rs. rows_at reads (counted h) p.cursor.sheet.now rs p.line p.cursor.at) rows_from
      ∙ ap (λ b. on (on_line p.line b (value_at reads (counted h) p.cursor.sheet.now (row_of h.counts d) p.cursor.at)) behind_it) (sym (block_number h.counts d))

  pub faulted : (f : SheetFault) → Err f ≡ on_line p.line (number_of d) (value_at reads (counted h) p.cursor.sheet.now (row_of h.counts d) p.cursor.at) → Faulted reads h p f
  faulted f e = left_from ∙ on_err _ behind_it f e

  pub stepped : (w : Within h.counts) (q : Progress) (v : Entry D) → q.due ≡ next_due h.counts d → q.line ≡ p.line + 1 → q.cursor.sheet ≡ p.cursor.sheet → Kinded d v → Ok (value_of v, q.cursor.at) ≡ on_line p.line (number_of d) (value_at reads (counted h) p.cursor.sheet.now (row_of h.counts d) p.cursor.at) → Stepped reads h p q d v
  stepped w q v next lines sheet kind e =
      let left : rows_left h.counts q.due ≡ rows_left h.counts (next_due h.counts d) = ap (rows_left h.counts) next in
      let many : length (rows_left h.counts p.due) ≡ suc (length (rows_left h.counts q.due)) = ap length rows_from ∙ ap (λ rs. suc (length rs)) (sym left) in
      let same : line_behind h.counts q ≡ line_behind h.counts p = omega arith in
      record {
        was = was;
        next = next;
        lines = lines;
        sheet = sheet;
        kind = kind;
        ready = record {
          stands = subst (StandsLeft h.counts) (sym next) (stands_next h.counts d w);
          lines = omega (arith, ready.lines);
        };
        behind = same;
        more = rw (next, lines, sheet) (left_from ∙ on_ok _ behind_it (value_of v, q.cursor.at) e);
      }
