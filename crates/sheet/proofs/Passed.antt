-- A pass over the rows from its start to its end: what was read so far, and what is left.
use Rattle.std.proofs.Common.{◌≡◌, ℕ, ◌+◌, ◌<◌, List, length, None, Ok, Err, Result, sym, refl, ap, ◌∙◌, arith}
use Rattle.std.proofs.lemmas.List.{append_assoc}
use Rattle.mark.specs.declared.cause.Cause.{Cause}
use Rattle.sheet.specs.Faults.{on}
use Rattle.sheet.specs.Reading.{Entries, Value, nothing, owned, stepped, showed, with_value, no_entries, plan_of, rows_at}
use Rattle.sheet.specs.Due.{Within, rows_left}
use Rattle.sheet.specs.Entries.{counted, value_of}
use Rattle.sheet.specs.Passes.{Ready, Stepped, left_at, line_behind, started}
use Rattle.sheet.specs.Stores.{joined}
use Rattle.sheet.specs.declared.due.Due.{Due}
use Rattle.sheet.specs.declared.fault.SheetFault.{SheetFault}
use Rattle.sheet.specs.declared.progress.Progress.{Progress}
use Rattle.sheet.specs.declared.marks.Cursor.{Cursor}
use Rattle.sheet.specs.declared.heading.Heading.{Heading}
use Rattle.sheet.specs.declared.rows.Entry.{Entry}
use Rattle.sheet.proofs.Dues.{all_due, few_rows}
use Rattle.sheet.proofs.Going.{on_itself}

module _ {D : Type 0} where
  joined_more : (d e : Entries D) (v : Value D) → joined d (with_value v e) ≡ joined (joined d (with_value v no_entries)) e
  joined_more d e nothing = simp append_assoc
  joined_more d e (owned w) = simp append_assoc
  joined_more d e (stepped t) = simp append_assoc
  joined_more d e (showed x) = simp append_assoc

  -- an entry in front of what is left goes behind what was read
  pub moved : (d : Entries D) (v : Value D) (R : Result (Entries D × ℕ) SheetFault) → on {A = Entries D × ℕ} {B = Entries D × ℕ} (on {B = Entries D × ℕ} R (λ z. Ok (with_value v z.0, z.1))) (λ z. Ok (joined d z.0, z.1)) ≡ on {B = Entries D × ℕ} R (λ z. Ok (joined (joined d (with_value v no_entries)) z.0, z.1))
  moved d v (Ok z) = ap (λ (e : Entries D). Ok (e, z.1)) (joined_more d z.0 v)
  moved d v (Err f) = refl

module _ {D : Type 0} (reads : List ℕ → Result D Cause) (h : Heading) where
  pub pass_ready : (w : Within h.counts) (a : Cursor) → Ready h.counts (started a)
  pass_ready w a = record { stands = tt; lines = omega (arith, few_rows h.counts w) }

  pub pass_lines : (a : Cursor) → line_behind h.counts (started a) ≡ 3 + length (plan_of (counted h))
  pass_lines a = ap (λ rs. 3 + length rs) (sym (all_due h.counts))

  pub pass_whole : (a : Cursor) → rows_at reads (counted h) a.sheet.now (plan_of (counted h)) 3 a.at ≡ left_at reads h (started a)
  pass_whole a = ap (λ rs. rows_at reads (counted h) a.sheet.now rs 3 a.at) (all_due h.counts)

  pub pass_less : (p q : Progress) (d : Due) (v : Entry D) → Stepped reads h p q d v → length (rows_left h.counts q.due) < length (rows_left h.counts p.due)
  pass_less p q d v t = omega (arith, t.lines, t.behind)

  pub pass_last : (p : Progress) → p.due ≡ None → line_behind h.counts p ≡ p.line
  pass_last p e = ap (λ d. p.line + length (rows_left h.counts d)) e ∙ omega arith

  -- W is what all rows say, and `so_far` is what was read of it
  module _ (W : Result (Entries D × ℕ) SheetFault) where
    pub record Passing (p : Progress) : Type 0 where
      pub so_far : Entries D
      pub ready : Ready h.counts p
      pub lines : line_behind h.counts p ≡ 3 + length (plan_of (counted h))
      pub rest : W ≡ on (left_at reads h p) (λ z. Ok (joined so_far z.0, z.1))

    unfoldable pub passing_start : (a : Cursor) → Ready h.counts (started a) → W ≡ left_at reads h (started a) → Passing (started a)
    passing_start a ready whole = record {
      so_far = no_entries;
      ready = ready;
      lines = pass_lines a;
      rest = whole ∙ on_itself (left_at reads h (started a));
    }

    unfoldable pub passing_more : (p q : Progress) (d : Due) (v : Entry D) → Passing p → Stepped reads h p q d v → Passing q
    passing_more p q d v l t = record {
      so_far = joined l.so_far (with_value (value_of v) no_entries);
      ready = t.ready;
      lines = t.behind ∙ l.lines;
      rest = l.rest ∙ ap (λ R. on {A = Entries D × ℕ} {B = Entries D × ℕ} R (λ z. Ok (joined l.so_far z.0, z.1))) t.more ∙ moved l.so_far (value_of v) (left_at reads h q);
    }
