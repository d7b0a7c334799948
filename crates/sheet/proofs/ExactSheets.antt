-- A whole sheet, read exactly: its text is that of what it is read as.
use Rattle.std.proofs.Common.{◌≡◌, ℕ, ◌+◌, ◌-◌, ◌*◌, ◌/◌, ◌%◌, ◌<◌, ◌≤◌, List, [], ◌∷◌, ◌++◌, length, drop, Ok, decimal, Result, sym, refl, ap, ◌∙◌, subst, arith}
use Rattle.std.proofs.lemmas.Nat.{div_below, mod_below}
use Rattle.std.proofs.lemmas.List.{append-nil}
use Rattle.std.specs.List.{All}
use Rattle.mark.specs.declared.cause.Cause.{Cause}
use Rattle.theory.specs.Control.{ControlValue}
use Rattle.sheet.specs.Faults.{on, on_line}
use Rattle.sheet.specs.Marks.{number_reads}
use Rattle.sheet.specs.Plan.{Row, title, owner, step, shown, tabulate, counts_title, owners_title, steps_title, displays_title, flows_title}
use Rattle.sheet.specs.Text.{line_of, flows_text}
use Rattle.sheet.specs.Reading.{Counted, Entries, Value, nothing, owned, stepped, showed, no_entries, with_value, row_at, names_at, counts_at, value_at, rows_at, flows_at, Sheet, plan_of, sheet_read}
use Rattle.sheet.specs.Exact.{KindLaws}
use Rattle.sheet.specs.declared.fault.SheetFault.{SheetFault}
use Rattle.sheet.proofs.ExactItems.{on_ok, ok_same, ok_pair}
use Rattle.sheet.proofs.ExactDues.{number_due, display_due}
use Rattle.sheet.proofs.ExactLines.{Exactly, row_line, row_exactly, names_complete, names_sound, CountsDue, counts_line, counts_exactly}
use Rattle.sheet.proofs.ExactBlocks.{lines_from, added, Rowed, GoesOn, putting_reads, putting_knows, title_reads, title_knows, block_reads, block_knows, on_line_ok}
use Rattle.sheet.proofs.ExactFlows.{ListedFrom, flows_complete, flows_sound}

-- the names of a title
abbrev pub names_of : Row → List (List ℕ)
names_of (title b ws) = ws
names_of (owner c) = []
names_of (step s c) = []
names_of (shown s u) = []

-- the lines of row r, of the blocks of commands, of steps and of displays
abbrev pub owner_line : ℕ → ℕ → List ℕ
owner_line r w = row_line (r ∷ []) (decimal w)

abbrev pub step_line : ℕ → ℕ → ℕ → List ℕ
step_line m r t = row_line (r / m ∷ (r % m ∷ [])) (decimal t)

abbrev pub shown_line : {D : Type 0} → (D → List ℕ) → ℕ → ℕ → D → List ℕ
shown_line mark k r d = row_line (r / k ∷ (r % k ∷ [])) (mark d)

-- a number below n, as it is due in a row
abbrev pub Below : ℕ → ℕ → Type 0
Below n w = (0 ≤ w) × (w ≤ n - 1)

module _ {D : Type 0} {kind : List ℕ} {mark : D → List ℕ} {reads : List ℕ → Result D Cause} (laws : KindLaws kind mark reads) (c : Counted) (due : CountsDue c) (sheet : List ℕ) where
  pub owners_rowed : Rowed reads c sheet owner owned (Below c.consoles) owner_line c.commands
  owners_rowed = record {
    reads_row = λ r h. putting_reads reads c sheet owned (row_at (r ∷ []) (number_reads 0 (c.consoles - 1)) sheet) (exact r h);
    knows_row = λ r h. putting_knows reads c sheet owned (row_at (r ∷ []) (number_reads 0 (c.consoles - 1)) sheet) (exact r h);
  }
    where
      exact : (r : ℕ) → r < c.commands → Exactly sheet (row_at (r ∷ []) (number_reads 0 (c.consoles - 1)) sheet) (Below c.consoles) (owner_line r)
      exact r h = row_exactly (number_due 0 (c.consoles - 1) (omega (arith, due.2.1))) sheet (r ∷ []) (omega (arith, due.1.1), tt)

  pub steps_rowed : Rowed reads c sheet (λ r. step (r / c.commands) (r % c.commands)) stepped (Below c.states) (step_line c.commands) (c.states * c.commands)
  steps_rowed = record {
    reads_row = λ r h. putting_reads reads c sheet stepped (row_at (r / c.commands ∷ (r % c.commands ∷ [])) (number_reads 0 (c.states - 1)) sheet) (exact r h);
    knows_row = λ r h. putting_knows reads c sheet stepped (row_at (r / c.commands ∷ (r % c.commands ∷ [])) (number_reads 0 (c.states - 1)) sheet) (exact r h);
  }
    where
      exact : (r : ℕ) → r < c.states * c.commands → Exactly sheet (row_at (r / c.commands ∷ (r % c.commands ∷ [])) (number_reads 0 (c.states - 1)) sheet) (Below c.states) (step_line c.commands r)
      exact r h =
          let row : r / c.commands < c.states = div_below r c.commands c.states due.1.0 h in
          let column : r % c.commands < c.commands = mod_below r c.commands due.1.0 in
          row_exactly (number_due 0 (c.states - 1) (omega (arith, due.0.1))) sheet (r / c.commands ∷ (r % c.commands ∷ [])) (omega (arith, due.0.1), (omega (arith, due.1.1), tt))

  pub displays_rowed : Rowed reads c sheet (λ r. shown (r / c.consoles) (r % c.consoles)) showed (λ d. Unit {0}) (shown_line mark c.consoles) (c.states * c.consoles)
  displays_rowed = record {
    reads_row = λ r h. putting_reads reads c sheet showed (row_at (r / c.consoles ∷ (r % c.consoles ∷ [])) reads sheet) (exact r h);
    knows_row = λ r h. putting_knows reads c sheet showed (row_at (r / c.consoles ∷ (r % c.consoles ∷ [])) reads sheet) (exact r h);
  }
    where
      exact : (r : ℕ) → r < c.states * c.consoles → Exactly sheet (row_at (r / c.consoles ∷ (r % c.consoles ∷ [])) reads sheet) (λ d. Unit {0}) (shown_line mark c.consoles r)
      exact r h =
          let row : r / c.consoles < c.states = div_below r c.consoles c.states due.2.0 h in
          let column : r % c.consoles < c.consoles = mod_below r c.consoles due.2.0 in
          row_exactly (display_due laws) sheet (r / c.consoles ∷ (r % c.consoles ∷ [])) (omega (arith, due.0.1), (omega (arith, due.2.1), tt))

-- the entries of three blocks
added_owned : {D : Type 0} (xs : List ℕ) (e : Entries D) → added owned xs e ≡ record { owners = xs ++ e.owners; steps = e.steps; displays = e.displays }
added_owned [] e = refl
added_owned (x ∷ xs) e = ap (with_value (owned x)) (added_owned xs e)

added_stepped : {D : Type 0} (xs : List ℕ) (e : Entries D) → added stepped xs e ≡ record { owners = e.owners; steps = xs ++ e.steps; displays = e.displays }
added_stepped [] e = refl
added_stepped (x ∷ xs) e = ap (with_value (stepped x)) (added_stepped xs e)

added_showed : {D : Type 0} (xs : List D) (e : Entries D) → added showed xs e ≡ record { owners = e.owners; steps = e.steps; displays = xs ++ e.displays }
added_showed [] e = refl
added_showed (x ∷ xs) e = ap (with_value (showed x)) (added_showed xs e)

pub all_added : {D : Type 0} (os ss : List ℕ) (ds : List D) → added owned os (added stepped ss (added showed ds no_entries)) ≡ record { owners = os; steps = ss; displays = ds }
all_added os ss ds =
    added_owned os (added stepped ss (added showed ds no_entries))
    ∙ ap (λ e. record { owners = os ++ e.owners; steps = e.steps; displays = e.displays }) (added_stepped ss (added showed ds no_entries) ∙ ap (λ e. record { owners = e.owners; steps = ss ++ e.steps; displays = e.displays }) (added_showed ds no_entries))
    ∙ simp append-nil

-- the counts of a control
abbrev pub counts_of : {D : Type 0} → ControlValue D → Counted
counts_of v = record { states = v.states; commands = v.commands; consoles = v.consoles; start = v.start }

-- the rows of the plan from a block's first row on
abbrev pub displays_on : Counted → List Row
displays_on c = tabulate 0 (c.states * c.consoles) (λ r. shown (r / c.consoles) (r % c.consoles)) ++ (flows_title ∷ [])

abbrev pub steps_on : Counted → List Row
steps_on c = tabulate 0 (c.states * c.commands) (λ r. step (r / c.commands) (r % c.commands)) ++ (displays_title ∷ displays_on c)

abbrev pub owners_on : Counted → List Row
owners_on c = tabulate 0 c.commands owner ++ (steps_title ∷ steps_on c)

-- the lines of the rows due after the counts, and then `more`
abbrev pub plan_lines : {D : Type 0} → (D → List ℕ) → Counted → Entries D → List ℕ → List ℕ
plan_lines mark c e more =
    line_of (names_of owners_title)
    ++ (lines_from owner_line 0 e.owners
    ++ (line_of (names_of steps_title)
    ++ (lines_from (step_line c.commands) 0 e.steps
    ++ (line_of (names_of displays_title)
    ++ (lines_from (shown_line mark c.consoles) 0 e.displays
    ++ (line_of (names_of flows_title)
    ++ more))))))

-- as many entries as the counts ask for, each in range
pub record EntriesDue {D : Type 0} (c : Counted) (e : Entries D) : Type 0 where
  pub owners_many : length e.owners ≡ c.commands
  pub steps_many : length e.steps ≡ c.states * c.commands
  pub displays_many : length e.displays ≡ c.states * c.consoles
  pub owners_due : All (Below c.consoles) e.owners
  pub steps_due : All (Below c.states) e.steps
  pub displays_due : All (λ d. Unit {0}) e.displays

module _ {D : Type 0} {kind : List ℕ} {mark : D → List ℕ} {reads : List ℕ → Result D Cause} (laws : KindLaws kind mark reads) (c : Counted) (due : CountsDue c) (sheet : List ℕ) where
  pub plan_reads : (e : Entries D) → EntriesDue c e → (more : List ℕ) → GoesOn reads c sheet (plan_of c) e (plan_lines mark c e more) more
  plan_reads e h more =
      subst (λ (a : Entries D). GoesOn reads c sheet (plan_of c) a (plan_lines mark c e more) more) (all_added e.owners e.steps e.displays)
      (title_reads reads c sheet 2 (names_of owners_title) refl (owners_on c) _ _ more
      (block_reads reads c sheet (owners_rowed laws c due sheet) (steps_title ∷ steps_on c) _ _ more
      (title_reads reads c sheet 3 (names_of steps_title) refl (steps_on c) _ _ more
      (block_reads reads c sheet (steps_rowed laws c due sheet) (displays_title ∷ displays_on c) _ _ more
      (title_reads reads c sheet 4 (names_of displays_title) refl (displays_on c) _ _ more
      (block_reads reads c sheet (displays_rowed laws c due sheet) (flows_title ∷ []) _ _ more
      (title_reads reads c sheet 5 (names_of flows_title) refl [] no_entries more more (λ line i s. (i, refl, s)))
      0 (c.states * c.consoles) e.displays h.displays_many (omega arith) h.displays_due))
      0 (c.states * c.commands) e.steps h.steps_many (omega arith) h.steps_due))
      0 c.commands e.owners h.owners_many (omega arith) h.owners_due))

  pub plan_knows : (line i j : ℕ) (e : Entries D) → rows_at reads c sheet (plan_of c) line i ≡ Ok (e, j) → EntriesDue c e × (drop i sheet ≡ plan_lines mark c e (drop j sheet))
  plan_knows line i j e q =
      let t2 = title_knows reads c sheet 2 (names_of owners_title) refl (owners_on c) line i j e q in
      let os = block_knows reads c sheet (owners_rowed laws c due sheet) (steps_title ∷ steps_on c) 0 c.commands (omega arith) (line + 1) t2.0 j e t2.1 in
      let t3 = title_knows reads c sheet 3 (names_of steps_title) refl (steps_on c) os.line os.place j os.others os.goes_on in
      let ss = block_knows reads c sheet (steps_rowed laws c due sheet) (displays_title ∷ displays_on c) 0 (c.states * c.commands) (omega arith) (os.line + 1) t3.0 j os.others t3.1 in
      let t4 = title_knows reads c sheet 4 (names_of displays_title) refl (displays_on c) ss.line ss.place j ss.others ss.goes_on in
      let ds = block_knows reads c sheet (displays_rowed laws c due sheet) (flows_title ∷ []) 0 (c.states * c.consoles) (omega arith) (ss.line + 1) t4.0 j ss.others t4.1 in
      let t5 = title_knows reads c sheet 5 (names_of flows_title) refl [] ds.line ds.place j ds.others ds.goes_on in
      let p = ok_pair no_entries ds.others t5.0 j t5.1 in
      told os.values ss.values ds.values os.others ss.others ds.others t2.0 os.place t3.0 ss.place t4.0 ds.place t5.0
      os.many ss.many ds.many os.all ss.all ds.all os.entries ss.entries ds.entries p.0 p.1
      t2.2 os.stands t3.2 ss.stands t4.2 ds.stands t5.2
    where
      told : (os ss : List ℕ) (ds : List D) (e1 e2 e3 : Entries D) (i1 i2 i3 i4 i5 i6 i7 : ℕ)
          → length os ≡ c.commands → length ss ≡ c.states * c.commands → length ds ≡ c.states * c.consoles
          → All (Below c.consoles) os → All (Below c.states) ss → All (λ d. Unit {0}) ds
          → added owned os e1 ≡ e → added stepped ss e2 ≡ e1 → added showed ds e3 ≡ e2 → no_entries ≡ e3 → i7 ≡ j
          → drop i sheet ≡ line_of (names_of owners_title) ++ drop i1 sheet
          → drop i1 sheet ≡ lines_from owner_line 0 os ++ drop i2 sheet
          → drop i2 sheet ≡ line_of (names_of steps_title) ++ drop i3 sheet
          → drop i3 sheet ≡ lines_from (step_line c.commands) 0 ss ++ drop i4 sheet
          → drop i4 sheet ≡ line_of (names_of displays_title) ++ drop i5 sheet
          → drop i5 sheet ≡ lines_from (shown_line mark c.consoles) 0 ds ++ drop i6 sheet
          → drop i6 sheet ≡ line_of (names_of flows_title) ++ drop i7 sheet
          → EntriesDue c e × (drop i sheet ≡ plan_lines mark c e (drop j sheet))
      told os ss ds e1 e2 e3 i1 i2 i3 i4 i5 i6 i7 om sm dm oa sa da oe se de none last s1 s2 s3 s4 s5 s6 s7 =
          let all : Entries D = record { owners = os; steps = ss; displays = ds } in
          let same : all ≡ e = sym (all_added os ss ds) ∙ ap (λ a. added owned os (added stepped ss (added showed ds a))) none ∙ ap (λ a. added owned os (added stepped ss a)) de ∙ ap (added owned os) se ∙ oe in
          let stands : drop i sheet ≡ plan_lines mark c all (drop j sheet) =
          s1 ∙ ap (λ l. line_of (names_of owners_title) ++ l)
          (s2 ∙ ap (λ l. lines_from owner_line 0 os ++ l)
          (s3 ∙ ap (λ l. line_of (names_of steps_title) ++ l)
          (s4 ∙ ap (λ l. lines_from (step_line c.commands) 0 ss ++ l)
          (s5 ∙ ap (λ l. line_of (names_of displays_title) ++ l)
          (s6 ∙ ap (λ l. lines_from (shown_line mark c.consoles) 0 ds ++ l)
          (s7 ∙ ap (λ k. line_of (names_of flows_title) ++ drop k sheet) last)))))) in
          subst (λ (a : Entries D). EntriesDue c a × (drop i sheet ≡ plan_lines mark c a (drop j sheet))) same
          (record { owners_many = om; steps_many = sm; displays_many = dm; owners_due = oa; steps_due = sa; displays_due = da }, stands)

-- what a sheet says keeps the limits, is in range and lists its flows in order
pub record SheetDue {D : Type 0} (x : Sheet D) : Type 0 where
  pub counts : CountsDue x.counted
  pub tables : EntriesDue x.counted x.entries
  pub pairs : ListedFrom x.counted.consoles 0 x.flows

abbrev pub whole_text : {D : Type 0} → List ℕ → (D → List ℕ) → Sheet D → List ℕ
whole_text kind mark x =
    line_of (names_of counts_title)
    ++ (counts_line kind x.counted
    ++ plan_lines mark x.counted x.entries (flows_text x.counted.consoles x.flows))

-- how the reading of a sheet goes on after its rows, its counts and its first title
abbrev after_rows : {D : Type 0} → List ℕ → Counted → Entries D × ℕ → Result (Sheet D) SheetFault
after_rows sheet c e = on (flows_at c.consoles sheet (c.consoles * c.consoles) 0 (3 + length (plan_of c)) e.1) (λ ps. Ok (record { counted = c; entries = e.0; flows = ps }))

abbrev after_counts : {D : Type 0} → (List ℕ → Result D Cause) → List ℕ → Counted × ℕ → Result (Sheet D) SheetFault
after_counts reads sheet c = on (rows_at reads c.0 sheet (plan_of c.0) 3 c.1) (after_rows sheet c.0)

abbrev after_title : {D : Type 0} → List ℕ → (List ℕ → Result D Cause) → List ℕ → Value D × ℕ → Result (Sheet D) SheetFault
after_title kind reads sheet t = on (on_line 2 1 (counts_at kind sheet t.1)) (after_counts reads sheet)

module _ {D : Type 0} {kind : List ℕ} {mark : D → List ℕ} {reads : List ℕ → Result D Cause} (laws : KindLaws kind mark reads) (sheet : List ℕ) (x : Sheet D) where
  pub sheet_complete : SheetDue x → sheet ≡ whole_text kind mark x → sheet_read kind reads sheet ≡ Ok x
  sheet_complete d e =
      let k : ℕ = x.counted.consoles in
      let t = names_complete sheet (names_of counts_title) refl 0 _ e in
      let c = (counts_exactly kind laws.named sheet).reads x.counted d.counts t.0 _ t.2 in
      let r = plan_reads laws x.counted d.counts sheet x.entries d.tables (flows_text k x.flows) 3 c.0 c.2 in
      let f = flows_complete k d.counts.2 sheet (k * k) 0 (omega arith) x.flows d.pairs (3 + length (plan_of x.counted)) r.0 r.2 in
      rw (t.1, c.1, r.1, f)

  pub sheet_sound : sheet_read kind reads sheet ≡ Ok x → SheetDue x × (sheet ≡ whole_text kind mark x)
  sheet_sound e =
      let none : Counted = record { states = 1; commands = 1; consoles = 1; start = 0 } in
      let t = on_ok (on_line 1 1 (value_at reads none sheet counts_title 0)) (after_title kind reads sheet) x e in
      let c = on_ok (on_line 2 1 (counts_at kind sheet t.0.1)) (after_counts reads sheet) x t.2 in
      let r = on_ok (rows_at reads c.0.0 sheet (plan_of c.0.0) 3 c.0.1) (after_rows sheet c.0.0) x c.2 in
      let f = on_ok (flows_at c.0.0.consoles sheet (c.0.0.consoles * c.0.0.consoles) 0 (3 + length (plan_of c.0.0)) r.0.1) (λ ps. Ok (record { counted = c.0.0; entries = r.0.0; flows = ps })) x r.2 in
      let n = on_ok (names_at (names_of counts_title) sheet 0) (λ j. Ok (nothing, j)) t.0 (on_line_ok 1 1 (value_at reads none sheet counts_title 0) t.0 t.1) in
      let p = ok_pair nothing t.0.0 n.0 t.0.1 n.2 in
      let first = names_sound sheet (names_of counts_title) refl 0 t.0.1 (n.1 ∙ ap Ok p.1) in
      let counts = (counts_exactly kind laws.named sheet).knows t.0.1 c.0.1 c.0.0 (on_line_ok 2 1 (counts_at kind sheet t.0.1) c.0 c.1) in
      let rows = plan_knows laws c.0.0 counts.0 sheet 3 c.0.1 r.0.1 r.0.0 r.1 in
      let flows = flows_sound c.0.0.consoles counts.0.2 sheet (c.0.0.consoles * c.0.0.consoles) 0 (3 + length (plan_of c.0.0)) r.0.1 f.0 f.1 in
      told c.0.0 r.0.0 f.0 t.0.1 c.0.1 r.0.1 (ok_same (record { counted = c.0.0; entries = r.0.0; flows = f.0 }) x f.2) counts.0 rows.0 flows.0 first counts.1 rows.1 flows.1
    where
      told : (c : Counted) (e : Entries D) (ps : List ℕ) (i1 i2 i3 : ℕ) → record { counted = c; entries = e; flows = ps } ≡ x → CountsDue c → EntriesDue c e → ListedFrom c.consoles 0 ps
          → sheet ≡ line_of (names_of counts_title) ++ drop i1 sheet
          → drop i1 sheet ≡ counts_line kind c ++ drop i2 sheet
          → drop i2 sheet ≡ plan_lines mark c e (drop i3 sheet)
          → drop i3 sheet ≡ flows_text c.consoles ps
          → SheetDue x × (sheet ≡ whole_text kind mark x)
      told c e ps i1 i2 i3 same dc de dp s1 s2 s3 s4 =
          subst (λ (a : Sheet D). SheetDue a × (sheet ≡ whole_text kind mark a)) same
          (record { counts = dc; tables = de; pairs = dp }, s1 ∙ ap (λ l. line_of (names_of counts_title) ++ l) (s2 ∙ ap (λ l. counts_line kind c ++ l) (s3 ∙ ap (plan_lines mark c e) s4)))
