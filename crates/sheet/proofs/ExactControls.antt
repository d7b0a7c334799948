-- Sheets and controls: a written sheet is read as its control, and a read sheet is that control's.
use Rattle.std.proofs.Common.{◌≡◌, ℕ, zero, suc, ◌+◌, ◌*◌, ◌/◌, ◌%◌, ◌<◌, true, ◌&&◌, eqb, ltb, List, [], ◌∷◌, ◌++◌, length, get_or, Result, sym, refl, ap, ◌∙◌, ⊎_elim, append_assoc, arith}
use Rattle.std.proofs.Math.Nat.{lt_of_mul-lt-mul_right}
use Rattle.std.proofs.lemmas.Nat.{div_below, mod_below, div-add-mod', mul-add-lt}
use Rattle.std.specs.List.{All}
use Rattle.std.proofs.lemmas.List.{ext_get_or}
use Rattle.std.proofs.lemmas.List.Elements.{All-nil, All-cons, All-get_or}
use Rattle.std.proofs.lemmas.Bool.{and_parts, or_cases, or_left, and_from, eq-eqb, eqb-true, lt-ltb, ltb-true}
use Rattle.mark.specs.declared.cause.Cause.{Cause}
use Rattle.theory.specs.Control.{ControlValue, Lawful}
use Rattle.theory.specs.Flows.{Flow, SelfFlows, FlowsWithin}
use Rattle.sheet.specs.Plan.{Row, title, owner, step, shown, tabulate, counts_title, owners_title, steps_title, displays_title, flows_title}
use Rattle.sheet.specs.Text.{line_of, row_text, rows_text, counts_text, flows_text, flow_pairs, sheet_text}
use Rattle.sheet.specs.Reading.{Counted, Sheet}
use Rattle.sheet.specs.Exact.{KindLaws, sheet_of, control_of, among, flows_said, WrittenIsRead, ReadIsWritten}
use Rattle.sheet.proofs.Dues.{length_tabulate}
use Rattle.sheet.proofs.ExactBlocks.{lines_from}
use Rattle.sheet.proofs.ExactFlows.{pairs_listed, among_within, said_pairs}
use Rattle.sheet.proofs.ExactSheets.{names_of, counts_of, displays_on, steps_on, owners_on, owner_line, step_line, shown_line, Below, SheetDue, whole_text, sheet_complete, sheet_sound}

pub tabulate_due : {A : Type 0} (due : A → Type 0) (a n : ℕ) (f : ℕ → A) → ((r : ℕ) → r < a + n → due (f r)) → All due (tabulate a n f)
tabulate_due due a zero f h = All-nil due
tabulate_due due a (suc n) f h = All-cons due (f a) (tabulate (a + 1) n f) (h a (omega arith)) (tabulate_due due (a + 1) n f (λ r l. h r (omega arith)))

get_or-tabulate : {A : Type 0} (a n : ℕ) (f : ℕ → A) (i : ℕ) (d : A) → i < n → get_or (tabulate a n f) i d ≡ f (a + i)
get_or-tabulate a zero f i d h = absurd (omega arith)
get_or-tabulate a (suc n) f zero d h = ap f (omega arith)
get_or-tabulate a (suc n) f (suc i) d h = get_or-tabulate (a + 1) n f i d (omega arith) ∙ ap f (omega arith)

-- a list is the table of its entries
entries_tabulated : {A : Type 0} (xs : List A) (n : ℕ) (f : ℕ → A) (d : A) → length xs ≡ n → ((r : ℕ) → r < n → f r ≡ get_or xs r d) → tabulate 0 n f ≡ xs
entries_tabulated xs n f d l h =
    ext_get_or d (tabulate 0 n f) xs (length_tabulate 0 n f ∙ sym l)
    (λ i k. let small : i < n = omega (arith, length_tabulate 0 n f) in get_or-tabulate 0 n f i d small ∙ ap f (omega arith) ∙ h i small)

module _ {D : Type 0} (kind : List ℕ) (mark : D → List ℕ) (v : ControlValue D) where
  block_text : {X : Type 0} (f : ℕ → Row) (text : ℕ → X → List ℕ) (g : ℕ → X) → ((r : ℕ) → row_text kind mark v (f r) ≡ text r (g r)) → (rest : List Row) (more : List ℕ) (a n : ℕ)
      → rows_text kind mark v (tabulate a n f ++ rest) ++ more ≡ lines_from text a (tabulate a n g) ++ (rows_text kind mark v rest ++ more)
  block_text f text g h rest more a zero = refl
  block_text f text g h rest more a (suc n) =
      append_assoc (row_text kind mark v (f a)) (rows_text kind mark v (tabulate (a + 1) n f ++ rest)) more
      ∙ ap (λ l. l ++ (rows_text kind mark v (tabulate (a + 1) n f ++ rest) ++ more)) (h a)
      ∙ ap (λ l. text a (g a) ++ l) (block_text f text g h rest more (a + 1) n)
      ∙ sym (append_assoc (text a (g a)) (lines_from text (a + 1) (tabulate (a + 1) n g)) (rows_text kind mark v rest ++ more))

  title_text : (b : ℕ) (ws : List (List ℕ)) (rest : List Row) (more : List ℕ) → rows_text kind mark v (title b ws ∷ rest) ++ more ≡ line_of ws ++ (rows_text kind mark v rest ++ more)
  title_text b ws rest more = append_assoc (line_of ws) (rows_text kind mark v rest) more

  -- the sheet of a control is the text of what it says
  pub text_whole : (F : Flow) → sheet_text kind mark v F ≡ whole_text kind mark (sheet_of v F)
  text_whole F =
      let n : ℕ = v.states in
      let m : ℕ = v.commands in
      let k : ℕ = v.consoles in
      let more : List ℕ = flows_text k (flow_pairs k F) in
      let c : Counted = counts_of v in
      let flows_lines : rows_text kind mark v (flows_title ∷ []) ++ more ≡ line_of (names_of flows_title) ++ more = title_text 5 (names_of flows_title) [] more in
      let displays_lines = block_text (λ r. shown (r / k) (r % k)) (shown_line mark k) (λ r. v.shows (r / k) (r % k)) (λ r. refl) (flows_title ∷ []) more 0 (n * k) ∙ ap (λ l. lines_from (shown_line mark k) 0 (tabulate 0 (n * k) (λ r. v.shows (r / k) (r % k))) ++ l) flows_lines in
      let displays_all = title_text 4 (names_of displays_title) (displays_on c) more ∙ ap (λ l. line_of (names_of displays_title) ++ l) displays_lines in
      let steps_lines = block_text (λ r. step (r / m) (r % m)) (step_line m) (λ r. v.step (r / m) (r % m)) (λ r. refl) (displays_title ∷ displays_on c) more 0 (n * m) ∙ ap (λ l. lines_from (step_line m) 0 (tabulate 0 (n * m) (λ r. v.step (r / m) (r % m))) ++ l) displays_all in
      let steps_all = title_text 3 (names_of steps_title) (steps_on c) more ∙ ap (λ l. line_of (names_of steps_title) ++ l) steps_lines in
      let owners_lines = block_text owner owner_line v.owner (λ r. refl) (steps_title ∷ steps_on c) more 0 m ∙ ap (λ l. lines_from owner_line 0 (tabulate 0 m v.owner) ++ l) steps_all in
      let owners_all = title_text 2 (names_of owners_title) (owners_on c) more ∙ ap (λ l. line_of (names_of owners_title) ++ l) owners_lines in
      ap (λ l. line_of (names_of counts_title) ++ (counts_text kind mark v ++ l)) owners_all

  -- and what it says is in range
  pub said_due : Lawful v → (F : Flow) → SheetDue (sheet_of v F)
  said_due lawful F =
      let m : ℕ = v.commands in
      record {
        counts = (lawful.states_count, lawful.commands_count, lawful.consoles_count, lawful.starts);
        tables = record {
          owners_many = length_tabulate 0 m v.owner;
          steps_many = length_tabulate 0 (v.states * m) (λ r. v.step (r / m) (r % m));
          displays_many = length_tabulate 0 (v.states * v.consoles) (λ r. v.shows (r / v.consoles) (r % v.consoles));
          owners_due = tabulate_due (Below v.consoles) 0 m v.owner (λ r h. (omega arith, omega (arith, lawful.owned r (omega arith))));
          steps_due = tabulate_due (Below v.states) 0 (v.states * m) (λ r. v.step (r / m) (r % m)) (λ r h. (omega arith, omega (arith, lawful.stays (r / m) (r % m) (div_below r m v.states lawful.commands_count.0 (omega arith)) (mod_below r m lawful.commands_count.0))));
          displays_due = tabulate_due (λ d. Unit {0}) 0 (v.states * v.consoles) (λ r. v.shows (r / v.consoles) (r % v.consoles)) (λ r h. tt);
        };
        pairs = pairs_listed v.consoles F;
      }

module _ {D : Type 0} {kind : List ℕ} {mark : D → List ℕ} {reads : List ℕ → Result D Cause} (laws : KindLaws kind mark reads) where
  pub written_read : WrittenIsRead kind mark reads
  written_read v F lawful selves within = sheet_complete laws (sheet_text kind mark v F) (sheet_of v F) (said_due kind mark v lawful F) (text_whole kind mark v F)

-- the control and the flows that a sheet says, say just that sheet
module _ {D : Type 0} (absent : D) (x : Sheet D) (due : SheetDue x) where
  said_back : sheet_of (control_of absent x) (flows_said x) ≡ x
  said_back =
      let n : ℕ = x.counted.states in
      let m : ℕ = x.counted.commands in
      let k : ℕ = x.counted.consoles in
      let os = entries_tabulated x.entries.owners m (λ r. get_or x.entries.owners r 0) 0 due.tables.owners_many (λ r h. refl) in
      let ss = entries_tabulated x.entries.steps (n * m) (λ r. get_or x.entries.steps (r / m * m + r % m) 0) 0 due.tables.steps_many (λ r h. ap (λ i. get_or x.entries.steps i 0) (div-add-mod' r m)) in
      let ds = entries_tabulated x.entries.displays (n * k) (λ r. get_or x.entries.displays (r / k * k + r % k) absent) absent due.tables.displays_many (λ r h. ap (λ i. get_or x.entries.displays i absent) (div-add-mod' r k)) in
      let ps = said_pairs k due.counts.2.0 x.flows due.pairs in
      λ i. record { counted = x.counted; entries = record { owners = os i; steps = ss i; displays = ds i }; flows = ps i }

  said_lawful : Lawful (control_of absent x)
  said_lawful = record {
    states_count = due.counts.0;
    commands_count = due.counts.1;
    consoles_count = due.counts.2;
    starts = due.counts.3;
    owned = λ c h.
        let b = All-get_or (Below x.counted.consoles) x.entries.owners c 0 (omega (arith, due.tables.owners_many)) due.tables.owners_due in
        omega (arith, b.1, due.counts.2.0);
    stays = λ s c h k.
        let i : ℕ = s * x.counted.commands + c in
        let there : i < length x.entries.steps = omega (arith, due.tables.steps_many, mul-add-lt s x.counted.commands c x.counted.states h k) in
        let b = All-get_or (Below x.counted.states) x.entries.steps i 0 there due.tables.steps_due in
        omega (arith, b.1, due.counts.0.0);
  }

  said_selves : SelfFlows x.counted.consoles (flows_said x)
  said_selves u h = or_left (eqb u u && ltb u x.counted.consoles) _ (and_from (eqb u u) (ltb u x.counted.consoles) (eq-eqb u u refl) (lt-ltb u x.counted.consoles h))

  said_within : FlowsWithin x.counted.consoles (flows_said x)
  said_within u v e =
      let k : ℕ = x.counted.consoles in
      ⊎_elim
      (λ (s : (eqb u v && ltb u k) ≡ true). let p = and_parts (eqb u v) (ltb u k) s in (ltb-true u k p.1, omega (arith, eqb-true u v p.0, ltb-true u k p.1)))
      (λ (s : (ltb v k && among (u * k + v) x.flows) ≡ true).
      let p = and_parts (ltb v k) (among (u * k + v) x.flows) s in
      (let l = among_within k 0 x.flows (u * k + v) due.pairs p.1 in lt_of_mul-lt-mul_right k (omega arith), ltb-true v k p.0))
      (or_cases (eqb u v && ltb u k) (ltb v k && among (u * k + v) x.flows) e)

module _ {D : Type 0} {kind : List ℕ} {mark : D → List ℕ} {reads : List ℕ → Result D Cause} (laws : KindLaws kind mark reads) where
  pub read_written : ReadIsWritten kind mark reads
  read_written absent sheet x e =
      let s = sheet_sound laws sheet x e in
      record {
        text = s.1 ∙ ap (whole_text kind mark) (sym (said_back absent x s.0)) ∙ sym (text_whole kind mark (control_of absent x) (flows_said x));
        lawful = said_lawful absent x s.0;
        selves = said_selves absent x s.0;
        within = said_within absent x s.0;
        owners_many = s.0.tables.owners_many;
        steps_many = s.0.tables.steps_many;
        displays_many = s.0.tables.displays_many;
      }
