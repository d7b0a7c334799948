-- The whole sheet: its first block, its rows and its flows make the answer.
use Rattle.std.proofs.Common.{◌≡◌, ℕ, ◌+◌, ◌*◌, ◌≤◌, true, List, map, length, Ok, Err, Result, sym, refl, ap, ◌∙◌, arith}
use Rattle.std.proofs.lemmas.Bool.{le-ltb}
use Rattle.mark.specs.declared.cause.Cause.{Cause}
use Rattle.policy.specs.declared.board.Board.{Board}
use Rattle.policy.specs.declared.refusal.Refusal.{Refusal}
use Rattle.control.specs.Tables.{store_suffices}
use Rattle.control.specs.declared.table.Counts.{Counts}
use Rattle.sheet.specs.Calls.{Agrees, FoundAs, overwritten, read_answer, refusal_of, store_after}
use Rattle.sheet.specs.Exact.{most_bytes}
use Rattle.sheet.specs.Faults.{on, on_line}
use Rattle.sheet.specs.Plan.{counts_title}
use Rattle.sheet.specs.Reading.{Counted, Entries, Sheet, Value, nothing, names_at, counts_at, rows_at, flows_at, plan_of, sheet_read}
use Rattle.sheet.specs.Due.{Within, highest_line, names_in}
use Rattle.sheet.specs.Entries.{counted, first_at}
use Rattle.sheet.specs.Boards.{Lists, BoardAs}
use Rattle.sheet.specs.Stores.{FilledBy}
use Rattle.sheet.specs.declared.fault.MarkFault.{MarkFault}
use Rattle.sheet.specs.declared.fault.SheetFault.{SheetFault}
use Rattle.sheet.specs.declared.found.Found.{Found}
use Rattle.sheet.specs.declared.heading.Heading.{Heading}
use Rattle.sheet.proofs.Dues.{all_due, few_rows}

-- no line of the rows is past the last of a largest sheet
pub line_bound : (h : Heading) → Within h.counts → 3 + length (plan_of (counted h)) ≤ highest_line
line_bound h w = omega (arith, few_rows h.counts w, ap length (all_due h.counts))

module _ {D : Type 0} (kind : List ℕ) (reads : List ℕ → Result D Cause) (s : List ℕ) where
  -- what stands behind the first block
  abbrev flows_behind : Counted → ℕ → Result (List ℕ) SheetFault
  flows_behind c i = flows_at c.consoles s (c.consoles * c.consoles) 0 (3 + length (plan_of c)) i

  abbrev behind : Counted × ℕ → Result (Sheet D) SheetFault
  behind c = on (rows_at reads c.0 s (plan_of c.0) 3 c.1) (λ e. on (flows_behind c.0 e.1) (λ ps. Ok (record { counted = c.0; entries = e.0; flows = ps })))

  first_then : sheet_read kind reads s ≡ on (first_at kind s 0) behind
  first_then = by (names_at (names_in counts_title) s 0)
    where
      by : (N : Result ℕ MarkFault) → on {A = Value D × ℕ} (on_line 1 1 (on {B = Value D × ℕ} N (λ j. Ok (nothing, j)))) (λ t. on (on_line 2 1 (counts_at kind s t.1)) behind) ≡ on (on (on_line 1 1 N) (λ i. on_line 2 1 (counts_at kind s i))) behind
      by (Ok j) = refl
      by (Err f) = refl

  pub first_fault : (f : SheetFault) → Err f ≡ first_at kind s 0 → sheet_read kind reads s ≡ Err f
  first_fault f e = first_then ∙ ap (λ R. on R behind) (sym e)

  module _ (c : Counted) (i : ℕ) (first : Ok (c, i) ≡ first_at kind s 0) where
    to_rows : sheet_read kind reads s ≡ behind (c, i)
    to_rows = first_then ∙ ap (λ R. on R behind) (sym first)

    pub rows_fault : (f : SheetFault) → rows_at reads c s (plan_of c) 3 i ≡ Err f → sheet_read kind reads s ≡ Err f
    rows_fault f e = to_rows ∙ rw e refl

    module _ (e : Entries D) (j : ℕ) (rows : rows_at reads c s (plan_of c) 3 i ≡ Ok (e, j)) where
      to_flows : sheet_read kind reads s ≡ on (flows_behind c j) (λ ps. Ok (record { counted = c; entries = e; flows = ps }))
      to_flows = to_rows ∙ rw rows refl

      pub flows_fault : (f : SheetFault) → flows_behind c j ≡ Err f → sheet_read kind reads s ≡ Err f
      flows_fault f p = to_flows ∙ rw p refl

      pub all_read : (ps : List ℕ) → flows_behind c j ≡ Ok ps → sheet_read kind reads s ≡ Ok (record { counted = c; entries = e; flows = ps })
      all_read ps p = to_flows ∙ rw p refl

  -- in stores that suffice
  module _ (a b d : ℕ) (short : length s ≤ most_bytes) (room : store_suffices a b d ≡ true) where
    pub answer_ok : (x : Sheet D) → sheet_read kind reads s ≡ Ok x → read_answer kind reads a b d s ≡ Ok x
    answer_ok x e = let p = le-ltb most_bytes (length s) short in cc

    pub answer_err : (f : SheetFault) → sheet_read kind reads s ≡ Err f → read_answer kind reads a b d s ≡ Err (refusal_of f)
    answer_err f e = let p = le-ltb most_bytes (length s) short in cc

-- what the calls before say of the rows and the flows
module _ {D : Type 0} (n : ℕ) where
  pub rows_passed : (W : Result (Entries D × ℕ) SheetFault) (m j : ℕ) → Ok (m, j) ≡ on {B = ℕ × ℕ} W (λ z. Ok (n, z.1)) → (e : Entries D) × (W ≡ Ok (e, j)) × (m ≡ n)
  rows_passed (Ok z) m j e = (z.0, grind arith, grind arith)
  rows_passed (Err f) m j e = grind arith

  pub rows_stopped : (W : Result (Entries D × ℕ) SheetFault) (f : SheetFault) → Err f ≡ on {B = ℕ × ℕ} W (λ z. Ok (n, z.1)) → W ≡ Err f
  rows_stopped (Ok z) f e = grind arith
  rows_stopped (Err g) f e = cc

module _ (c : Counts) where
  pub board_from : (b : Board) (F : Result (List ℕ) SheetFault) → BoardAs c (Ok b) F → (ps : List ℕ) × (F ≡ Ok ps) × Lists c b ps
  board_from b (Ok ps) l = (ps, refl, l)
  board_from b (Err f) l = absurd l

  pub refusal_from : (e : Refusal) (F : Result (List ℕ) SheetFault) → BoardAs c (Err e) F → (f : SheetFault) × (F ≡ Err f) × (e ≡ refusal_of f)
  refusal_from e (Ok ps) l = absurd l
  refusal_from e (Err f) l = (f, refl, l)

-- the call's answer, and what becomes of a store
module _ {D : Type 0} (X : Result (Sheet D) Refusal) where
  pub found_err : (r : Result Found Refusal) (e : Refusal) → r ≡ Err e → X ≡ Err e → FoundAs r X
  found_err r e p q = rw p (rw q refl)

  pub found_ok : (f : Found) (x : Sheet D) → X ≡ Ok x → Agrees f x → FoundAs (Ok f) X
  found_ok f x q h = rw q h

  module _ {A : Type 0} (entries : Sheet D → List A) (store : List A) where
    pub store_kept : (e : Refusal) → X ≡ Err e → store ≡ store_after entries X store
    store_kept e q = rw q refl

    pub store_filled : (x : Sheet D) (after : List A) → X ≡ Ok x → after ≡ overwritten (entries x) store → after ≡ store_after entries X store
    store_filled x after q h = rw q h

-- where the answer is the refusal that the call returns, the stores stay
pub kept : {D C : Type 0} (cell : D → C) (X : Result (Sheet D) Refusal) (r : Result Found Refusal) (e : Refusal) (steps owners : List ℕ) (displays : List C) → r ≡ Err e → X ≡ Err e
    → FoundAs r X × (steps ≡ store_after (λ x. x.entries.steps) X steps) × (owners ≡ store_after (λ x. x.entries.owners) X owners) × (displays ≡ store_after (λ x. map cell x.entries.displays) X displays)
kept cell X r e steps owners displays p q = (found_err X r e p q, store_kept X (λ x. x.entries.steps) steps e q, store_kept X (λ x. x.entries.owners) owners e q, store_kept X (λ x. map cell x.entries.displays) displays e q)

-- the store of a pass over rows that were read
pub filled_ok : {D A : Type 0} (entries : Entries D → List A) (W : Result (Entries D × ℕ) SheetFault) (before after : List A) (e : Entries D) (j : ℕ) → W ≡ Ok (e, j) → FilledBy entries W before after → after ≡ overwritten (entries e) before
filled_ok entries W before after e j q h = rw q at h
