-- The rows that are still due begin with the row due and go on with those of the next.
use Rattle.std.proofs.Common.{◌≡◌, ℕ, zero, suc, ◌+◌, ◌-◌, ◌*◌, ◌/◌, ◌%◌, ◌<◌, ◌≤◌, cond, ltb, List, [], ◌∷◌, ◌++◌, length, Some, Option, sym, refl, ap, ◌∙◌, arith, length-append}
use Rattle.std.proofs.Math.Nat.{mul-pos, sub-zero}
use Rattle.std.proofs.lemmas.Nat.{mul-le}
use Rattle.std.proofs.lemmas.Bool.{cond_both, ltb-true, ltb-false}
use Rattle.control.specs.declared.table.Counts.{Counts}
use Rattle.sheet.specs.Plan.{tabulate, Row, owner, step, shown, block_of, plan}
use Rattle.sheet.specs.Due.{Within, row_of, number_of, rows_due, rows_left, next_due, Stands, StandsLeft}
use Rattle.sheet.specs.declared.due.Block.TheVariants as block
use Rattle.sheet.specs.declared.due.Due.{Due}
use Rattle.sheet.specs.declared.due.Due.TheVariants as due

pub tabulate_more : {A : Type 0} (n k : ℕ) (f : ℕ → A) → k < n → tabulate k (n - k) f ≡ f k ∷ tabulate (k + 1) (n - (k + 1)) f
tabulate_more n k f h = let e : n - k ≡ suc (n - (k + 1)) = omega arith in ap (λ m. tabulate k m f) e

pub tabulate_done : {A : Type 0} (n k : ℕ) (f : ℕ → A) → n ≤ k → tabulate k (n - k) f ≡ []
tabulate_done n k f h = let e : n - k ≡ 0 = omega arith in ap (λ m. tabulate k m f) e

pub length_tabulate : {A : Type 0} (k n : ℕ) (f : ℕ → A) → length (tabulate k n f) ≡ n
length_tabulate k zero f = refl
length_tabulate k (suc n) f = ap suc (length_tabulate (k + 1) n f)

-- row k of n, and the rows behind it: `more` while there are some, then `rest`
handed_over : (n k : ℕ) (f : ℕ → Row) (rest : List Row) (F : Option Due → List Row) (more last : Option Due) → F more ≡ tabulate (k + 1) (n - (k + 1)) f ++ rest → F last ≡ rest → k < n → tabulate k (n - k) f ++ rest ≡ f k ∷ F (cond (ltb (k + 1) n) more last)
handed_over n k f rest F more last m l h =
    ap (λ rs. rs ++ rest) (tabulate_more n k f h)
    ∙ ap (λ rs. f k ∷ rs) (cond_both (ltb (k + 1) n) more last (λ d. tabulate (k + 1) (n - (k + 1)) f ++ rest ≡ F d) (λ e. sym m) (λ e. ap (λ rs. rs ++ rest) (tabulate_done n (k + 1) f (ltb-false (k + 1) n e)) ∙ sym l))

pub rows_step : (c : Counts) (d : Due) → Stands c d → rows_due c d ≡ row_of c d ∷ rows_left c (next_due c d)
rows_step c (due.Title block.Owners) h = refl
rows_step c (due.Title block.Steps) h = refl
rows_step c (due.Title block.Displays) h = refl
rows_step c (due.Title block.Flows) h = refl
rows_step c (due.Owner n) h = handed_over c.commands n owner _ (rows_left c) _ _ refl refl h
rows_step c (due.Step n) h = handed_over (c.states * c.commands) n (λ r. step (r / c.commands) (r % c.commands)) _ (rows_left c) _ _ refl refl h
rows_step c (due.Shown n) h = handed_over (c.states * c.consoles) n (λ r. shown (r / c.consoles) (r % c.consoles)) _ (rows_left c) _ _ refl refl h

stands_or : (c : Counts) (n k : ℕ) (more last : Due) → (k + 1 < n → Stands c more) → Stands c last → StandsLeft c (cond (ltb (k + 1) n) (Some more) (Some last))
stands_or c n k more last m l = cond_both (ltb (k + 1) n) (Some more) (Some last) (StandsLeft c) (λ e. m (ltb-true (k + 1) n e)) (λ e. l)

pub stands_next : (c : Counts) (d : Due) → Within c → StandsLeft c (next_due c d)
stands_next c (due.Title block.Owners) w = omega (arith, w.commands.0)
stands_next c (due.Title block.Steps) w = mul-pos w.states.0 w.commands.0
stands_next c (due.Title block.Displays) w = mul-pos w.states.0 w.consoles.0
stands_next c (due.Title block.Flows) w = tt
stands_next c (due.Owner n) w = stands_or c c.commands n _ _ (λ h. h) tt
stands_next c (due.Step n) w = stands_or c (c.states * c.commands) n _ _ (λ h. h) tt
stands_next c (due.Shown n) w = stands_or c (c.states * c.consoles) n _ _ (λ h. h) tt

pub block_number : (c : Counts) (d : Due) → number_of d ≡ block_of (row_of c d)
block_number c (due.Title b) = refl
block_number c (due.Owner n) = refl
block_number c (due.Step n) = refl
block_number c (due.Shown n) = refl

-- at the start every row of the plan is due
pub all_due : (c : Counts) → plan c.states c.commands c.consoles ≡ rows_due c (due.Title block.Owners)
all_due c = simp sub-zero

-- and they are few
pub few_rows : (c : Counts) → Within c → length (rows_due c (due.Title block.Owners)) ≤ 3628
few_rows c w =
    let p = mul-le c.states c.commands 100 24 w.states.1 w.commands.1 in
    let q = mul-le c.states c.consoles 100 12 w.states.1 w.consoles.1 in
    let small = w.commands.1 in
    simp (length-append, length_tabulate) (omega arith)
