-- The sheet of a control and its flows, as bytes.
use Rattle.std.specs.Prelude.{ℕ, ◌*◌, ◌/◌, ◌%◌, Bool, cond, not, ◌&&◌, List, [], ◌∷◌, ◌++◌, decimal, ◌==◌}
use Rattle.theory.specs.Control.{ControlValue}
use Rattle.theory.specs.Flows.{Flow}
use Rattle.sheet.specs.Marks.{blank, newline}
use Rattle.sheet.specs.Plan.{tabulate, Row, title, owner, step, shown, counts_title, plan}

abbrev pub concat : List (List ℕ) → List ℕ
concat [] = []
concat (x ∷ xs) = x ++ concat xs

-- words parted by one blank, and a newline at the end
abbrev pub line_of : List (List ℕ) → List ℕ
line_of [] = newline ∷ []
line_of (w ∷ []) = w ++ (newline ∷ [])
line_of (w ∷ (x ∷ ws)) = w ++ (blank ∷ line_of (x ∷ ws))

-- kind is the name of the display kind, mark the mark of a display
module _ {D : Type 0} (kind : List ℕ) (mark : D → List ℕ) (v : ControlValue D) where
  abbrev pub row_text : Row → List ℕ
  row_text (title b ws) = line_of ws
  row_text (owner c) = line_of (decimal c ∷ (decimal (v.owner c) ∷ []))
  row_text (step s c) = line_of (decimal s ∷ (decimal c ∷ (decimal (v.step s c) ∷ [])))
  row_text (shown s u) = line_of (decimal s ∷ (decimal u ∷ (mark (v.shows s u) ∷ [])))

  abbrev pub rows_text : List Row → List ℕ
  rows_text [] = []
  rows_text (r ∷ rs) = row_text r ++ rows_text rs

  abbrev pub counts_text : List ℕ
  counts_text = line_of (decimal v.states ∷ (decimal v.commands ∷ (decimal v.consoles ∷ (decimal v.start ∷ (kind ∷ [])))))

-- the flow of pair p of k consoles is from p / k to p % k
abbrev pub listed : ℕ → Flow → ℕ → Bool
listed k F p = not (p / k == p % k) && F (p / k) (p % k)

abbrev pub pairs_kept : (ℕ → Bool) → List ℕ → List ℕ
pairs_kept f [] = []
pairs_kept f (p ∷ ps) = cond (f p) (p ∷ pairs_kept f ps) (pairs_kept f ps)

-- the flows without self flows, ascending, as numbers of pairs
abbrev pub flow_pairs : ℕ → Flow → List ℕ
flow_pairs k F = pairs_kept (listed k F) (tabulate 0 (k * k) (λ p. p))

abbrev pub flows_text : ℕ → List ℕ → List ℕ
flows_text k [] = []
flows_text k (p ∷ ps) = line_of (decimal (p / k) ∷ (decimal (p % k) ∷ [])) ++ flows_text k ps

abbrev pub sheet_text : {D : Type 0} → List ℕ → (D → List ℕ) → ControlValue D → Flow → List ℕ
sheet_text kind mark v F =
    row_text kind mark v counts_title
    ++ (counts_text kind mark v
    ++ (rows_text kind mark v (plan v.states v.commands v.consoles)
    ++ flows_text v.consoles (flow_pairs v.consoles F)))
