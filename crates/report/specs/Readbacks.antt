-- The permitted flows in words.
use Rattle.std.specs.Prelude.{ℕ, Bool, cond, not, ◌&&◌, List, [], ◌++◌, codes, decimal, ◌==◌}
use Rattle.theory.specs.Flows.{Flow}
use Rattle.report.specs.Lines.{upto}

-- a flow between two different consoles
abbrev pub stands : Flow → ℕ → ℕ → Bool
stands F u v = not (u == v) && F u v

abbrev pub flow_line : Flow → ℕ → ℕ → List ℕ
flow_line F u v = cond (stands F u v) (codes "console " ++ (decimal u ++ (codes " may affect console " ++ (decimal v ++ codes "\n")))) []

-- the flows from console u of k
abbrev pub flow_lines : Flow → ℕ → ℕ → List ℕ
flow_lines F k u = upto (flow_line F u) k

-- u, where it may affect v
abbrev pub giver : Flow → ℕ → ℕ → List ℕ
giver F v u = cond (stands F u v) (codes ", console " ++ decimal u) []

abbrev pub givers_begun : ℕ → List ℕ
givers_begun v = codes "console " ++ (decimal v ++ codes " may be affected by itself")

-- for console v of k: by whom it may be affected
abbrev pub givers_line : Flow → ℕ → ℕ → List ℕ
givers_line F k v = givers_begun v ++ (upto (giver F v) k ++ codes "\n")

abbrev pub readback_text : Flow → ℕ → List ℕ
readback_text F k =
    codes "Permitted flows:\n"
    ++ (upto (flow_lines F k) k
    ++ (codes "Seen from each console:\n"
    ++ upto (givers_line F k) k))
